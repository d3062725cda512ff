use Rattle.std.proofs.Common.{◌≡◌, List, ℕ, take, Bor}
use Rattle.std.specs.Prelude.{nat_eq}
use Rattle.std.specs.Cmp.Lexicographic.{pointwise}
use Rattle.std.specs.HashSet.{contains}
use Rattle.std.specs.List.{list_any}
use Rattle.manager_rules.specs.Subjects.{same_name}
use Rattle.manager_rules.proofs.subject.message_names.Given as goal

-- the names so far
abbrev pub invariant-loop-message : goal.invariant-loop-message
invariant-loop-message l = (q : Bor (List ℕ)) → contains same_name l.names q ≡ list_any (λ m. pointwise nat_eq m.name q.now) (take l.message-index l.messages)
