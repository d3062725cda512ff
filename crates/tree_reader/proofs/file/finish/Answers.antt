use Rattle.std.proofs.Common.{inl, inr, ◌⊎◌, ◌≢◌, true, false, length, rules, ◌≡◌}
use Rattle.tree_reader.specs.Files.{may_come}
use Rattle.tree_reader.proofs.FileForms.{not_ended, all_read}
use Rattle.tree_reader.proofs.file.finish.Goals as goal
use Rattle.tree_reader.proofs.file.finish.Goals.{then-may_come-via-then-may_come, then-may_come-via-else-may_come+then-not-is_empty}

why : (c : goal.After-drop-draft-then-may_come-9) → (may_come c.args.kind c.args.draft.protocol ≡ true) ⊎ (length c.args.draft.scope.items ≢ 0)
why c = elim c.then-may_come.branch [
  | then-may_come-via-then-may_come w ↦ inl (search rules)
  | then-may_come-via-else-may_come+then-not-is_empty w ↦ inr (search rules)
]

pub returns-then-may_come-clause-stops : goal.returns-then-may_come-clause-stops
returns-then-may_come-clause-stops c = λ tokens h. not_ended c.args.kind tokens c.args.draft (why c) h

pub returns-clause-read : goal.returns-clause-read
returns-clause-read c = λ tokens h.
    let none : may_come c.args.kind c.args.draft.protocol ≡ false = search rules in
    let outside : length c.args.draft.scope.items ≡ 0 = search rules in
    all_read c.args.kind tokens c.args.draft _ none outside (λ i. record { includes = c.from_vec.ensures i; usings = c.from_vec-2.ensures i; structs = c.from_vec-3.ensures i; unions = c.from_vec-4.ensures i; protocol = c.args.draft.protocol }) h
