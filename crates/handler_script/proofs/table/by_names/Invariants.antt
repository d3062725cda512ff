use Rattle.std.proofs.Common.{◌≡◌, List, ℕ, drop}
use Rattle.std.specs.Prelude.{find}
use Rattle.std.specs.Str.{bytes_eq}
use Rattle.handler_script.specs.Tables.{row_at}
use Rattle.handler_script.proofs.table.by_names.Given as goal

-- the names of the messages from this one on
abbrev pub invariant-loop-index : goal.invariant-loop-index
invariant-loop-index l = (name : List ℕ) → row_at name l.names ≡ find (λ m. bytes_eq m.name name) (drop l.index l.messages)
