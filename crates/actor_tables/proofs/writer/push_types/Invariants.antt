use Rattle.std.proofs.Common.{◌≡◌, ◌++◌, drop}
use Rattle.actor_tables.specs.TableText.{types_text}
use Rattle.actor_tables.proofs.writer.push_types.Given as goal

-- what is written and the text of what is left
abbrev pub invariant-loop-number : goal.invariant-loop-number
invariant-loop-number l =
    l.out.items ++ types_text l.schema l.number (drop l.number l.types) ≡ l.fn.out.items ++ types_text l.schema 0 l.types
