use Rattle.std.proofs.Common.{◌≡◌, ◌++◌, drop}
use Rattle.actor_tables.specs.TableText.{protocols_text}
use Rattle.actor_tables.proofs.writer.push_protocols.Given as goal

-- what is written and the text of what is left
abbrev pub invariant-loop-number : goal.invariant-loop-number
invariant-loop-number l =
    l.out.items ++ protocols_text l.schema l.number (drop l.number l.protocols) ≡ l.fn.out.items ++ protocols_text l.schema 0 l.protocols
