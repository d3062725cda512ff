use Rattle.std.proofs.Common.{◌≡◌, drop}
use Rattle.std.specs.List.{list_any}
use Rattle.handler_script.specs.Blocks.{closes, statements}
use Rattle.handler_script.proofs.lines.is_closed.Given as goal

-- no line so far closes a block
abbrev pub invariant-loop-line : goal.invariant-loop-line
invariant-loop-line l = list_any closes (statements (drop l.line-index l.lines)) ≡ list_any closes (statements l.lines)
