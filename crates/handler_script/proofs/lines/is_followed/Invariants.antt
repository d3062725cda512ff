use Rattle.std.proofs.Common.{◌≡◌, drop}
use Rattle.handler_script.specs.Blocks.{statements}
use Rattle.handler_script.proofs.lines.is_followed.Given as goal

-- no line so far is a statement
abbrev pub invariant-loop-line : goal.invariant-loop-line
invariant-loop-line l = statements (drop l.line-index l.lines) ≡ statements l.lines
