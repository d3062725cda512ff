-- Tests of sides and of the lines of a history.
use Rattle.std.specs.Prelude.{Bool, true, false}
use Rattle.ipdl_base.specs.declared.kinds.Side.{Side}
use Rattle.ipdl_base.specs.declared.kinds.Side.TheVariants as side
use Rattle.ipdl_base.specs.declared.line.What.{What}
use Rattle.ipdl_base.specs.declared.line.What.TheVariants as what

-- whether both are the same end
abbrev pub same_side : Side → Side → Bool
same_side side.Parent side.Parent = true
same_side side.Child side.Child = true
same_side _ _ = false

-- whether a line is an effect of the event before it
abbrev pub is_effect : What → Bool
is_effect (what.Built id protocol) = true
is_effect (what.Replaced n) = true
is_effect (what.AnswerOk n values) = true
is_effect (what.AnswerFault n reason) = true
is_effect (what.Fails n) = true
is_effect (what.Resolved n values) = true
is_effect (what.Rejected n reason) = true
is_effect (what.Fall id destroy) = true
is_effect _ = false
