-- The result of a meeting on a link that two threads share.
use Rattle.std.specs.Prelude.{◌≡◌, List}
use Rattle.ipdl_base.specs.declared.kinds.Side.{Side}
use Rattle.ipdl_base.specs.declared.line.Line.{Line}
use Rattle.script_steps.specs.Choices.{Setting}
use Rattle.thread_link.specs.Fronts.{HasSeen}
use Rattle.world_core.specs.declared.answers.MeetAnswer.{MeetAnswer}
use Rattle.world_core.specs.HalfView.{HalfView}
use Rattle.world_core.specs.Halves.{HasMet, MeetEnds}
use Rattle.world_core.specs.LinkView.{LinkView}

-- A half of a side, which had seen some lines, has met a link. The link that it found continues these lines with lines of
-- the other side only. The half left the link as a meeting leaves it, and has seen the lines of the link as it left it.
pub record MeetsShared (setting : Setting) (side : Side) (seen : List Line) (half : HalfView) (answer : MeetAnswer) (now_seen : List Line) (after : HalfView) : Type 0 where
  pub found : LinkView
  pub left : LinkView
  pub front : HasSeen side seen found.lines
  pub met : HasMet setting side half found after left
  pub ends : MeetEnds side half answer after left
  pub told : now_seen ≡ left.lines
