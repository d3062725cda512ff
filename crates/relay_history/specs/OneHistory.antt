-- The one history of both ends that a relay is.
use Rattle.std.specs.Prelude.{◌≡◌, ◌↔◌, List, ◌++◌, filter}
use Rattle.ipdl_base.specs.declared.kinds.Side.{Side}
use Rattle.ipdl_base.specs.declared.kinds.Side.TheVariants as sides
use Rattle.ipdl_base.specs.declared.line.Line.{Line}
use Rattle.ipdl_base.specs.Lines.{same_side}
use Rattle.channel_model.specs.Ends.{end_of, link_to}
use Rattle.ipdl_base.specs.Sides.{other}
use Rattle.script_steps.specs.Choices.{IsCaseHistory, Setting}
use Rattle.script_runs.specs.Endings as histories
use Rattle.script_steps.specs.Turns.{RunEnding}
use Rattle.relay_runs.specs.RelaySteps.{RelayState, half_of}
use Rattle.relay_runs.specs.Relays.{EndsAs}

-- the lines of one side among those of both
abbrev pub side_lines : Side → List Line → List Line
side_lines side lines = filter (λ line. same_side line.side side) lines

-- Some history of the script has as lines of each side those of its half, and both ends are there as they are in the
-- halves. What a side has sent is what came to the other and then what is on the link toward it. Each packet that came was
-- delivered as it is, and never a mark in its place. The relay ends as a run with this history does: it is finished exactly
-- where nothing is left to do, and spent at a side exactly where that has something to do but has reached the limit.
pub record IsOneHistory (setting : Setting) (state : RelayState) : Type 0 where
  pub lines : List Line
  pub history : IsCaseHistory setting lines
  pub halves : (side : Side) → side_lines side lines ≡ (half_of side state).lines
  pub ends : (side : Side) → end_of side history.state.world ≡ (half_of side state).end
  pub links : (side : Side) → (half_of (other side) state).sent ≡ (half_of side state).came ++ link_to side history.state.world
  pub unmarked : (side : Side) → (half_of side state).delivered ≡ (half_of side state).came
  pub ending : (ending : RunEnding) → EndsAs setting state ending ↔ histories.EndsAs setting history.state ending

-- Some history of the script has these lines of the parent and those of the child.
pub record HasOneHistory (setting : Setting) (parent child : List Line) : Type 0 where
  pub lines : List Line
  pub history : IsCaseHistory setting lines
  pub of_parent : side_lines sides.Parent lines ≡ parent
  pub of_child : side_lines sides.Child lines ≡ child
