-- The number of lines that each end of a run prints, and of packets that it puts on its link, by the number of its
-- events.
use Rattle.std.specs.Prelude.{ℕ, ◌+◌, ◌*◌, ◌≤◌, not, ◌&&◌, cond, List, [], length}
use Rattle.std.specs.List.{flat_map}
use Rattle.ipdl_base.specs.declared.kinds.Side.{Side}
use Rattle.ipdl_base.specs.declared.line.Line.{Line}
use Rattle.ipdl_base.specs.declared.schema.Schema.{Schema}
use Rattle.ipdl_base.specs.Lines.{is_effect, same_side}
use Rattle.ipdl_base.specs.Sound.{IsSound}
use Rattle.history_reading.specs.declared.parts.PacketKind.{PacketKind}
use Rattle.channel_model.specs.Bounds.{unsettled}
use Rattle.channel_model.specs.Ends.{World, end_of, link_to, opening}
use Rattle.channel_model.specs.Events.{Move}
use Rattle.ipdl_base.specs.Sides.{other}
use Rattle.channel_model.specs.Runs.{RunState, run}
use Rattle.channel_laws.specs.Counts.{how_many}
use Rattle.channel_laws.specs.Delivered.{delivered_by}

-- the number of lines of a side
abbrev pub lines_of : Side → List Line → ℕ
lines_of side lines = how_many (λ line. same_side line.side side) lines

-- the number of events of a side
abbrev pub events_of : Side → List Line → ℕ
events_of side lines = how_many (λ line. same_side line.side side && not (is_effect line.what)) lines

-- what was delivered at a side, by the lines
abbrev pub delivered_at : Side → List Line → List PacketKind
delivered_at side lines = flat_map (λ line. cond (same_side line.side side) (delivered_by line.what) []) lines

-- the number of packets of an end that wait: on the link to the other end, and in its outbox
abbrev pub waiting_of : Side → World → ℕ
waiting_of side world = length (link_to (other side) world) + length (end_of side world).outbox

-- The lines that a side has printed, with the things that it has yet to settle, are at most five for each of its
-- events, and one more. The packets of it that were delivered, with those that wait, are at most two for each.
pub record IsBoundedRun (side : Side) (run : RunState) : Type 0 where
  pub lines : lines_of side run.lines + unsettled (end_of side run.world) ≤ 5 * events_of side run.lines + 1
  pub packets : length (delivered_at (other side) run.lines) + waiting_of side run.world ≤ 2 * events_of side run.lines

-- Every history is bounded at both sides.
abbrev pub HistoriesAreBounded : Type 0
HistoriesAreBounded = (schema : Schema) → IsSound schema → (top : ℕ) (moves : List Move) (side : Side) → IsBoundedRun side (run schema moves (opening top))
