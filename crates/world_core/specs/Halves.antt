-- Halves of a run that make steps away from the link, and what they do when they meet it.
use Rattle.std.specs.Prelude.{◌≡◌, ℕ, ◌≤◌, nat_lt, Bool, true, false, ◌&&◌, is_some, List, [], ◌++◌, length, replicate, Some}
use Rattle.std.specs.List.{AllByRecursion}
use Rattle.handler_script.specs.ScriptOf.{first_of}
use Rattle.handler_script.specs.Valid.{IsValid}
use Rattle.ipdl_base.specs.declared.kinds.Side.{Side}
use Rattle.ipdl_base.specs.declared.kinds.Side.TheVariants as sides
use Rattle.ipdl_base.specs.declared.line.Line.{Line}
use Rattle.ipdl_base.specs.Sound.{IsSound}
use Rattle.channel_model.specs.Ends.{end_of, link_to}
use Rattle.channel_model.specs.Ends as model
use Rattle.ipdl_base.specs.Sides.{other}
use Rattle.channel_model.specs.Outputs.{is_open}
use Rattle.channel_model.specs.Runs.{RunState}
use Rattle.channel_core.specs.EndView.{IsFramed, packets_of}
use Rattle.script_steps.specs.Choices.{Choice, IsCaseHistory, Setting, beginning_of, played}
use Rattle.script_steps.specs.Progress.{lines_of, progress_of}
use Rattle.world_core.specs.declared.answers.MeetAnswer.{MeetAnswer}
use Rattle.world_core.specs.declared.answers.MeetAnswer.TheVariants as answer
use Rattle.world_core.specs.declared.answers.StepAnswer.{StepAnswer}
use Rattle.world_core.specs.declared.answers.StepAnswer.TheVariants as step
use Rattle.world_core.specs.HalfView.{HalfView, IsCountedBy, setting_of}
use Rattle.world_core.specs.LinkView.{IsAppended, LinkView, packets_to}
use Rattle.world_core.specs.WorldView.{WorldView, state_of}
use Rattle.world_core.specs.Worlds.{IsRun, most_events}

-- this number of own steps of a side, and of deliveries to it
abbrev pub own_choices : Side → ℕ → List Choice
own_choices side count = replicate count (record { side = side; delivers = false })

abbrev pub deliveries_to : Side → ℕ → List Choice
deliveries_to side count = replicate count (record { side = side; delivers = true })

-- A half has come as far as its side in a state of a run by a valid script of a sound schema, to which choices lead.
-- Nothing is stated of what it has stored.
pub record HasComeTo (setting : Setting) (state : RunState) (side : Side) (half : HalfView) : Type 0 where
  pub sound : IsSound setting.schema
  pub valid : IsValid setting.schema setting.script
  pub small : setting.limit ≤ most_events
  pub choices : List Choice
  pub plays : played setting choices (beginning_of setting) ≡ Some state
  pub about : setting_of half ≡ setting
  pub end : half.end.end ≡ end_of side state.world
  pub counted : IsCountedBy half (progress_of side state.lines)

-- This number of own steps of a side alone led from a state of a run to another. A half has stored the lines and the packets
-- of these steps, and each packet has a frame.
pub record HasStored (setting : Setting) (side : Side) (from to : RunState) (half : HalfView) : Type 0 where
  pub count : ℕ
  pub plays : played setting (own_choices side count) from ≡ Some to
  pub lines : to.lines ≡ from.lines ++ half.end.lines
  pub sent : List model.Packet
  pub away : link_to (other side) to.world ≡ link_to (other side) from.world ++ sent
  pub packets : half.end.packets ≡ packets_of setting.schema sent
  pub framed : AllByRecursion (IsFramed setting.schema) sent

-- A half fits after lines: they are those of a state of a run, from which it has come by own steps of its side alone.
pub record FitsAfter (setting : Setting) (side : Side) (seen : List Line) (half : HalfView) : Type 0 where
  pub from : RunState
  pub leading : List Choice
  pub leads : played setting leading (beginning_of setting) ≡ Some from
  pub is_seen : from.lines ≡ seen
  pub to : RunState
  pub come : HasComeTo setting to side half
  pub stored : HasStored setting side from to half

-- What a half has stored follows the lines that it fits in a history of the script.
abbrev pub StoredLinesFollow : Type 0
StoredLinesFollow = (setting : Setting) (side : Side) (seen : List Line) (half : HalfView) → FitsAfter setting side seen half → IsCaseHistory setting (seen ++ half.end.lines)

-- A half that fits after lines fits after more lines of the other side too, where these are a history of the script: the same
-- number of own steps leads there to the same end, the same progress, the same lines and the same packets.
abbrev pub HalvesFitAfterMore : Type 0
HalvesFitAfterMore =
    (setting : Setting) (side : Side) (seen others : List Line) (half : HalfView) → FitsAfter setting side seen half → lines_of side others ≡ [] → IsCaseHistory setting (seen ++ others)
    → FitsAfter setting side (seen ++ others) half

-- a link is home: its lines and its packets are those of a state of a run
abbrev pub IsHome : Setting → LinkView → Type 0
IsHome setting link = IsRun setting (state_of setting link.lines) link

-- a half has nothing left to append
abbrev pub IsEmptied : HalfView → Type 0
IsEmptied half = (half.end.lines ≡ []) × (half.end.packets ≡ [])

-- Both halves of a run and its link, separately, with nothing left to append.
pub record IsSplit (setting : Setting) (parent child : HalfView) (link : LinkView) : Type 0 where
  pub home : IsHome setting link
  pub parent_fits : FitsAfter setting sides.Parent link.lines parent
  pub parent_emptied : IsEmptied parent
  pub child_fits : FitsAfter setting sides.Child link.lines child
  pub child_emptied : IsEmptied child

-- the world of a half and a link
abbrev pub joined : HalfView → LinkView → WorldView
joined half link = record { setting = setting_of half; state = state_of (setting_of half) link.lines }

-- This number of deliveries to a side alone leads from a state of a run to another, and adds lines of that side.
pub record Delivers (setting : Setting) (side : Side) (from to : RunState) : Type 0 where
  pub count : ℕ
  pub plays : played setting (deliveries_to side count) from ≡ Some to
  pub lines : List Line
  pub following : to.lines ≡ from.lines ++ lines
  pub own : lines_of (other side) lines ≡ []

-- A half has met the link: what it had stored, all of its side, was appended, and then deliveries were made to its side.
-- The link is home again, and the half fits after it with nothing left to append.
pub record HasMet (setting : Setting) (side : Side) (half : HalfView) (link : LinkView) (half' : HalfView) (link' : LinkView) : Type 0 where
  pub between : LinkView
  pub appends : IsAppended link half.end.lines (other side) half.end.packets between
  pub count : ℕ
  pub plays : played setting (own_choices side count) (state_of setting link.lines) ≡ Some (state_of setting between.lines)
  pub own : lines_of (other side) half.end.lines ≡ []
  pub delivers : Delivers setting side (state_of setting between.lines) (state_of setting link'.lines)
  pub lines : link'.lines ≡ (link.lines ++ half.end.lines) ++ delivers.lines
  pub home : IsHome setting link'
  pub fits : FitsAfter setting side link'.lines half'
  pub emptied : IsEmptied half'

-- whether a packet waits for a half at an open end
abbrev pub is_waited_for : Side → HalfView → LinkView → Bool
is_waited_for side half link = is_open half.end.end.state && is_some (first_of (packets_to side link))

-- How a meeting ends: nothing waits any more, and this number of lines was appended; or something waits, but the side has
-- reached its limit of events; or memory ran out.
abbrev pub MeetEnds : Side → HalfView → MeetAnswer → HalfView → LinkView → Type 0
MeetEnds side half (answer.Moved count) half' link' = (count ≡ length half.end.lines) × (is_waited_for side half' link' ≡ false)
MeetEnds side half (answer.Spent at) half' link' = (at ≡ side) × (is_waited_for side half' link' ≡ true) × (nat_lt half'.counts.events half'.limit ≡ false)
MeetEnds side half answer.NoMemory half' link' = Unit {0}

-- how deliveries end, one after another: nothing waits any more, or the side has reached its limit of events, or memory
-- ran out
abbrev pub DeliveriesEnd : Side → StepAnswer → HalfView → LinkView → Type 0
DeliveriesEnd side step.Did half link = ⊥
DeliveriesEnd side step.Nothing half link = is_waited_for side half link ≡ false
DeliveriesEnd side (step.Spent at) half link = (at ≡ side) × (is_waited_for side half link ≡ true) × (nat_lt half.counts.events half.limit ≡ false)
DeliveriesEnd side step.NoMemory half link = Unit {0}
