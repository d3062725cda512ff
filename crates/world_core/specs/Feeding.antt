-- How the half of a feed, and the trace beside it, go through the states of the feed.
use Rattle.std.specs.Prelude.{◌≡◌, ℕ, ◌+◌, ◌<◌, ◌≤◌, nat_lt, Bool, true, false, List, [], ◌∷◌, map, None, is_some}
use Rattle.handler_script.specs.Valid.{IsValid}
use Rattle.ipdl_base.specs.declared.kinds.Side.{Side}
use Rattle.ipdl_base.specs.declared.line.Line.{Line}
use Rattle.ipdl_base.specs.declared.message.Message.{Message}
use Rattle.ipdl_base.specs.Sound.{IsSound}
use Rattle.value_codec.specs.Laws.{AreBytes}
use Rattle.channel_model.specs.Ends.{Packet, message, mark}
use Rattle.channel_model.specs.Events.{Event}
use Rattle.channel_model.specs.Events as event
use Rattle.channel_model.specs.Outputs.{is_open}
use Rattle.end_parts.specs.MovedLines.{HasMoved}
use Rattle.end_parts.specs.PlainLines.{plain_line}
use Rattle.script_steps.specs.Choices.{Setting}
use Rattle.script_steps.specs.NextEvent.{next_event}
use Rattle.script_steps.specs.Progress.{Progress, progress_of}
use Rattle.feed_runs.specs.FeedTurns.{FeedState, Feeds, beginning_of}
use Rattle.feed_runs.specs.NextFrame.{NextFrame, taken, refused}
use Rattle.feed_runs.specs.Reached.{Reaches}
use Rattle.world_core.specs.declared.answers.StepAnswer.{StepAnswer}
use Rattle.world_core.specs.declared.answers.StepAnswer.TheVariants as answer
use Rattle.world_core.specs.declared.feeding.FeedTrace.{FeedTrace}
use Rattle.world_core.specs.declared.feeding.FrameAnswer.{FrameAnswer}
use Rattle.world_core.specs.declared.feeding.FrameAnswer.TheVariants as frame
use Rattle.world_core.specs.HalfSteps.{IsHalfStep, IsOwnStep, next_of}
use Rattle.world_core.specs.HalfView.{HalfView, IsCountedBy, appended, setting_of}
use Rattle.world_core.specs.Worlds.{most_events}

-- the lines of a trace, with every box at one place, and the progress of a side after them
abbrev pub lines_in : FeedTrace → List Line
lines_in trace = map plain_line trace.history.lines

abbrev pub progress_in : Side → FeedTrace → Progress
progress_in side trace = progress_of side (lines_in trace)

-- The packets that came to a half, those that were delivered in their places, and those that it has sent.
pub record Passed : Type 0 where
  pub came : List Packet
  pub delivered : List Packet
  pub sent : List Packet

-- the state of a feed that has this end, this trace and these packets
abbrev pub state_in : HalfView → FeedTrace → Passed → FeedState
state_in half trace passed = record {
  half = record { end = half.end.end; lines = lines_in trace; came = passed.came; delivered = passed.delivered; sent = passed.sent };
  place = trace.place;
  fault = trace.fault;
}

-- A half and a trace fit: the half has the setting, has nothing stored, and has come as far as the lines of the trace.
pub record IsTraced (setting : Setting) (side : Side) (half : HalfView) (trace : FeedTrace) : Type 0 where
  pub about : setting_of half ≡ setting
  pub no_lines : half.end.lines ≡ []
  pub no_packets : half.end.packets ≡ []
  pub counted : IsCountedBy half (progress_in side trace)

-- A feed of bytes by a valid script of a sound schema has come to them, with some packets.
pub record HasCome (setting : Setting) (side : Side) (bytes : List ℕ) (half : HalfView) (trace : FeedTrace) : Type 0 where
  pub sound : IsSound setting.schema
  pub valid : IsValid setting.schema setting.script
  pub small : setting.limit ≤ most_events
  pub are : AreBytes bytes
  pub traced : IsTraced setting side half trace
  pub passed : Passed
  pub reached : Reaches setting side bytes (beginning_of setting side) (state_in half trace passed)

-- The feed ends with them, spent or not.
pub record HasEnded (setting : Setting) (side : Side) (bytes : List ℕ) (spent : Bool) (half : HalfView) (trace : FeedTrace) : Type 0 where
  pub passed : Passed
  pub feeds : Feeds setting side bytes (beginning_of setting side) (state_in half trace passed) spent

-- A turn has led on from a trace: the feed has come to a new half and a new trace, by one event more.
pub record HasLedOn (setting : Setting) (side : Side) (bytes : List ℕ) (trace : FeedTrace) (half' : HalfView) (trace' : FeedTrace) : Type 0 where
  pub come : HasCome setting side bytes half' trace'
  pub few : (progress_in side trace).events < setting.limit
  pub more : (progress_in side trace').events ≡ (progress_in side trace).events + 1

-- a turn has led on; or the feed ends, at rest or spent; or memory ran out
abbrev pub TurnGives : Setting → Side → List ℕ → FeedTrace → StepAnswer → HalfView → FeedTrace → Type 0
TurnGives setting side bytes trace answer.Did half' trace' = HasLedOn setting side bytes trace half' trace'
TurnGives setting side bytes trace answer.Nothing half' trace' = HasEnded setting side bytes false half' trace'
TurnGives setting side bytes trace (answer.Spent at) half' trace' = HasEnded setting side bytes true half' trace'
TurnGives setting side bytes trace answer.NoMemory half' trace' = Unit {0}

-- the end has no own step
abbrev pub RestsAt : Setting → Side → HalfView → FeedTrace → Type 0
RestsAt setting side half trace = next_event setting.script setting.stop half.end.end (progress_in side trace) ≡ None

-- A half has moved its lines to the history of a trace, and has nothing stored.
pub record HasStored (half : HalfView) (trace : FeedTrace) (half' : HalfView) (trace' : FeedTrace) : Type 0 where
  pub half_is : half' ≡ appended half
  pub trace_is : trace' ≡ record trace { history = trace'.history }
  pub moved : HasMoved half.end.lines trace.history trace'.history

abbrev pub StoreGives : HalfView → FeedTrace → StepAnswer → HalfView → FeedTrace → Type 0
StoreGives half trace answer.Did half' trace' = HasStored half trace half' trace'
StoreGives half trace answer.Nothing half' trace' = ⊥
StoreGives half trace (answer.Spent side) half' trace' = ⊥
StoreGives half trace answer.NoMemory half' trace' = Unit {0}

-- an own step was made and its lines were stored; or there is no own step; or it would pass the limit; or memory ran out
abbrev pub OwnTurnGives : HalfView → Progress → FeedTrace → StepAnswer → HalfView → FeedTrace → Type 0
OwnTurnGives half progress trace answer.Did half' trace' = (between : HalfView) × IsOwnStep half progress between × HasStored between trace half' trace'
OwnTurnGives half progress trace answer.Nothing half' trace' = (next_of half progress ≡ None) × (half' ≡ half) × (trace' ≡ trace)
OwnTurnGives half progress trace (answer.Spent side) half' trace' =
    (is_some (next_of half progress) ≡ true) × (nat_lt half.counts.events half.limit ≡ false) × (half' ≡ half) × (trace' ≡ trace)
OwnTurnGives half progress trace answer.NoMemory half' trace' = Unit {0}

-- An open half of a sound schema may have one delivery more.
pub record MayBeGiven (half : HalfView) (progress : Progress) : Type 0 where
  pub sound : IsSound half.end.schema
  pub open_is : is_open half.end.end.state ≡ true
  pub counted : IsCountedBy half progress
  pub few : half.end.end.delivered < 268435456
  pub within : nat_lt half.counts.events half.limit ≡ true

-- An end looks at the bytes: it has no own step, is open, and may have one event more.
pub record MayRead (setting : Setting) (side : Side) (half : HalfView) (trace : FeedTrace) : Type 0 where
  pub rests : RestsAt setting side half trace
  pub open_is : is_open half.end.end.state ≡ true
  pub within : nat_lt half.counts.events half.limit ≡ true

-- What became of a frame: it was delivered, or refused, which changed nothing.
abbrev pub FrameGives : HalfView → Progress → NextFrame → FrameAnswer → HalfView → Type 0
FrameGives half progress next (frame.Taken size) half' = (m : Message) × (next ≡ taken m size) × IsHalfStep half progress (message m ∷ []) event.deliver half'
FrameGives half progress next (frame.Refused fault) half' = (packet : Packet) × (next ≡ refused packet fault) × (half' ≡ half)
FrameGives half progress next frame.NoMemory half' = Unit {0}

-- A half has made the step of an event, and stored its lines.
pub record HasStoredStep (half : HalfView) (progress : Progress) (link : List Packet) (happened : Event) (trace : FeedTrace) (half' : HalfView) (trace' : FeedTrace) : Type 0 where
  pub between : HalfView
  pub steps : IsHalfStep half progress link happened between
  pub stored : HasStored between trace half' trace'

-- the mark of a death was delivered, unless memory ran out
abbrev pub BreakGives : HalfView → Progress → FeedTrace → StepAnswer → HalfView → FeedTrace → Type 0
BreakGives half progress trace answer.Did half' trace' = HasStoredStep half progress (mark ∷ []) event.deliver trace half' trace'
BreakGives half progress trace answer.Nothing half' trace' = ⊥
BreakGives half progress trace (answer.Spent side) half' trace' = ⊥
BreakGives half progress trace answer.NoMemory half' trace' = Unit {0}
