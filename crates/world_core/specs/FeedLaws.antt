-- What a half run by a valid script can do next, and so a feed.
use Rattle.std.specs.Prelude.{◌≡◌, ℕ, ◌<◌, ◌≤◌, Bool, true, false, is_some, List, [], ◌∷◌, Some}
use Rattle.std.specs.List.{AllZip}
use Rattle.handler_script.specs.Valid.{IsValid}
use Rattle.ipdl_base.specs.declared.kinds.Side.{Side}
use Rattle.ipdl_base.specs.Sound.{IsSound}
use Rattle.value_codec.specs.Laws.{AreBytes}
use Rattle.nesting_core.specs.Frames.{head_of}
use Rattle.channel_model.specs.Answers.{released}
use Rattle.channel_model.specs.Ends.{Packet, StackEntry}
use Rattle.channel_model.specs.Events.{Event}
use Rattle.channel_model.specs.Events as event
use Rattle.channel_model.specs.Fitting.{IsFitting}
use Rattle.channel_model.specs.Outputs.{is_open}
use Rattle.channel_model.specs.Steps.{step}
use Rattle.script_runs.specs.Allowed.{IsAllowed}
use Rattle.script_runs.specs.Dispatches.{dispatches}
use Rattle.script_runs.specs.Handlers.{IsHandlerOf}
use Rattle.script_steps.specs.Choices.{Setting}
use Rattle.script_steps.specs.Progress.{progress_of}
use Rattle.relay_runs.specs.HalfRuns.{HalfState, own_event}
use Rattle.feed_runs.specs.FeedTurns.{FeedState, Feeds, beginning_of}
use Rattle.feed_runs.specs.Reached.{Reaches}

-- What a half does next may be tried, and is possible; and so is a delivery while its end is open. What the end keeps fits the
-- schema, its handlers are as they were taken, no two of them have one resolver, it has sent and been delivered no more requests
-- than it has events, and it has no more events than the limit.
pub record CanGoOn (setting : Setting) (side : Side) (half : HalfState) : Type 0 where
  pub allowed : (x : Event) → own_event setting side half ≡ Some x → IsAllowed setting.schema half.end x
  pub own : (x : Event) → own_event setting side half ≡ Some x → is_some (step setting.schema half.end [] x) ≡ true
  pub fitting : IsFitting setting.schema half.end
  pub handlers : AllZip (IsHandlerOf setting.schema setting.script half.end.side half.end) (dispatches half.end.stack) (progress_of side half.lines).handled
  pub apart : (top : StackEntry) (below : List StackEntry) → dispatches half.end.stack ≡ top ∷ below → top.resolves ≡ true → released (head_of top.frame).seq (top ∷ below) ≡ record top { resolves = false } ∷ below
  pub side_is : half.end.side ≡ side
  pub sent : half.end.sent ≤ (progress_of side half.lines).events
  pub delivered : half.end.delivered ≤ (progress_of side half.lines).events
  pub within : (progress_of side half.lines).events ≤ setting.limit
  pub delivery : (packet : Packet) → is_open half.end.state ≡ true → is_some (step setting.schema half.end (packet ∷ []) event.deliver) ≡ true

-- So it is in each state of a feed, of a sound schema by a valid script, with fewer than 2^28 events.
abbrev pub FeedTurnsArePossible : Type 0
FeedTurnsArePossible =
    (setting : Setting) (side : Side) (bytes : List ℕ) (state : FeedState) → IsSound setting.schema → IsValid setting.schema setting.script → setting.limit < 268435456 → AreBytes bytes → Reaches setting side bytes (beginning_of setting side) state
    → CanGoOn setting side state.half

-- And every list of bytes has a feed.
abbrev pub FeedsComeToAnEnd : Type 0
FeedsComeToAnEnd =
    (setting : Setting) (side : Side) (bytes : List ℕ) → IsSound setting.schema → IsValid setting.schema setting.script → setting.limit < 268435456 → AreBytes bytes → (last : FeedState) × (spent : Bool) × Feeds setting side bytes (beginning_of setting side) last spent
