-- In a feed by a valid script each turn is possible, and each is one event more; so every list of bytes has a feed.
use Rattle.std.proofs.Common.{◌≡◌, ℕ, zero, suc, ◌+◌, ◌<◌, ◌≤◌, Bool, true, false, List, Option, Some, None, refl, subst, arith}
use Rattle.handler_script.specs.Valid.{IsValid}
use Rattle.ipdl_base.specs.declared.kinds.Side.{Side}
use Rattle.ipdl_base.specs.Sound.{IsSound}
use Rattle.value_codec.specs.Laws.{AreBytes}
use Rattle.channel_model.specs.Ends.{message}
use Rattle.channel_model.specs.Events.{Event}
use Rattle.channel_model.specs.Outputs.{is_open}
use Rattle.script_steps.specs.Choices.{Setting}
use Rattle.script_steps.specs.Progress.{progress_of}
use Rattle.script_runs.proofs.Changes.{end-apart}
use Rattle.relay_runs.specs.HalfRuns.{HalfRun, HalfState, is_within, own_event}
use Rattle.relay_runs.specs.HalfRuns as half_run
use Rattle.feed_runs.specs.FeedTurns.{FeedState, FeedTurn, Feeds, leads, idles, exceeds, rests, stops, goes_on, after_frame, after_step, beginning_of, feed_turn, turn_by, within}
use Rattle.feed_runs.specs.NextFrame.{NextFrame, taken, refused, next_frame}
use Rattle.feed_runs.specs.Reached.{Reaches}
use Rattle.feed_runs.proofs.FeedRuns.{led, reached-runs, read-led, turn-runs}
use Rattle.world_core.proofs.KeptEnds.{KeepsEnd, delivery-possible, kept, known, own-allowed, own-possible, stands}
use Rattle.world_core.proofs.KeptHalves.{IsOneMore, next-more, own-more, run-keeps}
use Rattle.world_core.specs.FeedLaws.{CanGoOn, FeedTurnsArePossible, FeedsComeToAnEnd}

module _ (setting : Setting) (side : Side) (sound : IsSound setting.schema) (valid : IsValid setting.schema setting.script) (limit : setting.limit < 268435456) where
  -- what a half run keeps
  run-can : (half : HalfState) → HalfRun setting side half → CanGoOn setting side half
  run-can half run =
      let k : KeepsEnd setting side half.end half.lines half.delivered = run-keeps setting side sound valid limit half run in
      record {
        allowed = own-allowed setting side sound valid limit half.end half.lines half.delivered k;
        own = own-possible setting side sound valid limit half.end half.lines half.delivered k;
        fitting = k.fits;
        handlers = stands setting side sound valid limit half.end half.lines half.delivered k;
        apart = end-apart setting.schema half.end (known setting side sound valid limit half.end half.lines half.delivered k);
        side_is = (kept setting side sound valid limit half.end half.lines half.delivered k).side_is;
        sent = k.sent;
        delivered = k.delivered;
        within = k.within_limit;
        delivery = delivery-possible setting side sound valid limit half.end half.lines half.delivered k;
      }

  abbrev OneMore : FeedState → FeedState → Type 0
  OneMore state next = IsOneMore setting side state.half next.half

  module _ (bytes : List ℕ) (are : AreBytes bytes) where
    abbrev Runs : FeedState → Type 0
    Runs state = HalfRun setting side state.half

    frame-more : (state : FeedState) → Runs state → (next : NextFrame) → is_open state.half.end.state ≡ true → is_within setting side state.half ≡ true → OneMore state (after_frame setting bytes state next)
    frame-more state run (taken m size) opened few = next-more setting side sound valid limit state.half run few (message m) opened
    frame-more state run (refused packet fault) opened few = next-more setting side sound valid limit state.half run few packet opened

    turn-more : (state next : FeedState) (own : Option Event) → own_event setting side state.half ≡ own → turn_by setting side bytes state own ≡ leads next → Runs state → OneMore state next
    turn-more state next (Some x) own is run =
        let l = led (is_within setting side state.half) (after_step setting state x) next is in
        subst (OneMore state) l.1 (own-more setting side sound valid limit state.half run l.0 x own)
    turn-more state next None own is run =
        let frame : NextFrame = next_frame setting.schema state.half.end state.place bytes in
        let r = read-led (is_open state.half.end.state) (within setting side state (after_frame setting bytes state frame)) next is in
        let l = led (is_within setting side state.half) (after_frame setting bytes state frame) next r.1 in
        subst (OneMore state) l.1 (frame-more state run frame r.0 l.0)

    abbrev EndsFrom : FeedState → Type 0
    EndsFrom state = (last : FeedState) × (spent : Bool) × Feeds setting side bytes state last spent

    ends-by : (state : FeedState) (turn : FeedTurn) → feed_turn setting side bytes state ≡ turn → ((next : FeedState) → feed_turn setting side bytes state ≡ leads next → EndsFrom next) → EndsFrom state
    ends-by state idles is more = (state, false, rests state is)
    ends-by state exceeds is more = (state, true, stops state is)
    ends-by state (leads next) is more =
        let rest = more next is in
        (rest.0, rest.1, goes_on state next rest.0 rest.1 is rest.2)

    abbrev events : FeedState → ℕ
    events state = (progress_of side state.half.lines).events

    feed-ends : (n : ℕ) (state : FeedState) → setting.limit ≤ events state + n → Runs state → EndsFrom state
    feed-ends zero state room run =
        ends-by state (feed_turn setting side bytes state) refl
        (λ next is.
        let t : OneMore state next = turn-more state next (own_event setting side state.half) refl is run in
        let few = t.few in
        absurd (omega (arith, room, few)))
    feed-ends (suc n) state room run =
        ends-by state (feed_turn setting side bytes state) refl
        (λ next is.
        let t : OneMore state next = turn-more state next (own_event setting side state.half) refl is run in
        let more = t.more in
        feed-ends n next (omega (arith, room, more)) (turn-runs setting side bytes are state next (own_event setting side state.half) refl is run))

pub feed_turns_are_possible : FeedTurnsArePossible
feed_turns_are_possible setting side bytes state sound valid limit are reached = run-can setting side sound valid limit state.half (reached-runs setting side bytes are state reached)

pub feeds_come_to_an_end : FeedsComeToAnEnd
feeds_come_to_an_end setting side bytes sound valid limit are = feed-ends setting side sound valid limit bytes are setting.limit (beginning_of setting side) (omega arith) half_run.begins

-- a turn that leads on is one event more, which the end might have
pub turns_are_counted : (setting : Setting) (side : Side) (bytes : List ℕ) (state next : FeedState) → IsSound setting.schema → IsValid setting.schema setting.script → setting.limit < 268435456 → AreBytes bytes
    → Reaches setting side bytes (beginning_of setting side) state → feed_turn setting side bytes state ≡ leads next
    → ((progress_of side state.half.lines).events < setting.limit) × ((progress_of side next.half.lines).events ≡ (progress_of side state.half.lines).events + 1)
turns_are_counted setting side bytes state next sound valid limit are reached is =
    let t = turn-more setting side sound valid limit bytes are state next (own_event setting side state.half) refl is (reached-runs setting side bytes are state reached) in
    (t.few, t.more)
