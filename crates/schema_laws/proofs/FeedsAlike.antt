-- Feeds do not depend on where boxes are.
use Rattle.std.proofs.Common.{◌≡◌, ◌∙◌, ℕ, List, drop, Bool, ◌+◌, Option, None, Some, refl, sym, subst}
use Rattle.std.specs.Prelude.{if◌then◌else◌}
use Rattle.std.specs.Option.{option_map_or}
use Rattle.ipdl_base.specs.declared.kinds.Side.{Side}
use Rattle.ipdl_base.specs.declared.schema.Schema.{Schema}
use Rattle.program_schema.specs.Laws.{plain_schema}
use Rattle.value_codec.specs.declared.decoding.DecodeResult.{DecodeResult}
use Rattle.value_codec.specs.declared.decoding.DecodeResult.TheVariants as decoded
use Rattle.value_codec.specs.Decoding.{begins}
use Rattle.value_types.specs.declared.layout.TheConstants.{NEW}
use Rattle.channel_model.specs.Ends.{End, message}
use Rattle.channel_model.specs.Events.{Event}
use Rattle.channel_model.specs.Outputs.{is_open}
use Rattle.relay_runs.specs.HalfRuns.{own_event}
use Rattle.script_steps.specs.Choices.{Setting}
use Rattle.feed_runs.specs.FeedTurns.{FeedState, leads, idles, exceeds, Feeds, rests, stops, goes_on, after_frame, after_step, beginning_of, feed_turn, kept_fault, turn_by}
use Rattle.feed_runs.specs.NextFrame.{NextFrame, taken, refused, fault_of, frame_at, next_frame}
use Rattle.schema_laws.specs.Feeds.{FeedsAlike}
use Rattle.schema_laws.specs.Runs.{AreSettingsAlike}
use Rattle.schema_laws.proofs.Begun.{decoded_alike}
use Rattle.schema_laws.proofs.HalvesAlike.{after_next_alike, after_own_alike, opening_alike, own_alike, refusal_alike, within_alike}

-- What bytes are to an end

module _ (s : Schema) (e : End) (place : ℕ) where
  at_alike : (d : DecodeResult) → frame_at (plain_schema s) e place d ≡ frame_at s e place d
  at_alike (decoded.Frame m size) = λ i. option_map_or (λ refusal. refused (message m) (fault_of place refusal)) (refusal_alike s e m i) (taken m size)
  at_alike (decoded.Short missing) = refl
  at_alike (decoded.Bad offset rule) = refl
  at_alike decoded.NoMemory = refl

  frame_alike : (bytes : List ℕ) → next_frame (plain_schema s) e place bytes ≡ next_frame s e place bytes
  frame_alike bytes = (λ i. frame_at (plain_schema s) e place (decoded_alike NEW s (drop place bytes) i)) ∙ at_alike (begins NEW s (drop place bytes))

module _ (a b : Setting) (alike : AreSettingsAlike a b) (side : Side) (bytes : List ℕ) where
  -- What a turn does

  after_step_alike : (state : FeedState) (own : Event) → after_step a state own ≡ after_step b state own
  after_step_alike state own = λ i. record state { half = after_own_alike a b alike state.half own i }

  read_alike : (state : FeedState) (next : NextFrame) → after_frame a bytes state next ≡ after_frame b bytes state next
  read_alike state (taken m size) = λ i. record state { half = after_next_alike a b alike state.half (message m) i; place = state.place + size }
  read_alike state (refused packet fault) = λ i. record state { half = after_next_alike a b alike state.half packet i; fault = kept_fault (drop state.place bytes) fault }

  next_frame_alike : (state : FeedState) → next_frame a.schema state.half.end state.place bytes ≡ next_frame b.schema state.half.end state.place bytes
  next_frame_alike state =
      sym (frame_alike a.schema state.half.end state.place bytes) ∙ (λ i. next_frame (alike.schemas i) state.half.end state.place bytes) ∙ frame_alike b.schema state.half.end state.place bytes

  frame_read : (state : FeedState) → after_frame a bytes state (next_frame a.schema state.half.end state.place bytes) ≡ after_frame b bytes state (next_frame b.schema state.half.end state.place bytes)
  frame_read state = (λ i. after_frame a bytes state (next_frame_alike state i)) ∙ read_alike state (next_frame b.schema state.half.end state.place bytes)

  by_alike : (state : FeedState) (own : Option Event) → turn_by a side bytes state own ≡ turn_by b side bytes state own
  by_alike state None = λ i. if is_open state.half.end.state then (if within_alike a b alike side state.half i then leads (frame_read state i) else exceeds) else idles
  by_alike state (Some own) = λ i. if within_alike a b alike side state.half i then leads (after_step_alike state own i) else exceeds

  turn_alike : (state : FeedState) → feed_turn a side bytes state ≡ feed_turn b side bytes state
  turn_alike state = (λ i. turn_by a side bytes state (own_alike a b alike side state.half i)) ∙ by_alike state (own_event b side state.half)

  -- What bytes make

  feeds_too : (state last : FeedState) (spent : Bool) → Feeds a side bytes state last spent → Feeds b side bytes state last spent
  feeds_too _ _ _ (rests state does) = rests state (sym (turn_alike state) ∙ does)
  feeds_too _ _ _ (stops state does) = stops state (sym (turn_alike state) ∙ does)
  feeds_too _ _ _ (goes_on state next last spent does rest) = goes_on state next last spent (sym (turn_alike state) ∙ does) (feeds_too next last spent rest)

  beginning_alike : beginning_of a side ≡ beginning_of b side
  beginning_alike = λ i. record { half = opening_alike a b alike side i; place = 0; fault = None }

pub feeds_alike : FeedsAlike
feeds_alike a b alike side bytes last spent feeds =
    subst (λ (from : FeedState). Feeds b side bytes from last spent) (beginning_alike a b alike side bytes) (feeds_too a b alike side bytes (beginning_of a side) last spent feeds)
