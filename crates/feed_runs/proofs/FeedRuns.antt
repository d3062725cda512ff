-- Feeds have one result, are half runs, and read the frames that were delivered.
use Rattle.std.proofs.Common.{◌≡◌, ℕ, ◌+◌, ◌≤◌, Bool, true, false, if◌then◌else◌, List, [], ◌∷◌, ◌++◌, drop, length, take, take-add, length-drop, Option, Some, None, refl, sym, ap, subst, ◌∙◌, arith}
use Rattle.std.specs.Option.{option_map_or}
use Rattle.ipdl_base.specs.declared.kinds.Side.{Side}
use Rattle.ipdl_base.specs.declared.message.Message.{Message}
use Rattle.ipdl_base.specs.declared.schema.Schema.{Schema}
use Rattle.value_types.specs.declared.layout.TheConstants.{NEW}
use Rattle.value_types.specs.Fits.{Fits}
use Rattle.value_codec.specs.declared.decoding.DecodeResult.{DecodeResult}
use Rattle.value_codec.specs.declared.decoding.DecodeResult.TheVariants as decoded
use Rattle.value_codec.specs.Decoding.{begins, FrameBegins}
use Rattle.value_codec.specs.Laws.{AreBytes}
use Rattle.value_codec.proofs.Framed.{IsTold, begins_told}
use Rattle.value_codec.proofs.Taken.{IsBytes-drop}
use Rattle.channel_model.specs.Ends.{End, Packet, message, mark}
use Rattle.channel_model.specs.Events.{Event}
use Rattle.channel_model.specs.Fitting.{FitsPacket}
use Rattle.channel_model.specs.Outputs.{Output, is_open}
use Rattle.channel_model.specs.Refusals.{DeliveryRefusal, delivery_refusal, packet_refusal}
use Rattle.channel_model.specs.Steps.{step}
use Rattle.script_steps.specs.Choices.{Setting}
use Rattle.relay_runs.proofs.HalfRuns.{delivered-itself, delivered-mark, next-delivers, next-runs, own-runs}
use Rattle.relay_runs.specs.HalfRuns.{HalfRun, after, after_next, delivered_for, is_within, own_event}
use Rattle.relay_runs.specs.HalfRuns as half_run
use Rattle.feed_runs.specs.declared.fault.FeedFault.{FeedFault}
use Rattle.feed_runs.specs.declared.fault.FeedFault.TheVariants as faults
use Rattle.feed_runs.specs.FeedTurns.{FeedState, FeedTurn, Feeds, leads, idles, exceeds, rests, stops, goes_on, after_frame, after_step, turn_by, within, beginning_of}
use Rattle.feed_runs.specs.Laws.{FeedsAreHalfRuns, FeedsHaveOneResult, FeedsReadFrames}
use Rattle.feed_runs.specs.Reached.{Reaches, stays, turns}
use Rattle.feed_runs.specs.ReadFrames.{AreFrames, HasReadFrames}
use Rattle.feed_runs.specs.ReadFrames as read
use Rattle.feed_runs.specs.NextFrame.{NextFrame, taken, refused, fault_of, frame_at, next_frame}

-- One result

same-next : (a b : FeedState) → leads a ≡ leads b → a ≡ b
same-next a b e = cc

one-result : (setting : Setting) (side : Side) (bytes : List ℕ) (from one other : FeedState) (spent ended : Bool) → Feeds setting side bytes from one spent → Feeds setting side bytes from other ended → (one ≡ other) × (spent ≡ ended)
one-result setting side bytes _ _ _ _ _ (rests state a) (rests _ b) = (refl, refl)
one-result setting side bytes _ _ _ _ _ (rests state a) (stops _ b) = let e : idles ≡ exceeds = sym a ∙ b in cc
one-result setting side bytes _ _ _ _ _ (rests state a) (goes_on _ next last spent b more) = let e : idles ≡ leads next = sym a ∙ b in cc
one-result setting side bytes _ _ _ _ _ (stops state a) (rests _ b) = let e : exceeds ≡ idles = sym a ∙ b in cc
one-result setting side bytes _ _ _ _ _ (stops state a) (stops _ b) = (refl, refl)
one-result setting side bytes _ _ _ _ _ (stops state a) (goes_on _ next last spent b more) = let e : exceeds ≡ leads next = sym a ∙ b in cc
one-result setting side bytes _ _ _ _ _ (goes_on state next last spent a more) (rests _ b) = let e : leads next ≡ idles = sym a ∙ b in cc
one-result setting side bytes _ _ _ _ _ (goes_on state next last spent a more) (stops _ b) = let e : leads next ≡ exceeds = sym a ∙ b in cc
one-result setting side bytes _ _ _ _ _ (goes_on state next last spent a more) (goes_on _ next' last' ended b rest) =
    one-result setting side bytes next last last' spent ended more (subst (λ (s : FeedState). Feeds setting side bytes s last' ended) (sym (same-next next next' (sym a ∙ b))) rest)

pub feeds_have_one_result : FeedsHaveOneResult
feeds_have_one_result = one-result

-- A frame that the end takes

-- a frame that the end takes fits, and is not refused
pub record IsTaken (schema : Schema) (e : End) (rest : List ℕ) (m : Message) (size : ℕ) : Type 0 where
  pub begun : FrameBegins NEW schema rest m size
  pub fits : Fits schema m
  pub accepted : packet_refusal schema e (message m) ≡ None

not-refused : (schema : Schema) (e : End) (place : ℕ) (m n : Message) (size count : ℕ) (refusal : Option DeliveryRefusal) → option_map_or (λ (r : DeliveryRefusal). refused (message m) (fault_of place r)) refusal (taken m size) ≡ taken n count → (refusal ≡ None) × (m ≡ n) × (size ≡ count)
not-refused schema e place m n size count None is = (refl, cc, cc)
not-refused schema e place m n size count (Some r) is = cc

pub taken-frame : (schema : Schema) (e : End) (place : ℕ) (bytes : List ℕ) → AreBytes (drop place bytes) → (d : DecodeResult) → begins NEW schema (drop place bytes) ≡ d → (m : Message) (size : ℕ) → frame_at schema e place d ≡ taken m size → IsTaken schema e (drop place bytes) m size
taken-frame schema e place bytes fits (decoded.Frame n count) is m size at =
    let r = not-refused schema e place n m count size (delivery_refusal schema e n) at in
    let begun : FrameBegins NEW schema (drop place bytes) n count = subst (IsTold NEW schema (drop place bytes) fits) is (begins_told NEW schema (drop place bytes) fits) in
    subst (λ (k : ℕ). IsTaken schema e (drop place bytes) m k) r.2 (subst (λ (x : Message). IsTaken schema e (drop place bytes) x count) r.1 (record { begun = begun; fits = begun.frame.fits; accepted = r.0 }))
taken-frame schema e place bytes fits (decoded.Short missing) is m size at = cc
taken-frame schema e place bytes fits (decoded.Bad offset rule) is m size at = cc
taken-frame schema e place bytes fits decoded.NoMemory is m size at = cc

-- A packet that it does not take

-- it fits, and what is delivered in place of it is the mark
pub record IsLeft (schema : Schema) (e : End) (packet : Packet) : Type 0 where
  pub fits : FitsPacket schema packet
  pub given : delivered_for schema e packet ≡ mark

left-message : (schema : Schema) (e : End) (place : ℕ) (m : Message) (size : ℕ) → Fits schema m → (refusal : Option DeliveryRefusal) → delivery_refusal schema e m ≡ refusal → (packet : Packet) (fault : FeedFault)
    → option_map_or (λ (r : DeliveryRefusal). refused (message m) (fault_of place r)) refusal (taken m size) ≡ refused packet fault → IsLeft schema e packet
left-message schema e place m size fits None of packet fault is = cc
left-message schema e place m size fits (Some r) of packet fault is =
    let same : message m ≡ packet = cc in
    subst (IsLeft schema e) same (record { fits = fits; given = delivered-mark schema e (message m) r of })

left-mark : (schema : Schema) (e : End) (packet : Packet) (found fault : FeedFault) → refused mark found ≡ refused packet fault → IsLeft schema e packet
left-mark schema e packet found fault is =
    let same : mark ≡ packet = cc in
    subst (IsLeft schema e) same (record { fits = tt; given = refl })

pub left-frame : (schema : Schema) (e : End) (place : ℕ) (bytes : List ℕ) → AreBytes (drop place bytes) → (d : DecodeResult) → begins NEW schema (drop place bytes) ≡ d → (packet : Packet) (fault : FeedFault) → frame_at schema e place d ≡ refused packet fault → IsLeft schema e packet
left-frame schema e place bytes are (decoded.Frame m size) is packet fault at =
    let begun : FrameBegins NEW schema (drop place bytes) m size = subst (IsTold NEW schema (drop place bytes) are) is (begins_told NEW schema (drop place bytes) are) in
    left-message schema e place m size begun.frame.fits (delivery_refusal schema e m) refl packet fault at
left-frame schema e place bytes are (decoded.Short missing) is packet fault at = left-mark schema e packet (faults.Short place missing) fault at
left-frame schema e place bytes are (decoded.Bad offset rule) is packet fault at = left-mark schema e packet (faults.Bad (place + offset) rule) fault at
left-frame schema e place bytes are decoded.NoMemory is packet fault at = left-mark schema e packet (faults.Short place 0) fault at

-- Where a turn leads

pub led : (b : Bool) (some next : FeedState) → (if b then leads some else exceeds) ≡ leads next → (b ≡ true) × (some ≡ next)
led true some next e = (refl, cc)
led false some next e = cc

pub read-led : (b : Bool) (turn : FeedTurn) (next : FeedState) → (if b then turn else idles) ≡ leads next → (b ≡ true) × (turn ≡ leads next)
read-led true turn next e = (refl, e)
read-led false turn next e = cc

-- What the bytes have next, for a feed

module _ (setting : Setting) (side : Side) (bytes : List ℕ) (are : AreBytes bytes) where
  pub taken-at : (state : FeedState) (m : Message) (size : ℕ) → next_frame setting.schema state.half.end state.place bytes ≡ taken m size → IsTaken setting.schema state.half.end (drop state.place bytes) m size
  taken-at state m size is = taken-frame setting.schema state.half.end state.place bytes (IsBytes-drop state.place bytes are) (begins NEW setting.schema (drop state.place bytes)) refl m size is

  pub left-at : (state : FeedState) (packet : Packet) (fault : FeedFault) → next_frame setting.schema state.half.end state.place bytes ≡ refused packet fault → IsLeft setting.schema state.half.end packet
  left-at state packet fault is = left-frame setting.schema state.half.end state.place bytes (IsBytes-drop state.place bytes are) (begins NEW setting.schema (drop state.place bytes)) refl packet fault is

  -- A feed is a half run

  abbrev Runs : FeedState → Type 0
  Runs state = HalfRun setting side state.half

  frame-runs : (state : FeedState) (next : NextFrame) → next_frame setting.schema state.half.end state.place bytes ≡ next → own_event setting side state.half ≡ None → is_open state.half.end.state ≡ true → is_within setting side state.half ≡ true
      → Runs state → Runs (after_frame setting bytes state next)
  frame-runs state (taken m size) is no_own opened few run = next-runs setting side state.half run few (message m) no_own opened (taken-at state m size is).fits
  frame-runs state (refused packet fault) is no_own opened few run = next-runs setting side state.half run few packet no_own opened (left-at state packet fault is).fits

  pub turn-runs : (state next : FeedState) (own : Option Event) → own_event setting side state.half ≡ own → turn_by setting side bytes state own ≡ leads next → Runs state → Runs next
  turn-runs state next (Some own) has is run =
      let l = led (is_within setting side state.half) (after_step setting state own) next is in
      subst Runs l.1 (own-runs setting side state.half run l.0 own has)
  turn-runs state next None no_own is run =
      let frame : NextFrame = next_frame setting.schema state.half.end state.place bytes in
      let r = read-led (is_open state.half.end.state) (within setting side state (after_frame setting bytes state frame)) next is in
      let l = led (is_within setting side state.half) (after_frame setting bytes state frame) next r.1 in
      subst Runs l.1 (frame-runs state frame refl no_own r.0 l.0 run)

  pub reached-runs : (state : FeedState) → Reaches setting side bytes (beginning_of setting side) state → Runs state
  reached-runs _ stays = half_run.begins
  reached-runs _ (turns state next before is) = turn-runs state next (own_event setting side state.half) refl is (reached-runs state before)

  feed-runs : (from last : FeedState) (spent : Bool) → Feeds setting side bytes from last spent → Runs from → Runs last
  feed-runs _ _ _ (rests state is) run = run
  feed-runs _ _ _ (stops state is) run = run
  feed-runs _ _ _ (goes_on state next last spent is more) run = feed-runs next last spent more (turn-runs state next (own_event setting side state.half) refl is run)

  -- What was read

  abbrev HasRead : FeedState → Type 0
  HasRead state = HasReadFrames setting.schema bytes state

  begins-read : HasRead (beginning_of setting side)
  begins-read = record { within = omega arith; frames = read.none }

  own-read : (state : FeedState) (own : Event) → HasRead state → HasRead (after_step setting state own)
  own-read state own r = by (step setting.schema state.half.end [] own)
    where
      by : (made : Option Output) → HasRead (record state { half = option_map_or (after state.half) made state.half })
      by None = record { within = r.within; frames = r.frames }
      by (Some output) = record { within = r.within; frames = r.frames }

  frame-read : (state : FeedState) (next : NextFrame) → next_frame setting.schema state.half.end state.place bytes ≡ next → is_open state.half.end.state ≡ true → HasRead state → HasRead (after_frame setting bytes state next)
  frame-read state (taken m size) is opened r =
      let t : IsTaken setting.schema state.half.end (drop state.place bytes) m size = taken-at state m size is in
      let left = length-drop state.place bytes in
      let before : state.place ≤ length bytes = r.within in
      let whole : size ≤ length (drop state.place bytes) = t.begun.within in
      let delivers : (after_next setting state.half (message m)).delivered ≡ state.half.delivered ++ message m ∷ [] =
      next-delivers setting state.half (message m) opened ∙ ap (λ (p : Packet). state.half.delivered ++ p ∷ []) (delivered-itself setting.schema state.half.end (message m) t.accepted) in
      record {
        within = omega (arith, left, before, whole);
        frames =
            subst (λ (ps : List Packet). AreFrames setting.schema (take (state.place + size) bytes) ps) (sym delivers)
            (subst (λ (bs : List ℕ). AreFrames setting.schema bs (state.half.delivered ++ message m ∷ [])) (sym (take-add state.place size bytes))
            (read.adds (take state.place bytes) state.half.delivered m (take size (drop state.place bytes)) r.frames t.begun.frame));
      }
  frame-read state (refused packet fault) is opened r =
      let delivers : (after_next setting state.half packet).delivered ≡ state.half.delivered ++ mark ∷ [] =
      next-delivers setting state.half packet opened ∙ ap (λ (p : Packet). state.half.delivered ++ p ∷ []) (left-at state packet fault is).given in
      record {
        within = r.within;
        frames = subst (λ (ps : List Packet). AreFrames setting.schema (take state.place bytes) ps) (sym delivers) (read.ends (take state.place bytes) state.half.delivered r.frames);
      }

  turn-read : (state next : FeedState) (own : Option Event) → turn_by setting side bytes state own ≡ leads next → HasRead state → HasRead next
  turn-read state next (Some own) is r = subst HasRead (led (is_within setting side state.half) (after_step setting state own) next is).1 (own-read state own r)
  turn-read state next None is r =
      let frame : NextFrame = next_frame setting.schema state.half.end state.place bytes in
      let opened = read-led (is_open state.half.end.state) (within setting side state (after_frame setting bytes state frame)) next is in
      subst HasRead (led (is_within setting side state.half) (after_frame setting bytes state frame) next opened.1).1 (frame-read state frame refl opened.0 r)

  -- the states to which a feed comes have read the frames of what was delivered
  pub reached-read : (state : FeedState) → Reaches setting side bytes (beginning_of setting side) state → HasRead state
  reached-read _ stays = begins-read
  reached-read _ (turns state next before is) = turn-read state next (own_event setting side state.half) is (reached-read state before)

  feed-read : (from last : FeedState) (spent : Bool) → Feeds setting side bytes from last spent → HasRead from → HasRead last
  feed-read _ _ _ (rests state is) r = r
  feed-read _ _ _ (stops state is) r = r
  feed-read _ _ _ (goes_on state next last spent is more) r = feed-read next last spent more (turn-read state next (own_event setting side state.half) is r)

pub feeds_are_half_runs : FeedsAreHalfRuns
feeds_are_half_runs setting side bytes last spent are feeds = feed-runs setting side bytes are (beginning_of setting side) last spent feeds half_run.begins

pub feeds_read_frames : FeedsReadFrames
feeds_read_frames setting side bytes last spent sound are feeds = feed-read setting side bytes are (beginning_of setting side) last spent feeds (begins-read setting side bytes are)
