-- What is delivered of a packet, how a half run continues, and why a mark in place of a packet is delivered last.
use Rattle.std.proofs.Common.{◌≡◌, ◌⊎◌, inl, inr, Bool, true, false, List, [], ◌∷◌, ◌++◌, Option, Some, None, is_some, refl, sym, ap, subst, ◌∙◌}
use Rattle.std.specs.Option.{option_map_or}
use Rattle.std.proofs.lemmas.Option.{same_Some}
use Rattle.ipdl_base.specs.declared.kinds.Side.{Side}
use Rattle.ipdl_base.specs.declared.line.What.{What}
use Rattle.ipdl_base.specs.declared.schema.Schema.{Schema}
use Rattle.channel_model.specs.Answers as answers
use Rattle.channel_model.specs.Deliveries.{deliver}
use Rattle.channel_model.specs.Ends.{End, Packet, mark}
use Rattle.channel_model.specs.Events.{Answering, Event, handled, kept}
use Rattle.channel_model.specs.Events as event
use Rattle.channel_model.specs.Fitting.{FitsPacket}
use Rattle.channel_model.specs.Outputs.{Change, Output, beginning, is_open}
use Rattle.channel_model.specs.Parts as parts
use Rattle.channel_model.specs.Parts.{DeliveryPart, FirstPart, LaterPart, end_after}
use Rattle.channel_model.specs.Phases.{Phase}
use Rattle.channel_model.specs.Refusals.{DeliveryRefusal, packet_refusal}
use Rattle.channel_model.specs.Steps.{provided, step}
use Rattle.channel_model.proofs.StepParts.{parts-keep}
use Rattle.script_steps.specs.Choices.{Setting}
use Rattle.relay_runs.specs.HalfRuns.{HalfRun, HalfState, StandsFor, acts, after, after_next, after_own, after_packet, begins, delivered_for, gets, is_within, own_event}
use Rattle.relay_runs.specs.Laws.{MarksComeLast}

-- a step that an end provides for is possible
pub provided-some : (b : Bool) (change : Change) (e : End) → b ≡ true → is_some (provided b change e) ≡ true
provided-some true change e h = refl
provided-some false change e h = cc

-- An end that is not open stays so

abbrev IsEnded : End → Type 0
IsEnded e = is_open e.state ≡ false

following-ended : (b : Bool) (e : End) → IsEnded e → IsEnded (end_after b e)
following-ended true e h = h
following-ended false e h = h

used-ended : (by : Answering) (e : End) → IsEnded e → IsEnded (record (answers.without_resolver by e) { outbox = [] })
used-ended (handled seq) e h = h
used-ended (kept name number) e h = h

first-ended : {schema : Schema} {p : Phase} {e f : End} {ws : List What} {ps : List Packet} → FirstPart schema e ws ps f p → IsEnded e → IsEnded f
first-ended (parts.refuses w is) h = h
first-ended (parts.renames w is) h = h
first-ended (parts.flushes opened) h = h
first-ended (parts.sends row route vs name sent) h = h
first-ended {schema} {p} {e} (parts.answers by vs r row found may ok is) h = used-ended by e h
first-ended (parts.closes opened none) h = refl
first-ended (parts.dies opened) h = refl
first-ended (parts.dies_silent ended alive) h = refl
first-ended (parts.takes m sync level row vs next body found stays) h = h
first-ended (parts.drops m sync level row vs id replies next body found gone is) h = following-ended replies _ h
first-ended (parts.drops_unknown m sync level vs next body none) h = h
first-ended (parts.takes_reply m sync level a next body late) h = h
first-ended (parts.settles m sync level row a next body found is) h = h
first-ended (parts.shuts last next is) h = refl
first-ended (parts.returns entry row vs told lost returns t l) h = following-ended lost _ (following-ended told _ h)
first-ended (parts.resumes wait row on_top found) h = h

later-ended : {p q : Phase} {e f : End} {ws : List What} {ps : List Packet} → LaterPart p e ws ps f q → IsEnded e → IsEnded f
later-ended (parts.unnames name may silent) h = h
later-ended (parts.lets_go name r may held opened) h = h
later-ended (parts.names more actors) h = h
later-ended (parts.releases seq closed) h = h
later-ended (parts.keeps seq name r held closed) h = h
later-ended (parts.builds id protocol rest is built) h = h
later-ended (parts.deletes id due) h = h
later-ended (parts.falls why due) h = h

delivery-ended : {schema : Schema} {packet : Packet} {p : Phase} {e f : End} {ws : List What} {ps : List Packet} → DeliveryPart schema packet e ws ps f p → IsEnded e → IsEnded f
delivery-ended (parts.gets_request m row vs body found none) h = h
delivery-ended (parts.replaces m row vs old sync level replies body found rep k) h = following-ended replies _ h
delivery-ended (parts.gets_answer m row a body found sync) h = h
delivery-ended (parts.gets_reply m row a body found async) h = h
delivery-ended (parts.drains packet last) h = refl
delivery-ended (parts.passes_by m ordinary none) h = h

stays-ended : (schema : Schema) (e : End) (link : List Packet) (happened : Event) (output : Output) → step schema e link happened ≡ Some output → IsEnded e → IsEnded output.end
stays-ended schema e link happened output is h = parts-keep schema IsEnded (record { first = first-ended; later = later-ended; delivery = delivery-ended }) e link happened output is h

-- and so it is after a mark
mark-ends : (schema : Schema) (e : End) (output : Output) → step schema e (mark ∷ []) event.deliver ≡ Some output → IsEnded output.end
mark-ends schema e output is = by (is_open e.state) is
  where
    by : (b : Bool) → provided b (deliver schema mark) e ≡ Some output → IsEnded output.end
    by true h = subst (λ (o : Output). IsEnded o.end) (same_Some (deliver schema mark (beginning e)) output h) refl
    by false h = cc

-- What is delivered

-- a mark stands for the last that came, and its end is not open
record IsCutOff (state : HalfState) : Type 0 where
  before : List Packet
  packet : Packet
  came : state.came ≡ before ++ packet ∷ []
  delivered : state.delivered ≡ before ++ mark ∷ []
  ended : IsEnded state.end

abbrev IsTold : HalfState → Type 0
IsTold state = (state.delivered ≡ state.came) ⊎ IsCutOff state

one-more : (schema : Schema) (state : HalfState) (packet : Packet) (output : Output) (refusal : Option DeliveryRefusal) → state.delivered ≡ state.came
    → step schema state.end (option_map_or (λ r. mark) refusal packet ∷ []) event.deliver ≡ Some output
    → IsTold (record { end = output.end; lines = state.lines ++ output.lines; came = state.came ++ packet ∷ []; delivered = state.delivered ++ option_map_or (λ r. mark) refusal packet ∷ []; sent = state.sent ++ output.packets })
one-more schema state packet output None same is = inl (ap (λ (ps : List Packet). ps ++ packet ∷ []) same)
one-more schema state packet output (Some r) same is =
    inr (record { before = state.came; packet = packet; came = refl; delivered = ap (λ (ps : List Packet). ps ++ mark ∷ []) same; ended = mark-ends schema state.end output is })

not-both : {A : Type 0} (b : Bool) → b ≡ true → b ≡ false → A
not-both b h k = let e : true ≡ false = sym h ∙ k in cc

told : (setting : Setting) (side : Side) (state : HalfState) → HalfRun setting side state → IsTold state
told setting side _ begins = inl refl
told setting side _ (acts state own output run within is_own is) = by (told setting side state run)
  where
    by : IsTold state → IsTold (record state { end = output.end; lines = state.lines ++ output.lines; sent = state.sent ++ output.packets })
    by (inl same) = inl same
    by (inr cut) = inr (record { before = cut.before; packet = cut.packet; came = cut.came; delivered = cut.delivered; ended = stays-ended setting.schema state.end [] own output is cut.ended })
told setting side _ (gets state packet output run within rests opened fits is) = by (told setting side state run)
  where
    by : IsTold state → IsTold (after_packet state packet (delivered_for setting.schema state.end packet) output)
    by (inl same) = one-more setting.schema state packet output (packet_refusal setting.schema state.end packet) same is
    by (inr cut) = not-both (is_open state.end.state) opened cut.ended

pub marks_come_last : MarksComeLast
marks_come_last setting side state run = by (told setting side state run)
  where
    by : IsTold state → StandsFor state.came state.delivered
    by (inl same) = inl same
    by (inr cut) = inr (cut.before, cut.packet, cut.came, cut.delivered)

-- What is delivered of a packet fits the schema, and the end does not refuse it

given-taken : (schema : Schema) (e : End) (packet : Packet) (refusal : Option DeliveryRefusal) → packet_refusal schema e packet ≡ refusal → FitsPacket schema packet
    → FitsPacket schema (option_map_or (λ r. mark) refusal packet) × (packet_refusal schema e (option_map_or (λ r. mark) refusal packet) ≡ None)
given-taken schema e packet None is fits = (fits, is)
given-taken schema e packet (Some r) is fits = (tt, refl)

pub delivered-taken : (schema : Schema) (e : End) (packet : Packet) → FitsPacket schema packet → FitsPacket schema (delivered_for schema e packet) × (packet_refusal schema e (delivered_for schema e packet) ≡ None)
delivered-taken schema e packet fits = given-taken schema e packet (packet_refusal schema e packet) refl fits

-- the packet itself where the end does not refuse it, and the mark where it does
pub delivered-itself : (schema : Schema) (e : End) (packet : Packet) → packet_refusal schema e packet ≡ None → delivered_for schema e packet ≡ packet
delivered-itself schema e packet is = ap (λ (refusal : Option DeliveryRefusal). option_map_or (λ r. mark) refusal packet) is

pub delivered-mark : (schema : Schema) (e : End) (packet : Packet) (refusal : DeliveryRefusal) → packet_refusal schema e packet ≡ Some refusal → delivered_for schema e packet ≡ mark
delivered-mark schema e packet refusal is = ap (λ (found : Option DeliveryRefusal). option_map_or (λ r. mark) found packet) is

-- A half run continues by an own step, and by a packet that comes

module _ (setting : Setting) (side : Side) (half : HalfState) (run : HalfRun setting side half) (within : is_within setting side half ≡ true) where
  pub own-runs : (own : Event) → own_event setting side half ≡ Some own → HalfRun setting side (after_own setting half own)
  own-runs own is_own = by (step setting.schema half.end [] own) refl
    where
      by : (made : Option Output) → step setting.schema half.end [] own ≡ made → HalfRun setting side (option_map_or (after half) made half)
      by None is = run
      by (Some output) is = acts half own output run within is_own is

  module _ (packet : Packet) (rests : own_event setting side half ≡ None) (opened : is_open half.end.state ≡ true) (fits : FitsPacket setting.schema packet) where
    abbrev given : Packet
    given = delivered_for setting.schema half.end packet

    made-runs : (made : Option Output) → step setting.schema half.end (given ∷ []) event.deliver ≡ made → HalfRun setting side (option_map_or (after_packet half packet given) made half)
    made-runs None is = run
    made-runs (Some output) is = gets half packet output run within rests opened fits is

    pub next-runs : HalfRun setting side (after_next setting half packet)
    next-runs = made-runs (step setting.schema half.end (given ∷ []) event.deliver) refl

-- an open end has the next packet delivered

made-delivers : (half : HalfState) (packet given : Packet) (made : Option Output) → is_some made ≡ true → (option_map_or (after_packet half packet given) made half).delivered ≡ half.delivered ++ given ∷ []
made-delivers half packet given None h = cc
made-delivers half packet given (Some output) h = refl

pub next-delivers : (setting : Setting) (half : HalfState) (packet : Packet) → is_open half.end.state ≡ true → (after_next setting half packet).delivered ≡ half.delivered ++ delivered_for setting.schema half.end packet ∷ []
next-delivers setting half packet opened =
    let given : Packet = delivered_for setting.schema half.end packet in
    made-delivers half packet given (step setting.schema half.end (given ∷ []) event.deliver) (provided-some (is_open half.end.state) (deliver setting.schema given) half.end opened)
