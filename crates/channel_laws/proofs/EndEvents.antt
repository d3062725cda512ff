-- An end whose last event is the delivery of the other end's last packet is no longer open, so none of its calls
-- waits.
use Rattle.std.proofs.Common.{◌≡◌, ℕ, ◌+◌, Bool, true, false, List, [], ◌∷◌, ◌++◌, map, Some, refl, sym, ap, subst, ◌∙◌}
use Rattle.std.specs.List.{AllByRecursion}
use Rattle.ipdl_base.specs.declared.kinds.Side.{Side}
use Rattle.ipdl_base.specs.declared.line.What.{What}
use Rattle.ipdl_base.specs.declared.line.What.TheVariants as what
use Rattle.ipdl_base.specs.declared.schema.Schema.{Schema}
use Rattle.ipdl_base.specs.Lines.{is_effect}
use Rattle.ipdl_base.specs.Sound.{IsSound}
use Rattle.nesting_core.specs.declared.frame.Answer.{Answer}
use Rattle.nesting_core.specs.declared.frame.Answer.TheVariants as answer
use Rattle.history_reading.specs.declared.parts.PacketKind.{PacketKind}
use Rattle.history_reading.specs.EndReading.{EndReading}
use Rattle.history_reading.specs.Reading.{Reading, after_what, end_reading_of, other_of}
use Rattle.history_reading.specs.Waits.{is_end_event}
use Rattle.channel_model.specs.Ends.{End, World, Packet, end_of, link_to}
use Rattle.channel_model.specs.EventLines.{IsEventWithEffects, IsEffectOf}
use Rattle.channel_model.specs.Events.{Event}
use Rattle.ipdl_base.specs.Sides.{other}
use Rattle.channel_model.specs.Outputs.{Output, AnsweredRequest, is_open, line_at}
use Rattle.channel_model.specs.Parts as parts
use Rattle.channel_model.specs.Parts.{DeliveryPart, reply_lines}
use Rattle.channel_model.specs.Phases.{Phase}
use Rattle.channel_model.specs.Steps.{step}
use Rattle.channel_model.proofs.Events.{events_have_their_lines}
use Rattle.channel_laws.specs.Delivered.{delivered_by, delivered_by_lines}
use Rattle.channel_laws.specs.Tested.{after_whats}
use Rattle.channel_laws.proofs.Delivered.{own-delivers-none}
use Rattle.channel_laws.proofs.Moves.{EndMove, StepParts, acts, delivers}
use Rattle.channel_laws.proofs.Outlines.{RepliesFit}
use Rattle.channel_laws.proofs.Reached.{reached-has, all-pass}
use Rattle.channel_laws.proofs.Runs.{IsReached, EveryMoveKeeps, AtEnds, at-ends, ends-keep, every-run}

-- the last event of an end shows that it is not open
abbrev pub EventTells : End → EndReading → Type 0
EventTells e own = is_end_event own.event ≡ true → is_open e.state ≡ false

-- Lines of effects leave the event unchanged

effect-event : (schema : Schema) (place : ℕ) (w : What) (h : EndReading) → is_effect w ≡ true → (after_what schema place w h).event ≡ h.event
effect-event schema place (what.Built id protocol) h e = refl
effect-event schema place (what.Replaced n) h e = refl
effect-event schema place (what.AnswerOk n vs) h e = refl
effect-event schema place (what.AnswerFault n r) h e = refl
effect-event schema place (what.Fails n) h e = refl
effect-event schema place (what.Resolved n vs) h e = refl
effect-event schema place (what.Rejected n r) h e = refl
effect-event schema place (what.Fall id why) h e = refl
effect-event schema place _ h e = cc

effects-event : (schema : Schema) (side : Side) (at : Side) (place : ℕ) (ws : List What) (h : EndReading) → AllByRecursion (IsEffectOf side) (map (line_at at) ws) → (after_whats schema place ws h).event ≡ h.event
effects-event schema side at place [] h e = refl
effects-event schema side at place (w ∷ ws) h e = effects-event schema side at (place + 1) ws (after_what schema place w h) e.1 ∙ effect-event schema place w h e.0.1

-- an event that delivers nothing does not deliver a last packet
not-ending : (schema : Schema) (place : ℕ) (w : What) (h : EndReading) → is_effect w ≡ false → delivered_by w ≡ [] → is_end_event (after_what schema place w h).event ≡ false
not-ending schema place (what.Built id protocol) h e d = cc
not-ending schema place (what.Replaced n) h e d = cc
not-ending schema place (what.AnswerOk n vs) h e d = cc
not-ending schema place (what.AnswerFault n r) h e d = cc
not-ending schema place (what.Fails n) h e d = cc
not-ending schema place (what.Resolved n vs) h e d = cc
not-ending schema place (what.Rejected n r) h e d = cc
not-ending schema place (what.Fall id why) h e d = cc
not-ending schema place (what.DeliverRequest n) h e d = cc
not-ending schema place (what.DeliverReply n) h e d = cc
not-ending schema place what.DeliverGoodbye h e d = cc
not-ending schema place what.DeliverBroken h e d = cc
not-ending schema place _ h e d = refl

none-first : (xs ys : List PacketKind) → xs ++ ys ≡ [] → xs ≡ []
none-first [] ys e = refl
none-first (x ∷ xs) ys e = cc

lines-end : (schema : Schema) (side at : Side) (place : ℕ) (ws : List What) (h : EndReading) → IsEventWithEffects side (map (line_at at) ws) → delivered_by_lines ws ≡ [] → is_end_event (after_whats schema place ws h).event ≡ false
lines-end schema side at place [] h e d = absurd e
lines-end schema side at place (w ∷ ws) h e d =
    ap is_end_event (effects-event schema side at (place + 1) ws (after_what schema place w h) e.1) ∙ not-ending schema place w h e.0.1 (none-first (delivered_by w) (delivered_by_lines ws) d)

-- Deliveries

reply-event : (schema : Schema) (place : ℕ) (b : Bool) (q : AnsweredRequest) (a : Answer) (h : EndReading) → (after_whats schema place (reply_lines b q a) h).event ≡ h.event
reply-event schema place true q (answer.Ok vs) h = refl
reply-event schema place true q (answer.Fault r) h = refl
reply-event schema place false q a h = refl

delivery-tells : {schema : Schema} {packet : Packet} {q : Phase} {e f : End} {ws : List What} {ps : List Packet} (place : ℕ) (h : EndReading) → DeliveryPart schema packet e ws ps f q → RepliesFit schema packet e h → EventTells f (after_whats schema place ws h)
delivery-tells place h (parts.gets_request m row vs body found none) fit = λ is. cc
delivery-tells {schema} place h (parts.replaces m row vs old sync level replies body found rep told) fit = λ is. let x : true ≡ false = sym is ∙ ap is_end_event (reply-event schema (place + 1 + 1) replies _ _ _) in cc
delivery-tells place h (parts.gets_answer m row a body found sync) fit = λ is. cc
delivery-tells place h (parts.gets_reply m row a body found sync) fit = λ is. cc
delivery-tells place h (parts.drains packet last) fit = λ is. refl
delivery-tells place h (parts.passes_by m ordinary none) fit = absurd (fit.known m refl ordinary none)

-- Moves

move-tells : (schema : Schema) (place : ℕ) (mine theirs : End) (own others : EndReading) (to_me to_them : List Packet) (ev : Event) (output : Output) (m : EndMove schema place mine theirs own others to_me to_them ev output) → step schema mine to_me ev ≡ Some output → EventTells output.end (after_whats schema place m.whats own)
move-tells schema place mine theirs own others to_me to_them ev output m is = by m.parts lines
  where
    lines : IsEventWithEffects mine.side (map (line_at mine.side) m.whats)
    lines = subst (IsEventWithEffects mine.side) m.lines (events_have_their_lines schema mine to_me ev output is).lines

    by : {ev : Event} {ws : List What} {ps : List Packet} {f : End} {q : Phase} → StepParts schema mine to_me ev ws ps f q → IsEventWithEffects mine.side (map (line_at mine.side) ws) → EventTells f (after_whats schema place ws own)
    by {ws} (acts same steps) e = λ ends. let x : true ≡ false = sym ends ∙ lines-end schema mine.side mine.side place ws own e (own-delivers-none steps) in cc
    by (delivers packet first o part) e = delivery-tells place own part (m.arrives packet first o).fits

module _ (schema : Schema) (sound : IsSound schema) where
  tells-keep : EveryMoveKeeps schema (AtEnds schema EventTells) (λ r l b. true)
  tells-keep move w r output m k =
      let side : Side = move.side in
      record {
        kept = ends-keep schema EventTells side move.event w r output m.nested m.ends
            (move-tells schema r.lines (end_of side w) (end_of (other side) w) (end_reading_of side r) (other_of side r) (link_to side w) (link_to (other side) w) move.event output m.ends m.step)
            (at-ends schema EventTells side w r k).1;
        passes = λ following. all-pass schema r output.lines following;
      }

  pub tells-reached : (w : World) (r : Reading) → IsReached schema w r → AtEnds schema EventTells w r
  tells-reached w r h = reached-has schema (AtEnds schema EventTells) (λ top moves. (every-run schema sound (AtEnds schema EventTells) (λ r l b. true) tells-keep top moves ((λ is. cc), (λ is. cc))).kept) w r h
