-- What the lines of a step show: one event of the end's side, which is a delivery or not, and effects.
use Rattle.std.proofs.Common.{◌≡◌, ℤ, Bool, true, false, if◌then◌else◌, List, [], ◌∷◌, ◌++◌, map, Option, Some, None, refl, sym, ap, subst, ◌∙◌}
use Rattle.std.specs.List.{AllByRecursion, cons_option}
use Rattle.std.proofs.lemmas.Bool.{false≢true}
use Rattle.ipdl_base.specs.declared.kinds.Side.{Side}
use Rattle.ipdl_base.specs.declared.line.Line.{Line}
use Rattle.ipdl_base.specs.declared.line.What.{What}
use Rattle.ipdl_base.specs.declared.line.What.TheVariants as what
use Rattle.ipdl_base.specs.declared.message.Body.{Body}
use Rattle.ipdl_base.specs.declared.message.Body.TheVariants.{Request, Reply, Fault, Goodbye}
use Rattle.ipdl_base.specs.declared.message.Message.{Message}
use Rattle.ipdl_base.specs.declared.schema.Schema.{Schema}
use Rattle.ipdl_base.specs.declared.value.Values.{Values}
use Rattle.ipdl_base.specs.Lines.{is_effect}
use Rattle.nesting_core.specs.declared.frame.Answer.{Answer}
use Rattle.nesting_core.specs.declared.frame.Answer.TheVariants as answer
use Rattle.pending_queue.specs.declared.item.Item.{Item}
use Rattle.pending_queue.specs.declared.item.Item.TheVariants as item
use Rattle.channel_model.specs.Answers as answering
use Rattle.channel_model.specs.Ends.{End, Packet, message, mark}
use Rattle.channel_model.specs.EventLines.{IsEffectOf, IsEventWithEffects}
use Rattle.channel_model.specs.Events.{Event}
use Rattle.channel_model.specs.Events as event
use Rattle.channel_model.specs.Numbers.{is_sync_row}
use Rattle.channel_model.specs.Outputs.{Output, line_at}
use Rattle.channel_model.specs.Parts.{FirstPart, OwnParts, DeliveryPart, IsRefusal, IsRenaming, shut_line, farewell_line, unknown_line}
use Rattle.channel_model.specs.Parts as Parts
use Rattle.channel_model.specs.Phases.{Phase}
use Rattle.channel_model.specs.Returns as return
use Rattle.channel_model.specs.Runs.{is_delivery}
use Rattle.channel_model.specs.Sends as send
use Rattle.channel_model.specs.StepLaws.{HasItsLines, IsMadeOf}
use Rattle.channel_model.specs.Steps.{step}
use Rattle.channel_model.specs.ValueActors.{received}
use Rattle.channel_model.proofs.Events.{events_have_their_lines}
use Rattle.channel_model.proofs.StepParts.{by-parts, steps_are_made_of_parts}
use Rattle.script_steps.specs.Choices.{Choice, is_delivery_line, choice_of, choices_of}

-- the first of some lines is that of a delivery, or it is not
abbrev pub FirstDelivers : Bool → List What → Type 0
FirstDelivers delivers [] = ⊥
FirstDelivers delivers (w ∷ ws) = is_delivery_line w ≡ delivers

first-append : (delivers : Bool) (ws vs : List What) → FirstDelivers delivers ws → FirstDelivers delivers (ws ++ vs)
first-append delivers [] vs h = absurd h
first-append delivers (w ∷ ws) vs h = h

refusal-own : (schema : Schema) (w : What) → IsRefusal schema w → is_delivery_line w ≡ false
refusal-own schema (what.RefusedSend cause number) h = refl
refusal-own schema (what.RefusedClose cause) h = refl
refusal-own schema (what.RefusedResolve cause) h = refl
refusal-own schema (what.RefusedReject cause) h = refl
refusal-own schema _ h = absurd h

renaming-own : (w : What) → IsRenaming w → is_delivery_line w ≡ false
renaming-own (what.Keep seq name) h = refl
renaming-own (what.Let name id) h = refl
renaming-own _ h = absurd h

send-own : (sync : Bool) (m : Message) (vs : Values) → is_delivery_line (if sync then what.Call m.seq m.transaction m.route m.number vs else what.Send m.seq m.route m.number vs) ≡ false
send-own true m vs = refl
send-own false m vs = refl

answering-own : (seq : ℤ) (vs : Option Values) → is_delivery_line (answering.answering_line seq vs) ≡ false
answering-own seq None = refl
answering-own seq (Some vs) = refl

resume-own : (seq : ℤ) (a : Answer) → is_delivery_line (return.resume_line seq a) ≡ false
resume-own seq (answer.Ok vs) = refl
resume-own seq (answer.Fault why) = refl

shut-own : (last : Item) → is_delivery_line (shut_line last) ≡ false
shut-own (item.Message m sync level) = refl
shut-own item.Broken = refl

first-own : {schema : Schema} {p : Phase} {e f : End} {ws : List What} {ps : List Packet} → FirstPart schema e ws ps f p → FirstDelivers false ws
first-own {schema} (Parts.refuses w is) = refusal-own schema w is
first-own (Parts.renames w is) = renaming-own w is
first-own (Parts.flushes open_is) = refl
first-own {e} (Parts.sends row route vs name sent) = send-own (is_sync_row row) (send.request_of e row route vs) vs
first-own (Parts.answers by vs r row found may ok is) = answering-own r.seq vs
first-own (Parts.closes open_is none) = refl
first-own (Parts.dies open_is) = refl
first-own (Parts.dies_silent open_is alive) = refl
first-own (Parts.takes m sync level row vs next body found stays) = refl
first-own (Parts.drops m sync level row vs id replies next body found gone is) = refl
first-own (Parts.drops_unknown m sync level vs next body none) = refl
first-own (Parts.takes_reply m sync level a next body late) = refl
first-own (Parts.settles m sync level row a next body found is) = refl
first-own (Parts.shuts last next is) = shut-own last
first-own (Parts.returns entry row vs told lost returns t l) = refl
first-own {schema} {e} (Parts.resumes wait row on_top found) = resume-own wait.seq (received schema e.actors row wait.given)

own-delivers : {schema : Schema} {p : Phase} {e f : End} {ws : List What} {ps : List Packet} → OwnParts schema e ws ps f p → FirstDelivers false ws
own-delivers (Parts.begun {ws} {vs} first rest over) = first-append false ws vs (first-own first)

farewell-delivers : (packet : Packet) → is_delivery_line (farewell_line packet) ≡ true
farewell-delivers (message m) = refl
farewell-delivers mark = refl

unknown-delivers : (seq : ℤ) (body : Body) → is_delivery_line (unknown_line seq body) ≡ true
unknown-delivers seq (Request vs) = refl
unknown-delivers seq (Reply vs) = refl
unknown-delivers seq (Fault why) = refl
unknown-delivers seq Goodbye = refl

delivery-delivers : {schema : Schema} {packet : Packet} {p : Phase} {e f : End} {ws : List What} {ps : List Packet} → DeliveryPart schema packet e ws ps f p → FirstDelivers true ws
delivery-delivers (Parts.gets_request m row vs body found none) = refl
delivery-delivers (Parts.replaces m row vs old sync level replies body found rep is) = refl
delivery-delivers (Parts.gets_answer m row a body found sync) = refl
delivery-delivers (Parts.gets_reply m row a body found async) = refl
delivery-delivers (Parts.drains packet is) = farewell-delivers packet
delivery-delivers (Parts.passes_by m ordinary none) = unknown-delivers m.seq m.body

-- What a step prints: a line of its event, whose kind shows whether it is a delivery, and lines of effects.
pub record Prints (e : End) (event : Event) (output : Output) : Type 0 where
  pub first : What
  pub rest : List What
  pub lines : output.lines ≡ map (line_at e.side) (first ∷ rest)
  pub is_event : is_effect first ≡ false
  pub delivers : is_delivery_line first ≡ is_delivery event
  pub effects : AllByRecursion (λ w. is_effect w ≡ true) rest
  pub side : output.end.side ≡ e.side

effects-of : (side : Side) (ws : List What) → AllByRecursion (IsEffectOf side) (map (line_at side) ws) → AllByRecursion (λ w. is_effect w ≡ true) ws
effects-of side [] h = tt
effects-of side (w ∷ ws) h = (h.0.1, effects-of side ws h.1)

prints-by : (e : End) (happened : Event) (output : Output) (ws : List What) → output.lines ≡ map (line_at e.side) ws → FirstDelivers (is_delivery happened) ws → HasItsLines e output → Prints e happened output
prints-by e happened output [] is h own = absurd h
prints-by e happened output (w ∷ ws) is h own =
    let all : IsEventWithEffects e.side (map (line_at e.side) (w ∷ ws)) = subst (IsEventWithEffects e.side) is own.lines in
    record { first = w; rest = ws; lines = is; is_event = all.0.1; delivers = h; effects = effects-of e.side ws all.1; side = own.side }

own-event : (schema : Schema) (e : End) (link : List Packet) (happened : Event) (output : Output) → step schema e link happened ≡ Some output → is_delivery happened ≡ false → Prints e happened output
own-event schema e link happened output is not_one =
    by-parts schema e link happened output (Prints e happened output) is
    (λ made. prints-by e happened output made.whats made.lines (subst (λ b. FirstDelivers b made.whats) (sym not_one) (own-delivers made.parts)) (events_have_their_lines schema e link happened output is))
    (λ same made. absurd (differ happened same not_one))
  where
    differ : (happened : Event) → happened ≡ event.deliver → is_delivery happened ≡ false → ⊥
    differ happened same h = false≢true (sym h ∙ ap is_delivery same)

delivery-event : (schema : Schema) (e : End) (link : List Packet) (output : Output) → step schema e link event.deliver ≡ Some output → Prints e event.deliver output
delivery-event schema e link output is =
    let made = steps_are_made_of_parts schema e link event.deliver output is in
    prints-by e event.deliver output made.3.whats made.3.lines (delivery-delivers made.3.parts) (events_have_their_lines schema e link event.deliver output is)

pub step-prints : (schema : Schema) (e : End) (link : List Packet) (happened : Event) (output : Output) → step schema e link happened ≡ Some output → Prints e happened output
step-prints schema e link event.deliver output is = delivery-event schema e link output is
step-prints schema e link (event.send route number vs name) output is = own-event schema e link (event.send route number vs name) output is refl
step-prints schema e link (event.answer by vs) output is = own-event schema e link (event.answer by vs) output is refl
step-prints schema e link (event.keep seq name) output is = own-event schema e link (event.keep seq name) output is refl
step-prints schema e link (event.name name id) output is = own-event schema e link (event.name name id) output is refl
step-prints schema e link event.close output is = own-event schema e link event.close output is refl
step-prints schema e link event.die output is = own-event schema e link event.die output is refl
step-prints schema e link event.take output is = own-event schema e link event.take output is refl
step-prints schema e link (event.return vs) output is = own-event schema e link (event.return vs) output is refl
step-prints schema e link event.resume output is = own-event schema e link event.resume output is refl
step-prints schema e link event.flush output is = own-event schema e link event.flush output is refl

-- The choices that lines record

event-choice : (b : Bool) (choice : Choice) → b ≡ false → (if b then None else Some choice) ≡ Some choice
event-choice true choice h = cc
event-choice false choice h = refl

effect-choice : (b : Bool) (choice : Choice) → b ≡ true → (if b then None else Some choice) ≡ None
effect-choice true choice h = refl
effect-choice false choice h = cc

effects-choose : (side : Side) (ws : List What) → AllByRecursion (λ w. is_effect w ≡ true) ws → choices_of (map (line_at side) ws) ≡ []
effects-choose side [] h = refl
effects-choose side (w ∷ ws) h =
    ap (λ o. cons_option o (choices_of (map (line_at side) ws))) (effect-choice (is_effect w) (record { side = side; delivers = is_delivery_line w }) h.0) ∙ effects-choose side ws h.1

-- a step records one choice
pub prints-choice : (e : End) (happened : Event) (output : Output) → Prints e happened output → choices_of output.lines ≡ (record { side = e.side; delivers = is_delivery happened }) ∷ []
prints-choice e happened output p =
    ap choices_of p.lines
    ∙ ap (λ o. cons_option o (choices_of (map (line_at e.side) p.rest))) (event-choice (is_effect p.first) (record { side = e.side; delivers = is_delivery_line p.first }) p.is_event)
    ∙ ap (λ b. (record { side = e.side; delivers = b }) ∷ choices_of (map (line_at e.side) p.rest)) p.delivers
    ∙ ap (λ cs. (record { side = e.side; delivers = is_delivery happened }) ∷ cs) (effects-choose e.side p.rest p.effects)
