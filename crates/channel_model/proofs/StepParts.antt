-- Every step is made of parts.
use Rattle.std.proofs.Common.{◌≡◌, pos, Bool, true, false, not, if◌then◌else◌, [], ◌∷◌, length, map, List, Some, None, is_some, option_and_then, refl, ap, ◌∙◌}
use Rattle.ipdl_base.specs.declared.line.What.{What}
use Rattle.ipdl_base.specs.declared.line.What.TheVariants as what
use Rattle.ipdl_base.specs.declared.schema.Schema.{Schema}
use Rattle.channel_model.specs.Acts as act
use Rattle.channel_model.specs.Answers as answering
use Rattle.channel_model.specs.Deliveries as delivery
use Rattle.channel_model.specs.Ends.{End, Packet, message, actor}
use Rattle.channel_model.specs.Events.{Event}
use Rattle.channel_model.specs.Events as event
use Rattle.channel_model.specs.Names.{renamed}
use Rattle.channel_model.specs.Numbers.{request_row}
use Rattle.channel_model.specs.Outputs.{Output, Change, beginning, line, is_open, is_dead_end}
use Rattle.channel_model.specs.Parts
use Rattle.channel_model.specs.Parts.{FirstPart, LaterPart, LaterParts, OwnParts, DeliveryPart}
use Rattle.channel_model.specs.Phases.{Phase, quiet, renaming, IsOver}
use Rattle.channel_model.specs.Returns as return
use Rattle.channel_model.specs.Sends as send
use Rattle.channel_model.specs.StepLaws.{IsMadeOf, IsDeliveryOfOnePart, IsStepOfParts, StepsAreMadeOfParts}
use Rattle.channel_model.specs.Steps.{step, provided, first_packet}
use Rattle.channel_model.specs.Takes as take
use Rattle.channel_model.specs.ValueActors.{received}
use Rattle.channel_model.proofs.DeliveryParts.{deliver-made}
use Rattle.channel_model.proofs.Made.{Makes, made, made-begun, made-alone, made-step}
use Rattle.channel_model.proofs.NameParts.{NoResolver, renamed-made, renaming-made, keep-made, answer-made, close-made, die-made}
use Rattle.channel_model.proofs.Provided.{provided-gives, found-gives}
use Rattle.channel_model.proofs.SendParts.{request-number, send-made}
use Rattle.channel_model.proofs.Tests.{and-left, and-right}
use Rattle.channel_model.proofs.TakeParts.{take-made, return-made}

not-true : (b : Bool) → not b ≡ true → b ≡ false
not-true true x = cc
not-true false x = refl

abbrev Own : Schema → End → Output → Type 0
Own schema e output = IsMadeOf (OwnParts schema e) e.side output

own-step : (schema : Schema) (e : End) (change : Change) (q : Phase) → Makes (OwnParts schema e) change (beginning e) q → Own schema e (change (beginning e))
own-step schema e change q a = made-step (OwnParts schema e) e change q a

alone-step : (schema : Schema) (e : End) (change : Change) (q : Phase) → Makes (FirstPart schema e) change (beginning e) q → IsOver q → Own schema e (change (beginning e))
alone-step schema e change q a over = own-step schema e change q (made-alone schema q change (beginning e) a over)

-- an actor, or no content
no_resolver : (b : Bool) (id : _) → NoResolver (if b then Some (actor id) else None)
no_resolver true id = tt
no_resolver false id = tt

pub steps_are_made_of_parts : StepsAreMadeOfParts
steps_are_made_of_parts schema e link (event.send route number vs name) output is =
    found-gives (Own schema e) (request_row schema number) (λ row. provided (send.may_send schema e row vs name) (send.send schema e row route vs name) e) output
    (λ row found. provided-gives (Own schema e) (send.may_send schema e row vs name) (send.send schema e row route vs name) e output
    (λ may. let own : request_row schema row.number ≡ Some row = ap (request_row schema) (request-number schema number row found).0 ∙ found in
    let r = send-made schema e row route vs name (send.send_refusal schema e row route vs) own may refl in
    own-step schema e (send.send schema e row route vs name) r.0 r.1)) is
steps_are_made_of_parts schema e link (event.answer by vs) output is =
    found-gives (Own schema e) (answering.answered_row schema e by) (λ row. provided (answering.may_answer schema e row vs) (answering.answer schema e row by vs) e) output
    (λ row found. provided-gives (Own schema e) (answering.may_answer schema e row vs) (answering.answer schema e row by vs) e output
    (λ may. alone-step schema e (answering.answer schema e row by vs) quiet (answer-made schema e row by vs (answering.answer_refusal schema e row by vs) (answering.resolver_used e by) (beginning e) refl found may refl refl) (refl, refl))) is
steps_are_made_of_parts schema e link (event.keep seq name) output is =
    provided-gives (Own schema e) (answering.may_keep e seq) (answering.keep e seq name) e output
    (λ may. own-step schema e (answering.keep e seq name) quiet (keep-made schema e seq name (answering.handled_resolver e seq) (beginning e) refl refl (and-right (send.may_act e) (is_some (answering.handled_resolver e seq)) may))) is
steps_are_made_of_parts schema e link (event.name name id) output is =
    let b : Bool = act.is_positive id in
    let w : What = what.Let name (if b then id else pos 0) in
    provided-gives (Own schema e) (send.may_act e) (act.name_actor name id) e output
    (λ may. own-step schema e (act.name_actor name id) quiet
    (made-begun schema renaming quiet (line w) (renamed name (if b then Some (actor id) else None)) (beginning e) (renaming-made schema w (beginning e) tt)
    (renamed-made renaming name (if b then Some (actor id) else None) (line w (beginning e)) refl (no_resolver b id)) (refl, refl))) is
steps_are_made_of_parts schema e link event.close output is =
    provided-gives (Own schema e) (send.may_act e) (act.close e) e output (λ may. let r = close-made schema (act.close_refusal e) (beginning e) refl in own-step schema e (act.close e) r.0 r.1) is
steps_are_made_of_parts schema e link event.die output is =
    provided-gives (Own schema e) (act.may_die e) act.die e output (λ may. alone-step schema e act.die quiet (die-made schema (beginning e) (not-true (is_dead_end e.state) may)) (refl, refl)) is
steps_are_made_of_parts schema e link event.deliver output is =
    found-gives (IsDeliveryOfOnePart schema e link) (first_packet link) (λ packet. provided (is_open e.state) (delivery.deliver schema packet) e) output
    (λ packet found. provided-gives (IsDeliveryOfOnePart schema e link) (is_open e.state) (delivery.deliver schema packet) e output
    (λ may. let r = deliver-made schema packet (beginning e) may in
    (packet, found, may, made-step (DeliveryPart schema packet e) e (delivery.deliver schema packet) r.0 r.1))) is
steps_are_made_of_parts schema e link event.take output is =
    found-gives (Own schema e) (take.taken_next e) (λ x. provided true (take.take schema x) e) output
    (λ x found. provided-gives (Own schema e) true (take.take schema x) e output (λ may. let r = take-made schema x (beginning e) found in own-step schema e (take.take schema x) r.0 r.1)) is
steps_are_made_of_parts schema e link (event.return vs) output is =
    found-gives (Own schema e) (return.dispatch_on_top e.stack) (λ entry. option_and_then (λ row. provided (return.may_return schema row vs) (return.return schema e row entry vs) e) (request_row schema entry.number)) output
    (λ entry on_top. found-gives (Own schema e) (request_row schema entry.number) (λ row. provided (return.may_return schema row vs) (return.return schema e row entry vs) e) output
    (λ row found. provided-gives (Own schema e) (return.may_return schema row vs) (return.return schema e row entry vs) e output
    (λ may. let r = return-made schema e row entry vs (beginning e) refl (record { on_top = on_top; found = found; may = may }) in own-step schema e (return.return schema e row entry vs) r.0 r.1))) is
steps_are_made_of_parts schema e link event.resume output is =
    found-gives (Own schema e) (return.answered_wait_on_top e.stack) (λ wait. option_and_then (λ row. provided true (return.resume schema e wait row) e) (request_row schema wait.number)) output
    (λ wait on_top. found-gives (Own schema e) (request_row schema wait.number) (λ row. provided true (return.resume schema e wait row) e) output
    (λ row found. provided-gives (Own schema e) true (return.resume schema e wait row) e output
    (λ may. alone-step schema e (return.resume schema e wait row) quiet
    (made (FirstPart schema e) (return.resume schema e wait row) (beginning e) quiet (return.resume_line wait.seq (received schema e.actors row wait.given) ∷ []) [] (Parts.resumes wait row on_top found) refl refl refl) (refl, refl)))) is
steps_are_made_of_parts schema e link event.flush output is =
    provided-gives (Own schema e) (return.may_flush e) return.flush e output
    (λ may. alone-step schema e return.flush quiet
    (made (FirstPart schema e) return.flush (beginning e) quiet (what.Flush (length e.outbox) ∷ []) (map message e.outbox) (Parts.flushes (and-left (is_open e.state) (not (return.is_empty e.outbox)) may)) refl refl refl) (refl, refl)) is

-- What parts give

-- what is true of the parts of a step is true of the step
pub by-parts : (schema : Schema) (e : End) (link : List Packet) (happened : Event) (output : Output) (P : Type 0) → step schema e link happened ≡ Some output
    → (IsMadeOf (OwnParts schema e) e.side output → P) → (happened ≡ event.deliver → IsDeliveryOfOnePart schema e link output → P) → P
by-parts schema e link happened output P is own delivered = by happened refl (steps_are_made_of_parts schema e link happened output is)
  where
    by : (now : Event) → happened ≡ now → IsStepOfParts schema e link now output → P
    by event.deliver same made = delivered same made
    by (event.send route number vs name) same made = own made
    by (event.answer way vs) same made = own made
    by (event.keep seq name) same made = own made
    by (event.name name id) same made = own made
    by event.close same made = own made
    by event.die same made = own made
    by event.take same made = own made
    by (event.return vs) same made = own made
    by event.resume same made = own made
    by event.flush same made = own made

-- What each part keeps.
pub record EachPartKeeps (schema : Schema) (P : End → Type 0) : Type 0 where
  pub first : {p : Phase} {e f : End} {ws : List What} {ps : List Packet} → FirstPart schema e ws ps f p → P e → P f
  pub later : {p q : Phase} {e f : End} {ws : List What} {ps : List Packet} → LaterPart p e ws ps f q → P e → P f
  pub delivery : {packet : Packet} {p : Phase} {e f : End} {ws : List What} {ps : List Packet} → DeliveryPart schema packet e ws ps f p → P e → P f

module _ (schema : Schema) (P : End → Type 0) (each : EachPartKeeps schema P) where
  laters-keep : {p q : Phase} {e f : End} {ws : List What} {ps : List Packet} → LaterParts p e ws ps f q → P e → P f
  laters-keep Parts.done h = h
  laters-keep (Parts.then part rest) h = laters-keep rest (each.later part h)

  own-keeps : {p : Phase} {e f : End} {ws : List What} {ps : List Packet} → OwnParts schema e ws ps f p → P e → P f
  own-keeps (Parts.begun first rest over) h = laters-keep rest (each.first first h)

  -- every step keeps it
  pub parts-keep : (e : End) (link : List Packet) (happened : Event) (output : Output) → step schema e link happened ≡ Some output → P e → P output.end
  parts-keep e link happened output is h =
      by-parts schema e link happened output (P output.end) is (λ made. own-keeps made.parts h) (λ same delivered. each.delivery delivered.3.parts h)
