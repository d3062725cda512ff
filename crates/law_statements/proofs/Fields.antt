-- Each list, count and mark that is read of an end is a filter or a count of what it printed.
use Rattle.std.proofs.Common.{◌≡◌, ℕ, ◌+◌, ℤ, pos, Bool, true, false, not, ◌&&◌, if◌then◌else◌, List, [], ◌∷◌, ◌++◌, count_by, filter_map, Option, Some, None, refl, sym, ap, ◌∙◌}
use Rattle.std.specs.List.{list_any}
use Rattle.std.specs.Option.{option_map_or}
use Rattle.ipdl_base.specs.declared.kinds.Side.{Side}
use Rattle.ipdl_base.specs.declared.line.Line.{Line}
use Rattle.ipdl_base.specs.declared.line.What.{What}
use Rattle.ipdl_base.specs.declared.line.What.TheVariants as what
use Rattle.ipdl_base.specs.declared.schema.Schema.{Schema}
use Rattle.ipdl_base.specs.declared.value.Values.{Values}
use Rattle.ipdl_base.specs.Sides.{top_id}
use Rattle.history_reading.specs.declared.parts.BuiltActor.{BuiltActor}
use Rattle.history_reading.specs.declared.parts.EventKind.{EventKind}
use Rattle.history_reading.specs.declared.parts.EventKind.TheVariants as event
use Rattle.history_reading.specs.declared.parts.PacketKind.TheVariants as seen
use Rattle.history_reading.specs.EndReading.{EndReading, opening, is_sync_request, lives, was_built}
use Rattle.history_reading.specs.Numbers.{has}
use Rattle.history_reading.specs.Reading.{after_what, answering, arriving, delivering, end_reading_of, read, route_of, sending}
use Rattle.history_reading.specs.Rows.{is_constructor, is_sync_number, wants_number}
use Rattle.history_reading.specs.SentPacket as told
use Rattle.history_reading.specs.SentPacket.{SentPacket}
use Rattle.law_statements.specs.Said.{is_event, last_event, made_of, said_by}
use Rattle.law_statements.specs.Packets.{constructs, delivered, delivery, failed, gone, has_closed, is_closing, is_farewell, number_failed, number_gone, number_of_reply, number_replaced, number_settled, replaced, replies, sent, sent_at, settled}
use Rattle.law_statements.specs.Actors as actors
use Rattle.law_statements.specs.Actors.{built, built_at, event_actor, fallen, id_fallen, last_actor}
use Rattle.law_statements.proofs.Along.{along}
use Rattle.law_statements.proofs.Lists.{add, any-add, count-add, filter-add, last-add, made-add}

-- a reply that arrives, and one that answers a wait, leave most fields unchanged
alike : {X : Type 0} (field : EndReading → X) (b : Bool) (x y : EndReading) → field x ≡ field y → field (if b then x else y) ≡ field y
alike field true x y e = e
alike field false x y e = refl

pub of-reply : {X : Type 0} (field : EndReading → X) (n : ℤ) (own : EndReading) → field (answering n (delivering (seen.Reply n) own)) ≡ field (arriving (seen.Reply n) own)
    → field (if is_sync_request own n then answering n (delivering (seen.Reply n) own) else arriving (seen.Reply n) own) ≡ field (arriving (seen.Reply n) own)
of-reply field n own e = alike field (is_sync_request own n) (answering n (delivering (seen.Reply n) own)) (arriving (seen.Reply n) own) e

-- what grows by one line in the way that a filter does is the filter
filtered : {A : Type 0} (field : EndReading → List A) (f : What → Option A) → field opening ≡ []
    → ((schema : Schema) (place : ℕ) (w : What) (own : EndReading) → field (after_what schema place w own) ≡ add (field own) (f w))
    → (schema : Schema) (end : Side) (lines : List Line) → field (end_reading_of end (read schema lines)) ≡ filter_map f (said_by end lines)
filtered field f first step schema end lines =
    along schema (λ own said. field own ≡ filter_map f said) first
    (λ place own said w p. step schema place w own ∙ ap (λ xs. add xs (f w)) p ∙ sym (filter-add f said w)) end lines

fallen-step : (schema : Schema) (place : ℕ) (w : What) (own : EndReading) → (after_what schema place w own).fallen ≡ add own.fallen (id_fallen w)
fallen-step schema place (what.DeliverReply n) own = of-reply (λ o. o.fallen) n own refl
fallen-step schema place _ own = refl

pub fallen-read : (schema : Schema) (end : Side) (lines : List Line) → (end_reading_of end (read schema lines)).fallen ≡ fallen (said_by end lines)
fallen-read = filtered (λ o. o.fallen) id_fallen refl fallen-step

delivered-step : (schema : Schema) (place : ℕ) (w : What) (own : EndReading) → (after_what schema place w own).delivered ≡ add own.delivered (delivery w)
delivered-step schema place (what.DeliverReply n) own = of-reply (λ o. o.delivered) n own refl
delivered-step schema place _ own = refl

pub delivered-read : (schema : Schema) (end : Side) (lines : List Line) → (end_reading_of end (read schema lines)).delivered ≡ delivered (said_by end lines)
delivered-read = filtered (λ o. o.delivered) delivery refl delivered-step

gone-step : (schema : Schema) (place : ℕ) (w : What) (own : EndReading) → (after_what schema place w own).gone ≡ add own.gone (number_gone w)
gone-step schema place (what.DeliverReply n) own = of-reply (λ o. o.gone) n own refl
gone-step schema place _ own = refl

pub gone-read : (schema : Schema) (end : Side) (lines : List Line) → (end_reading_of end (read schema lines)).gone ≡ gone (said_by end lines)
gone-read = filtered (λ o. o.gone) number_gone refl gone-step

replaced-step : (schema : Schema) (place : ℕ) (w : What) (own : EndReading) → (after_what schema place w own).replaced ≡ add own.replaced (number_replaced w)
replaced-step schema place (what.DeliverReply n) own = of-reply (λ o. o.replaced) n own refl
replaced-step schema place _ own = refl

pub replaced-read : (schema : Schema) (end : Side) (lines : List Line) → (end_reading_of end (read schema lines)).replaced ≡ replaced (said_by end lines)
replaced-read = filtered (λ o. o.replaced) number_replaced refl replaced-step

replies-step : (schema : Schema) (place : ℕ) (w : What) (own : EndReading) → (after_what schema place w own).replies ≡ add own.replies (number_of_reply w)
replies-step schema place (what.DeliverReply n) own = of-reply (λ o. o.replies) n own refl
replies-step schema place _ own = refl

pub replies-read : (schema : Schema) (end : Side) (lines : List Line) → (end_reading_of end (read schema lines)).replies ≡ replies (said_by end lines)
replies-read = filtered (λ o. o.replies) number_of_reply refl replies-step

failed-step : (schema : Schema) (place : ℕ) (w : What) (own : EndReading) → (after_what schema place w own).failed ≡ add own.failed (number_failed w)
failed-step schema place (what.DeliverReply n) own = of-reply (λ o. o.failed) n own refl
failed-step schema place _ own = refl

pub failed-read : (schema : Schema) (end : Side) (lines : List Line) → (end_reading_of end (read schema lines)).failed ≡ failed (said_by end lines)
failed-read = filtered (λ o. o.failed) number_failed refl failed-step

settled-step : (schema : Schema) (place : ℕ) (w : What) (own : EndReading) → (after_what schema place w own).settled ≡ add own.settled (number_settled w)
settled-step schema place (what.DeliverReply n) own = of-reply (λ o. o.settled) n own refl
settled-step schema place _ own = refl

pub settled-read : (schema : Schema) (end : Side) (lines : List Line) → (end_reading_of end (read schema lines)).settled ≡ settled (said_by end lines)
settled-read = filtered (λ o. o.settled) number_settled refl settled-step

-- What was closed, and what was constructed

over-step : (schema : Schema) (place : ℕ) (w : What) (own : EndReading) → (after_what schema place w own).over ≡ (if is_closing w then true else own.over)
over-step schema place (what.DeliverReply n) own = of-reply (λ o. o.over) n own refl
over-step schema place _ own = refl

pub over-read : (schema : Schema) (end : Side) (lines : List Line) → (end_reading_of end (read schema lines)).over ≡ has_closed (said_by end lines)
over-read schema end lines =
    along schema (λ own said. own.over ≡ has_closed said) refl
    (λ place own said w p. over-step schema place w own ∙ ap (λ (b : Bool). if is_closing w then true else b) p ∙ sym (any-add is_closing said w)) end lines

ended-step : (schema : Schema) (place : ℕ) (w : What) (own : EndReading) → (after_what schema place w own).ended ≡ (if is_farewell w then true else own.ended)
ended-step schema place (what.DeliverReply n) own = of-reply (λ o. o.ended) n own refl
ended-step schema place _ own = refl

made-step : (schema : Schema) (place : ℕ) (w : What) (own : EndReading) → (after_what schema place w own).made ≡ (if constructs schema w then own.made + 1 else own.made)
made-step schema place (what.DeliverReply n) own = of-reply (λ o. o.made) n own refl
made-step schema place _ own = refl

-- What was sent

pub record SentRead (schema : Schema) (own : EndReading) (said : List What) : Type 0 where
  pub ended : own.ended ≡ list_any is_farewell said
  pub made : own.made ≡ count_by (constructs schema) said
  pub sent : own.sent ≡ sent schema said

sent-request : (schema : Schema) (n transaction route : ℤ) (number : ℕ) (values : Values) (own : EndReading) (count : ℕ) → own.made ≡ count
    → (sending schema n transaction route number values own).sent
    ≡ own.sent ++ told.request (record { seq = n; transaction = transaction; sync = is_sync_number schema number; wants = wants_number schema number; route = route; number = number; made = if is_constructor schema number then count + 1 else 0; values = values }) ∷ []
sent-request schema n transaction route number values own count e =
    ap (λ (m : ℕ). own.sent ++ told.request (record { seq = n; transaction = transaction; sync = is_sync_number schema number; wants = wants_number schema number; route = route; number = number; made = if is_constructor schema number then m + 1 else 0; values = values }) ∷ []) e

sent-mark : (b : Bool) (xs : List SentPacket) → (if b then xs else xs ++ told.broken ∷ []) ≡ add xs (if b then None else Some told.broken)
sent-mark true xs = refl
sent-mark false xs = refl

sent-step : (schema : Schema) (place : ℕ) (w : What) (own : EndReading) (said : List What) → SentRead schema own said → (after_what schema place w own).sent ≡ add own.sent (sent_at schema said w)
sent-step schema place (what.Send n route number values) own said p = sent-request schema n (pos 0) route number values own (count_by (constructs schema) said) p.made
sent-step schema place (what.Call n transaction route number values) own said p = sent-request schema n transaction route number values own (count_by (constructs schema) said) p.made
sent-step schema place what.Die own said p = sent-mark own.ended own.sent ∙ ap (λ (b : Bool). add own.sent (if b then None else Some told.broken)) p.ended
sent-step schema place (what.DeliverReply n) own said p = of-reply (λ o. o.sent) n own refl
sent-step schema place _ own said p = refl

pub sent-more : (schema : Schema) (place : ℕ) (own : EndReading) (said : List What) (w : What) → SentRead schema own said → SentRead schema (after_what schema place w own) (said ++ w ∷ [])
sent-more schema place own said w p = record {
  ended = ended-step schema place w own ∙ ap (λ (b : Bool). if is_farewell w then true else b) p.ended ∙ sym (any-add is_farewell said w);
  made = made-step schema place w own ∙ ap (λ (m : ℕ). if constructs schema w then m + 1 else m) p.made ∙ sym (count-add (constructs schema) said w);
  sent = sent-step schema place w own said p ∙ ap (λ xs. add xs (sent_at schema said w)) p.sent ∙ sym (made-add (sent_at schema) [] said w);
}

pub sent-read : (schema : Schema) (end : Side) (lines : List Line) → (end_reading_of end (read schema lines)).sent ≡ sent schema (said_by end lines)
sent-read schema end lines = (along schema (SentRead schema) (record { ended = refl; made = refl; sent = refl }) (sent-more schema) end lines).sent

-- The last event, and the actors that were built

abbrev pub kind_of : What → EventKind
kind_of (what.Send n route number values) = event.Sends n route
kind_of (what.Call n transaction route number values) = event.Sends n route
kind_of (what.Take n route number values) = event.Takes n route
kind_of what.DeliverGoodbye = event.Ends
kind_of what.DeliverBroken = event.Ends
kind_of what.Close = event.Closes
kind_of what.ShutNormal = event.Closes
kind_of what.ShutAbnormal = event.Closes
kind_of _ = event.Other

abbrev pub last_kind : List What → EventKind
last_kind said = option_map_or kind_of (last_event said) event.Other

event-step : (schema : Schema) (place : ℕ) (w : What) (own : EndReading) → (after_what schema place w own).event ≡ (if is_event w then kind_of w else own.event)
event-step schema place what.Die own = refl
event-step schema place _ own = refl

kind-if : (b : Bool) (w : What) (before : Option What) → (if b then kind_of w else option_map_or kind_of before event.Other) ≡ option_map_or kind_of (if b then Some w else before) event.Other
kind-if true w before = refl
kind-if false w before = refl

event-more : (schema : Schema) (place : ℕ) (own : EndReading) (said : List What) (w : What) → own.event ≡ last_kind said → (after_what schema place w own).event ≡ last_kind (said ++ w ∷ [])
event-more schema place own said w p =
    event-step schema place w own ∙ ap (λ k. if is_event w then kind_of w else k) p ∙ kind-if (is_event w) w (last_event said)
    ∙ ap (λ (o : Option What). option_map_or kind_of o event.Other) (sym (last-add is_event said w))

pub event-read : (schema : Schema) (end : Side) (lines : List Line) → (end_reading_of end (read schema lines)).event ≡ last_kind (said_by end lines)
event-read schema end lines = along schema (λ own said. own.event ≡ last_kind said) refl (event-more schema) end lines

actor-of : (w : What) → route_of (kind_of w) ≡ event_actor w
actor-of what.Die = refl
actor-of _ = refl

actor-if : (o : Option What) → route_of (option_map_or kind_of o event.Other) ≡ option_map_or event_actor o (pos 0)
actor-if None = refl
actor-if (Some w) = actor-of w

pub actor-read : (schema : Schema) (end : Side) (lines : List Line) → route_of (end_reading_of end (read schema lines)).event ≡ last_actor (said_by end lines)
actor-read schema end lines = ap route_of (event-read schema end lines) ∙ actor-if (last_event (said_by end lines))

pub record BuiltRead (own : EndReading) (said : List What) : Type 0 where
  pub event : own.event ≡ last_kind said
  pub built : own.built ≡ built said

built-step : (schema : Schema) (place : ℕ) (w : What) (own : EndReading) (said : List What) → own.event ≡ last_kind said → (after_what schema place w own).built ≡ add own.built (built_at said w)
built-step schema place (what.Built id protocol) own said p =
    ap (λ (m : ℤ). own.built ++ record { id = id; manager = m } ∷ []) (ap route_of p ∙ actor-if (last_event said))
built-step schema place (what.DeliverReply n) own said p = of-reply (λ o. o.built) n own refl
built-step schema place _ own said p = refl

add-under : {A : Type 0} (x : A) (xs : List A) (o : Option A) → x ∷ add xs o ≡ add (x ∷ xs) o
add-under x xs None = refl
add-under x xs (Some y) = refl

pub built-add : (said : List What) (w : What) → built (said ++ w ∷ []) ≡ add (built said) (built_at said w)
built-add said w =
    ap (λ (xs : List BuiltActor). record { id = top_id; manager = pos 0 } ∷ xs) (made-add built_at [] said w)
    ∙ add-under (record { id = top_id; manager = pos 0 }) (made_of built_at [] said) (built_at said w)

pub built-more : (schema : Schema) (place : ℕ) (own : EndReading) (said : List What) (w : What) → BuiltRead own said → BuiltRead (after_what schema place w own) (said ++ w ∷ [])
built-more schema place own said w p = record {
  event = event-more schema place own said w p.event;
  built = built-step schema place w own said p.event ∙ ap (λ xs. add xs (built_at said w)) p.built ∙ sym (built-add said w);
}

pub built-read : (schema : Schema) (end : Side) (lines : List Line) → (end_reading_of end (read schema lines)).built ≡ built (said_by end lines)
built-read schema end lines = (along schema BuiltRead (record { event = refl; built = refl }) (built-more schema) end lines).built

pub lives-read : (schema : Schema) (end : Side) (lines : List Line) → lives (end_reading_of end (read schema lines)) ≡ actors.lives (said_by end lines)
lives-read schema end lines =
    ap (λ (xs : List BuiltActor). λ id. was_built xs id && not (has (end_reading_of end (read schema lines)).fallen id)) (built-read schema end lines)
    ∙ ap (λ (xs : List ℤ). λ id. was_built (built (said_by end lines)) id && not (has xs id)) (fallen-read schema end lines)
