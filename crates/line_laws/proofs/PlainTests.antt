-- The tests of laws do not depend on where boxes lie.
use Rattle.std.proofs.Common.{◌≡◌, ℕ, zero, suc, ℤ, pos, Bool, true, false, not, ◌&&◌, ◌||◌, if◌then◌else◌, List, [], ◌∷◌, ◌++◌, map, length, Option, Some, None, is_some, option_map, option_and_then, unwrap_or, slice_get, nat_lt, refl, sym, ap, ◌∙◌}
use Rattle.std.specs.List.{list_any, list_all}
use Rattle.std.specs.Option.{option_map_or}
use Rattle.std.specs.Ordering.{int_eq}
use Rattle.std.proofs.lemmas.List.{map-append, length-map}
use Rattle.ipdl_base.specs.declared.kinds.Destroy.{Destroy}
use Rattle.ipdl_base.specs.declared.kinds.Reason.{Reason}
use Rattle.ipdl_base.specs.declared.kinds.Reason.TheVariants as reason
use Rattle.ipdl_base.specs.declared.kinds.Side.{Side}
use Rattle.ipdl_base.specs.declared.kinds.Side.TheVariants as side
use Rattle.ipdl_base.specs.declared.line.Line.{Line}
use Rattle.ipdl_base.specs.declared.line.What.{What}
use Rattle.ipdl_base.specs.declared.line.What.TheVariants as what
use Rattle.ipdl_base.specs.declared.schema.ParamRow.{ParamRow}
use Rattle.ipdl_base.specs.declared.schema.Schema.{Schema}
use Rattle.ipdl_base.specs.declared.value.Values.{Values}
use Rattle.ipdl_base.specs.Lines.{is_effect, same_side}
use Rattle.ipdl_base.specs.Plain.{plain_values}
use Rattle.ipdl_base.specs.Signatures.{params_of, returns_of}
use Rattle.nesting_core.specs.declared.frame.Head.{Head}
use Rattle.history_reading.specs.declared.law.Law.{Law}
use Rattle.history_reading.specs.declared.law.Law.TheVariants as law
use Rattle.history_reading.specs.declared.parts.CallFrame.{CallFrame}
use Rattle.history_reading.specs.declared.parts.CallFrame.TheVariants as frame
use Rattle.history_reading.specs.declared.parts.EventKind.{EventKind}
use Rattle.history_reading.specs.declared.parts.EventKind.TheVariants as event
use Rattle.history_reading.specs.declared.parts.PacketKind.{PacketKind}
use Rattle.history_reading.specs.declared.parts.PacketKind.TheVariants as seen
use Rattle.history_reading.specs.EndReading.{EndReading, was_built, lives, own_request, is_promise, is_sync_request, awaits, has_unanswered, is_settled_packet}
use Rattle.history_reading.specs.Fallen.{is_next as is_next_to_fall, lets_fall, may_fall, fallen_line, fallen_moment}
use Rattle.history_reading.specs.Holds.{is_readable_what, is_of_event, is_readable, each_line, is_readable_list, line_test, moment_test, moment_before, passes, each_passes, holds_of}
use Rattle.ipdl_base.specs.Sides.{other as other_side}
use Rattle.history_reading.specs.Living.{made_id, request_makes, event_makes, is_made, is_missing_in, is_first_missing, is_dropped_for, is_taken_alive, is_built_right, living_line}
use Rattle.history_reading.specs.Nulled.{missing, is_nulled}
use Rattle.history_reading.specs.Numbers.{has, same_packet}
use Rattle.history_reading.specs.Prefix.{is_next_of, is_next, is_there, is_for, was_sent, was_sent_with, is_reply_there, prefix_line}
use Rattle.history_reading.specs.Reading.{Reading, read, end_reading_of, other_of}
use Rattle.history_reading.specs.SentPacket as told
use Rattle.history_reading.specs.SentPacket.{SentPacket, Request, ReplyContent, packet_kind, is_said, says}
use Rattle.history_reading.specs.Settled.{is_unsettled, is_resolved_with, is_resolved_missing, is_rejected, is_close_event, is_settle, is_fall_of, is_fall_at, falls_next, promise_falls_next, reports_fallen, resolves_missing, reports_destroyed, is_destroyed, is_cause, is_resolved, settled_line, all_settled, settled_moment}
use Rattle.history_reading.specs.Still.{head_of, call_head, request_head, frame_head, inner_of_head, frame_inner, inner_transaction, awaited_head, awaited_level, DeferralState, deferral_of, defers_request_head, defers_head, defers_packet, is_open, can_deliver, can_take_now, takes_items, some_is_free, can_take, is_still_at, is_still}
use Rattle.history_reading.specs.Waits.{own_returns, is_fault, is_ok_with, is_ok_missing, is_own_fault, is_answered, is_failed, is_end_event, is_reply_in_order, waits_line, blocks, block_each_other, some_waits_after_end, some_waits, waits_while_still, waits_moment}
use Rattle.end_parts.specs.PlainLines.{plain_what, plain_line}
use Rattle.line_laws.proofs.PlainReadings.{plain_request, plain_content, plain_packet, plain_end, plain_reading, own-plain, sync-plain, read-plain}
use Rattle.line_laws.proofs.PlainValues.{missing-plain, live-plain, is_nulled-plain}
use Rattle.line_laws.proofs.Texts.{effect-plain}

-- What is required of requests and of what was sent

found-by : {A : Type 0} (f g : Request → A) (d : A) → ((r : Request) → f (plain_request r) ≡ g r) → (found : Option Request) → option_map_or f (option_map plain_request found) d ≡ option_map_or g found d
found-by f g d h None = refl
found-by f g d h (Some r) = h r

asked : {A : Type 0} (f g : Request → A) (d : A) → ((r : Request) → f (plain_request r) ≡ g r) → (own : EndReading) (n : ℤ) → option_map_or f (own_request (plain_end own) n) d ≡ option_map_or g (own_request own n) d
asked f g d h own n = ap (λ found. option_map_or f found d) (own-plain own n) ∙ found-by f g d h (own_request own n)

said-by : (f g : ReplyContent → Bool) → ((c : ReplyContent) → f (plain_content c) ≡ g c) → (n : ℤ) (packet : SentPacket) → is_said f n (plain_packet packet) ≡ is_said g n packet
said-by f g h n (told.request r) = refl
said-by f g h n (told.said m content) = ap (λ b. int_eq m n && b) (h content)
said-by f g h n told.goodbye = refl
said-by f g h n told.broken = refl

any-by : {A B : Type 0} (f : A → B) (p : B → Bool) (q : A → Bool) → ((x : A) → p (f x) ≡ q x) → (xs : List A) → list_any p (map f xs) ≡ list_any q xs
any-by f p q h [] = refl
any-by f p q h (x ∷ xs) = ap (λ b. b || list_any p (map f xs)) (h x) ∙ ap (λ b. q x || b) (any-by f p q h xs)

all-by : {A B : Type 0} (f : A → B) (p : B → Bool) (q : A → Bool) → ((x : A) → p (f x) ≡ q x) → (xs : List A) → list_all p (map f xs) ≡ list_all q xs
all-by f p q h [] = refl
all-by f p q h (x ∷ xs) = ap (λ b. b && list_all p (map f xs)) (h x) ∙ ap (λ b. q x && b) (all-by f p q h xs)

says-plain : (f g : ReplyContent → Bool) → ((c : ReplyContent) → f (plain_content c) ≡ g c) → (sent : List SentPacket) (n : ℤ) → says f (map plain_packet sent) n ≡ says g sent n
says-plain f g h sent n = any-by plain_packet (is_said f n) (is_said g n) (said-by f g h n) sent

kind-plain : (packet : SentPacket) → packet_kind (plain_packet packet) ≡ packet_kind packet
kind-plain (told.request r) = refl
kind-plain (told.said n content) = refl
kind-plain told.goodbye = refl
kind-plain told.broken = refl

next-plain : (sent : List SentPacket) (count : ℕ) (packet : PacketKind) → is_next_of (map plain_packet sent) count packet ≡ is_next_of sent count packet
next-plain [] count packet = refl
next-plain (one ∷ sent) zero packet = ap (λ kind. same_packet kind packet) (kind-plain one)
next-plain (one ∷ sent) (suc count) packet = next-plain sent count packet

-- Prefix

pub prefix-plain : (schema : Schema) (own other : EndReading) (w : What) → prefix_line schema (plain_end own) (plain_end other) (plain_what w) ≡ prefix_line schema own other w
prefix-plain schema own other (what.DeliverRequest n) = next-plain other.sent (length own.delivered) (seen.Request n)
prefix-plain schema own other (what.DeliverReply n) = next-plain other.sent (length own.delivered) (seen.Reply n)
prefix-plain schema own other what.DeliverGoodbye = next-plain other.sent (length own.delivered) seen.Goodbye
prefix-plain schema own other what.DeliverBroken = next-plain other.sent (length own.delivered) seen.Broken
prefix-plain schema own other (what.Take n route number vs) =
    ap (λ b. is_there own n && b)
    (asked (λ (r : Request). is_for route number r && is_nulled schema (lives own) (params_of schema number) r.values (plain_values vs)) (λ (r : Request). is_for route number r && is_nulled schema (lives own) (params_of schema number) r.values vs) false
    (λ r. ap (λ b. is_for route number r && b) (is_nulled-plain schema (lives own) (params_of schema number) r.values vs)) other n)
prefix-plain schema own other (what.Drop n route number id) = ap (λ b. is_there own n && b) (asked (is_for route number) (is_for route number) false (λ r. refl) other n)
prefix-plain schema own other (what.TakeReply n) = refl
prefix-plain schema own other (what.Send n route number vs) = refl
prefix-plain schema own other (what.Call n transaction route number vs) = refl
prefix-plain schema own other (what.Resolve n vs) = refl
prefix-plain schema own other (what.ResumeOk n vs) = refl
prefix-plain schema own other (what.AnswerOk n vs) = refl
prefix-plain schema own other (what.Resolved n vs) = refl
prefix-plain schema own other _ = refl

-- Living

makes-plain : (end : Side) (own other : EndReading) (happened : EventKind) → event_makes end (plain_end own) (plain_end other) happened ≡ event_makes end own other happened
makes-plain end own other (event.Sends n route) = asked (made_id end) (made_id end) (pos 0) (λ r. refl) own n
makes-plain end own other (event.Takes n route) = asked (made_id (other_side end)) (made_id (other_side end)) (pos 0) (λ r. refl) other n
makes-plain end own other event.Ends = refl
makes-plain end own other event.Closes = refl
makes-plain end own other event.Other = refl

missing_in-plain : (schema : Schema) (own : EndReading) (params : List ParamRow) (vs : Values) (id : ℤ) → is_missing_in schema own params (plain_values vs) id ≡ is_missing_in schema own params vs id
missing_in-plain schema own params vs id = ap (λ found. option_map_or (λ first. int_eq first id) found false) (missing-plain schema (lives own) params vs)

pub living-plain : (schema : Schema) (end : Side) (own other : EndReading) (w : What) → living_line schema end (plain_end own) (plain_end other) (plain_what w) ≡ living_line schema end own other w
living-plain schema end own other (what.Take n route number vs) = ap (λ b. lives own route && b) (live-plain schema (lives own) (params_of schema number) vs)
living-plain schema end own other (what.Drop n route number id) =
    ap (λ b. if lives own id then false else (if int_eq id route then true else lives own route && b))
    (asked (λ (r : Request). is_missing_in schema own (params_of schema r.number) r.values id) (λ (r : Request). is_missing_in schema own (params_of schema r.number) r.values id) false (λ r. missing_in-plain schema own (params_of schema r.number) r.values id) other n)
living-plain schema end own other (what.Built id protocol) = ap (λ made. not (was_built own.built id) && (not (int_eq id (pos 0)) && int_eq made id)) (makes-plain end own other own.event)
living-plain schema end own other (what.Send n route number vs) = refl
living-plain schema end own other (what.Call n transaction route number vs) = refl
living-plain schema end own other (what.Resolve n vs) = refl
living-plain schema end own other (what.ResumeOk n vs) = refl
living-plain schema end own other (what.AnswerOk n vs) = refl
living-plain schema end own other (what.Resolved n vs) = refl
living-plain schema end own other _ = refl

-- Waits

returns-plain : (schema : Schema) (own : EndReading) (n : ℤ) → own_returns schema (plain_end own) n ≡ own_returns schema own n
returns-plain schema own n = asked (λ (r : Request). returns_of schema r.number) (λ (r : Request). returns_of schema r.number) [] (λ r. refl) own n

fault-plain : (r : Reason) (c : ReplyContent) → is_fault r (plain_content c) ≡ is_fault r c
fault-plain r (told.resolved vs) = refl
fault-plain r told.rejected = refl
fault-plain r (told.ok vs) = refl
fault-plain r (told.fault q) = refl

ok_with-plain : (schema : Schema) (own : EndReading) (types : List ParamRow) (vs : Values) (c : ReplyContent) → is_ok_with schema own types (plain_values vs) (plain_content c) ≡ is_ok_with schema own types vs c
ok_with-plain schema own types vs (told.resolved us) = refl
ok_with-plain schema own types vs told.rejected = refl
ok_with-plain schema own types vs (told.ok us) = is_nulled-plain schema (lives own) types us vs
ok_with-plain schema own types vs (told.fault q) = refl

ok_missing-plain : (schema : Schema) (own : EndReading) (types : List ParamRow) (c : ReplyContent) → is_ok_missing schema own types (plain_content c) ≡ is_ok_missing schema own types c
ok_missing-plain schema own types (told.resolved us) = refl
ok_missing-plain schema own types told.rejected = refl
ok_missing-plain schema own types (told.ok us) = ap is_some (missing-plain schema (lives own) types us)
ok_missing-plain schema own types (told.fault q) = refl

answered-plain : (schema : Schema) (own other : EndReading) (n : ℤ) (vs : Values) → is_answered schema (plain_end own) (plain_end other) n (plain_values vs) ≡ is_answered schema own other n vs
answered-plain schema own other n vs =
    says-plain (is_ok_with schema (plain_end own) (own_returns schema (plain_end own) n) (plain_values vs)) (is_ok_with schema own (own_returns schema (plain_end own) n) vs) (ok_with-plain schema own (own_returns schema (plain_end own) n) vs) other.sent n
    ∙ ap (λ types. says (is_ok_with schema own types vs) other.sent n) (returns-plain schema own n)

own_fault-plain : (schema : Schema) (own other : EndReading) (n : ℤ) (r : Reason) → is_own_fault schema (plain_end own) (plain_end other) n r ≡ is_own_fault schema own other n r
own_fault-plain schema own other n reason.ChannelClosed = refl
own_fault-plain schema own other n reason.ActorDestroyed =
    says-plain (is_ok_missing schema (plain_end own) (own_returns schema (plain_end own) n)) (is_ok_missing schema own (own_returns schema (plain_end own) n)) (ok_missing-plain schema own (own_returns schema (plain_end own) n)) other.sent n
    ∙ ap (λ types. says (is_ok_missing schema own types) other.sent n) (returns-plain schema own n)
own_fault-plain schema own other n reason.HandlerRejected = refl
own_fault-plain schema own other n reason.ResolverDestroyed = refl

failed-plain : (schema : Schema) (own other : EndReading) (n : ℤ) (r : Reason) → is_failed schema (plain_end own) (plain_end other) n r ≡ is_failed schema own other n r
failed-plain schema own other n r =
    ap (λ b. if b then true else is_own_fault schema (plain_end own) (plain_end other) n r) (says-plain (is_fault r) (is_fault r) (fault-plain r) other.sent n)
    ∙ ap (λ b. if says (is_fault r) other.sent n then true else b) (own_fault-plain schema own other n r)

pub waits-plain : (schema : Schema) (own other : EndReading) (w : What) → waits_line schema (plain_end own) (plain_end other) (plain_what w) ≡ waits_line schema own other w
waits-plain schema own other (what.DeliverReply n) = ap (λ b. if b then awaits own.stack n else true) (sync-plain own n)
waits-plain schema own other (what.Fails n) = refl
waits-plain schema own other (what.ResumeOk n vs) = answered-plain schema own other n vs
waits-plain schema own other (what.ResumeFault n r) = failed-plain schema own other n r
waits-plain schema own other (what.Send n route number vs) = refl
waits-plain schema own other (what.Call n transaction route number vs) = refl
waits-plain schema own other (what.Resolve n vs) = refl
waits-plain schema own other (what.Take n route number vs) = refl
waits-plain schema own other (what.AnswerOk n vs) = refl
waits-plain schema own other (what.Resolved n vs) = refl
waits-plain schema own other _ = refl

heads-by : (schema : Schema) (n : ℤ) (found : Option Request) → option_and_then (λ (r : Request). head_of schema r.number n r.transaction) (option_map plain_request found) ≡ option_and_then (λ (r : Request). head_of schema r.number n r.transaction) found
heads-by schema n None = refl
heads-by schema n (Some r) = refl

head-plain : (schema : Schema) (other : EndReading) (n : ℤ) → request_head schema (plain_end other) n ≡ request_head schema other n
head-plain schema other n = ap (option_and_then (λ (r : Request). head_of schema r.number n r.transaction)) (own-plain other n) ∙ heads-by schema n (own_request other n)

frame-plain : (schema : Schema) (other : EndReading) (f : CallFrame) → frame_head schema (plain_end other) f ≡ frame_head schema other f
frame-plain schema other (frame.Dispatch d) = head-plain schema other d.seq
frame-plain schema other (frame.Unanswered c) = refl
frame-plain schema other (frame.Answered c) = refl

inner-plain : (schema : Schema) (other : EndReading) (stack : List CallFrame) → inner_transaction schema (plain_end other) stack ≡ inner_transaction schema other stack
inner-plain schema other [] = refl
inner-plain schema other (top ∷ below) =
    ap (λ found. option_map_or Some (option_and_then inner_of_head found) (inner_transaction schema (plain_end other) below)) (frame-plain schema other top)
    ∙ ap (option_map_or Some (frame_inner schema other top)) (inner-plain schema other below)

deferral-plain : (schema : Schema) (end : Side) (own other : EndReading) → deferral_of schema end (plain_end own) (plain_end other) ≡ deferral_of schema end own other
deferral-plain schema end own other = ap (λ found. record { side = end; level = awaited_level schema own.stack; inner = found }) (inner-plain schema other own.stack)

blocks-plain : (schema : Schema) (end : Side) (own other : EndReading) → blocks schema end (plain_end own) (plain_end other) ≡ blocks schema end own other
blocks-plain schema end own other = ap (λ d. defers_request_head d (awaited_head schema other.stack)) (deferral-plain schema end own other)

defers-plain : (schema : Schema) (other : EndReading) (d : DeferralState) (packet : PacketKind) → defers_packet schema (plain_end other) d packet ≡ defers_packet schema other d packet
defers-plain schema other d (seen.Request n) = ap (defers_request_head d) (head-plain schema other n)
defers-plain schema other d (seen.Reply n) = refl
defers-plain schema other d seen.Goodbye = refl
defers-plain schema other d seen.Broken = refl

free-plain : (schema : Schema) (other : EndReading) (d : DeferralState) (packets : List PacketKind) → some_is_free schema (plain_end other) d packets ≡ some_is_free schema other d packets
free-plain schema other d [] = refl
free-plain schema other d (packet ∷ packets) = ap (λ b. not b || some_is_free schema (plain_end other) d packets) (defers-plain schema other d packet) ∙ ap (λ b. not (defers_packet schema other d packet) || b) (free-plain schema other d packets)

take-plain : (schema : Schema) (end : Side) (own other : EndReading) → can_take schema end (plain_end own) (plain_end other) ≡ can_take schema end own other
take-plain schema end own other =
    ap (λ b. takes_items own.state && b)
    (ap (λ d. some_is_free schema (plain_end other) d own.arrived) (deferral-plain schema end own other) ∙ free-plain schema other (deferral_of schema end own other) own.arrived)

still-plain : (schema : Schema) (end : Side) (own other : EndReading) → is_still_at schema end (plain_end own) (plain_end other) ≡ is_still_at schema end own other
still-plain schema end own other =
    ap (λ (n : ℕ). if is_open own.state && nat_lt (length own.delivered) n then false else (if can_take_now own.stack then not (can_take schema end (plain_end own) (plain_end other)) else false)) (length-map other.sent plain_packet)
    ∙ ap (λ b. if can_deliver own other then false else (if can_take_now own.stack then not b else false)) (take-plain schema end own other)

both_still-plain : (schema : Schema) (reading : Reading) → is_still schema (plain_reading reading) ≡ is_still schema reading
both_still-plain schema reading =
    ap (λ b. b && is_still_at schema side.Child (plain_end reading.child) (plain_end reading.parent)) (still-plain schema side.Parent reading.parent reading.child)
    ∙ ap (λ b. is_still_at schema side.Parent reading.parent reading.child && b) (still-plain schema side.Child reading.child reading.parent)

block-plain : (schema : Schema) (parent child : EndReading) → block_each_other schema (plain_end parent) (plain_end child) ≡ block_each_other schema parent child
block-plain schema parent child =
    ap (λ b. b && blocks schema side.Child (plain_end child) (plain_end parent)) (blocks-plain schema side.Parent parent child) ∙ ap (λ b. blocks schema side.Parent parent child && b) (blocks-plain schema side.Child child parent)

pub waits_moment-plain : (schema : Schema) (reading : Reading) → waits_moment schema (plain_reading reading) ≡ waits_moment schema reading
waits_moment-plain schema reading =
    ap (λ b. if b then false else (if some_waits_after_end reading then false else not (some_waits reading && is_still schema (plain_reading reading)))) (block-plain schema reading.parent reading.child)
    ∙ ap (λ b. if block_each_other schema reading.parent reading.child then false else (if some_waits_after_end reading then false else not (some_waits reading && b))) (both_still-plain schema reading)

-- Settled

resolved_with-plain : (schema : Schema) (own : EndReading) (types : List ParamRow) (vs : Values) (c : ReplyContent) → is_resolved_with schema own types (plain_values vs) (plain_content c) ≡ is_resolved_with schema own types vs c
resolved_with-plain schema own types vs (told.resolved us) = is_nulled-plain schema (lives own) types us vs
resolved_with-plain schema own types vs told.rejected = refl
resolved_with-plain schema own types vs (told.ok us) = refl
resolved_with-plain schema own types vs (told.fault q) = refl

resolved_missing-plain : (schema : Schema) (own : EndReading) (types : List ParamRow) (c : ReplyContent) → is_resolved_missing schema own types (plain_content c) ≡ is_resolved_missing schema own types c
resolved_missing-plain schema own types (told.resolved us) = ap is_some (missing-plain schema (lives own) types us)
resolved_missing-plain schema own types told.rejected = refl
resolved_missing-plain schema own types (told.ok us) = refl
resolved_missing-plain schema own types (told.fault q) = refl

rejected-plain : (c : ReplyContent) → is_rejected (plain_content c) ≡ is_rejected c
rejected-plain (told.resolved us) = refl
rejected-plain told.rejected = refl
rejected-plain (told.ok us) = refl
rejected-plain (told.fault q) = refl

unsettled-plain : (own : EndReading) (n : ℤ) → is_unsettled (plain_end own) n ≡ is_unsettled own n
unsettled-plain own n = ap (λ b. b && not (has own.settled n)) (asked (λ (r : Request). r.wants) (λ (r : Request). r.wants) false (λ r. refl) own n)

resolved-plain : (schema : Schema) (own other : EndReading) (n : ℤ) (vs : Values) → is_resolved schema (plain_end own) (plain_end other) n (plain_values vs) ≡ is_resolved schema own other n vs
resolved-plain schema own other n vs =
    says-plain (is_resolved_with schema (plain_end own) (own_returns schema (plain_end own) n) (plain_values vs)) (is_resolved_with schema own (own_returns schema (plain_end own) n) vs) (resolved_with-plain schema own (own_returns schema (plain_end own) n) vs) other.sent n
    ∙ ap (λ types. says (is_resolved_with schema own types vs) other.sent n) (returns-plain schema own n)

settle-plain : (w : What) → is_settle (plain_what w) ≡ is_settle w
settle-plain (what.Send n route number vs) = refl
settle-plain (what.Call n transaction route number vs) = refl
settle-plain (what.Resolve n vs) = refl
settle-plain (what.Take n route number vs) = refl
settle-plain (what.ResumeOk n vs) = refl
settle-plain (what.AnswerOk n vs) = refl
settle-plain (what.Resolved n vs) = refl
settle-plain _ = refl

fall-plain : (id : ℤ) (w : What) → is_fall_of id (plain_what w) ≡ is_fall_of id w
fall-plain id (what.Send n route number vs) = refl
fall-plain id (what.Call n transaction route number vs) = refl
fall-plain id (what.Resolve n vs) = refl
fall-plain id (what.Take n route number vs) = refl
fall-plain id (what.ResumeOk n vs) = refl
fall-plain id (what.AnswerOk n vs) = refl
fall-plain id (what.Resolved n vs) = refl
fall-plain id _ = refl

falls-plain : (end : Side) (id : ℤ) (following : List Line) → falls_next end id (map plain_line following) ≡ falls_next end id following
falls-plain end id [] = refl
falls-plain end id (line ∷ following) =
    ap (λ b. if b then falls_next end id (map plain_line following) else is_fall_at end id (plain_line line)) (settle-plain line.what)
    ∙ (ap (λ b. if is_settle line.what then b else is_fall_at end id (plain_line line)) (falls-plain end id following)
    ∙ ap (λ b. if is_settle line.what then falls_next end id following else same_side line.side end && b) (fall-plain id line.what))

promise_falls-plain : (end : Side) (own : EndReading) (n : ℤ) (following : List Line) → promise_falls_next end (plain_end own) n (map plain_line following) ≡ promise_falls_next end own n following
unfolding promise_falls_next
promise_falls-plain end own n following =
    asked (λ (r : Request). falls_next end r.route (map plain_line following)) (λ (r : Request). falls_next end r.route following) false (λ r. falls-plain end r.route following) own n

destroyed-plain : (schema : Schema) (own other : EndReading) (n : ℤ) → reports_destroyed schema (plain_end own) (plain_end other) n ≡ reports_destroyed schema own other n
unfolding reports_fallen resolves_missing
destroyed-plain schema own other n =
    ap (λ b. if b then true else resolves_missing schema (plain_end own) (plain_end other) n) (says-plain (is_fault reason.ActorDestroyed) (is_fault reason.ActorDestroyed) (fault-plain reason.ActorDestroyed) other.sent n)
    ∙ ap (λ b. if reports_fallen other n then true else b)
    (says-plain (is_resolved_missing schema (plain_end own) (own_returns schema (plain_end own) n)) (is_resolved_missing schema own (own_returns schema (plain_end own) n)) (resolved_missing-plain schema own (own_returns schema (plain_end own) n)) other.sent n
    ∙ ap (λ types. says (is_resolved_missing schema own types) other.sent n) (returns-plain schema own n))

cause-plain : (schema : Schema) (end : Side) (own other : EndReading) (n : ℤ) (following : List Line) (r : Reason) → is_cause schema end (plain_end own) (plain_end other) n (map plain_line following) r ≡ is_cause schema end own other n following r
unfolding is_destroyed
cause-plain schema end own other n following reason.HandlerRejected = says-plain is_rejected is_rejected rejected-plain other.sent n
cause-plain schema end own other n following reason.ResolverDestroyed = says-plain (is_fault reason.ResolverDestroyed) (is_fault reason.ResolverDestroyed) (fault-plain reason.ResolverDestroyed) other.sent n
cause-plain schema end own other n following reason.ChannelClosed = refl
cause-plain schema end own other n following reason.ActorDestroyed =
    ap (λ b. if b then true else promise_falls_next end (plain_end own) n (map plain_line following)) (destroyed-plain schema own other n)
    ∙ ap (λ b. if reports_destroyed schema own other n then true else b) (promise_falls-plain end own n following)

pub settled-plain : (schema : Schema) (end : Side) (own other : EndReading) (w : What) (following : List Line) → settled_line schema end (plain_end own) (plain_end other) (plain_what w) (map plain_line following) ≡ settled_line schema end own other w following
settled-plain schema end own other (what.Resolved n vs) following =
    ap (λ b. b && is_resolved schema (plain_end own) (plain_end other) n (plain_values vs)) (unsettled-plain own n) ∙ ap (λ b. is_unsettled own n && b) (resolved-plain schema own other n vs)
settled-plain schema end own other (what.Rejected n r) following =
    ap (λ b. b && is_cause schema end (plain_end own) (plain_end other) n (map plain_line following) r) (unsettled-plain own n) ∙ ap (λ b. is_unsettled own n && b) (cause-plain schema end own other n following r)
settled-plain schema end own other (what.Send n route number vs) following = refl
settled-plain schema end own other (what.Call n transaction route number vs) following = refl
settled-plain schema end own other (what.Resolve n vs) following = refl
settled-plain schema end own other (what.Take n route number vs) following = refl
settled-plain schema end own other (what.ResumeOk n vs) following = refl
settled-plain schema end own other (what.AnswerOk n vs) following = refl
settled-plain schema end own other _ following = refl

packet-plain : (settled : List ℤ) (packet : SentPacket) → is_settled_packet settled (plain_packet packet) ≡ is_settled_packet settled packet
packet-plain settled (told.request r) = refl
packet-plain settled (told.said n content) = refl
packet-plain settled told.goodbye = refl
packet-plain settled told.broken = refl

pub settled_end-plain : (own : EndReading) → settled_moment (plain_end own) ≡ settled_moment own
settled_end-plain own = ap (λ b. if own.over then b else true) (all-by plain_packet (is_settled_packet own.settled) (is_settled_packet own.settled) (packet-plain own.settled) own.sent)

-- Fallen

falls_alike : (own : EndReading) (id : ℤ) (why : Destroy) → may_fall (plain_end own) id why ≡ may_fall own id why
unfolding is_next_to_fall lets_fall
falls_alike own id why = refl

pub fallen-plain : (own : EndReading) (w : What) → fallen_line (plain_end own) (plain_what w) ≡ fallen_line own w
fallen-plain own (what.Send n route number vs) = refl
fallen-plain own (what.Call n transaction route number vs) = refl
fallen-plain own (what.Resolve n vs) = refl
fallen-plain own (what.Take n route number vs) = refl
fallen-plain own (what.ResumeOk n vs) = refl
fallen-plain own (what.AnswerOk n vs) = refl
fallen-plain own (what.Resolved n vs) = refl
fallen-plain own (what.Fall id why) = falls_alike own id why
fallen-plain own _ = refl
