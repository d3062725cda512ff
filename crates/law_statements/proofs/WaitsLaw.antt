-- The test of the law Waits decides its statement.
use Rattle.std.proofs.Common.{◌≡◌, ◌⊎◌, inl, inr, ℕ, ◌≤◌, nat_lt, ℤ, Bool, true, false, not, ◌&&◌, ◌||◌, if◌then◌else◌, IsTrue, List, [], ◌∷◌, ◌++◌, length, reverse, filter_map, Contains, Any, Option, Some, None, is_some, option_and_then, unwrap_or, refl, sym, ap, subst, ◌∙◌}
use Rattle.std.specs.Bool.{Decides}
use Rattle.std.specs.List.{cons_option, list_any, slice_get}
use Rattle.std.specs.Option.{option_map_or}
use Rattle.std.proofs.lemmas.Bool.{false≢true, le-ltb, ltb-false, not-true}
use Rattle.std.proofs.lemmas.List.{reverse-append}
use Rattle.std.proofs.lemmas.List.Folds.{Any-from_list_any, list_any-from_Any}
use Rattle.ipdl_base.specs.declared.kinds.EndState.{EndState}
use Rattle.ipdl_base.specs.declared.kinds.EndState.TheVariants as state
use Rattle.ipdl_base.specs.declared.kinds.Reason.{Reason}
use Rattle.ipdl_base.specs.declared.kinds.Reason.TheVariants as reason
use Rattle.ipdl_base.specs.declared.kinds.Side.{Side}
use Rattle.ipdl_base.specs.declared.kinds.Side.TheVariants as side
use Rattle.ipdl_base.specs.declared.line.Line.{Line}
use Rattle.ipdl_base.specs.declared.line.What.{What}
use Rattle.ipdl_base.specs.declared.line.What.TheVariants as what
use Rattle.ipdl_base.specs.declared.schema.ParamRow.{ParamRow}
use Rattle.ipdl_base.specs.declared.schema.Schema.{Schema}
use Rattle.ipdl_base.specs.declared.value.Values.{Values}
use Rattle.ipdl_base.specs.Signatures.{returns_of}
use Rattle.nesting_core.specs.declared.frame.Head.{Head}
use Rattle.history_reading.specs.declared.law.Law.TheVariants as law
use Rattle.history_reading.specs.declared.parts.CallFrame.{CallFrame}
use Rattle.history_reading.specs.declared.parts.CallFrame.TheVariants as frame
use Rattle.history_reading.specs.declared.parts.EventKind.TheVariants as event
use Rattle.history_reading.specs.declared.parts.PacketKind.{PacketKind}
use Rattle.history_reading.specs.declared.parts.PacketKind.TheVariants as seen
use Rattle.history_reading.specs.EndReading.{EndReading, awaited, awaits, has_unanswered, is_sync_request, lives}
use Rattle.history_reading.specs.Holds.{Holds, IsReadable, moment_test}
use Rattle.history_reading.specs.Nulled.{is_nulled, missing}
use Rattle.history_reading.specs.Numbers.{has, has_packet, same_packet}
use Rattle.history_reading.specs.Reading.{after_what, end_reading_of, read}
use Rattle.history_reading.specs.SentPacket.{Request, ReplyContent, SentPacket, said, resolved, rejected, ok, fault, request_of, says}
use Rattle.history_reading.specs.Still.{DeferralState, awaited_head, awaited_level, can_deliver, can_take, can_take_now, deferral_of, defers_packet, defers_request_head, frame_head, head_of, inner_of_head, inner_transaction, is_open, is_still_at, some_is_free, takes_items}
use Rattle.history_reading.specs.Waits as test
use Rattle.history_reading.specs.Waits.{block_each_other, blocks, is_answered, is_end_event, is_failed, is_fault, is_own_fault, is_reply_in_order, own_returns, some_waits, some_waits_after_end, waits_after_end, waits_line, waits_moment, waits_while_still}
use Rattle.ipdl_base.specs.Sides.{other as other_end}
use Rattle.law_statements.specs.Said.{is_moment, last_event, line_of, said_by}
use Rattle.law_statements.specs.Packets.{delivered, failed, sent}
use Rattle.law_statements.specs.Actors as actors
use Rattle.law_statements.specs.Arrived.{IsArrived, state_after, state_of}
use Rattle.law_statements.specs.Stack.{is_sync_of, stack}
use Rattle.law_statements.specs.Waits.{Blocks, HasAnswered, HasAnsweredMissing, HasFault, IsStillAt, NoneWaits, Waits, deferral, defers_kind, ends_channel, has_just_ended, head_in, inner_of, returns_for}
use Rattle.law_statements.proofs.Along.{Passes, along, holds-passes, passes-holds}
use Rattle.law_statements.proofs.Arrivals.{there}
use Rattle.law_statements.proofs.Deciding.{both, either, fails-then, is-this, itself, recast}
use Rattle.law_statements.proofs.Ends.{other-read}
use Rattle.law_statements.proofs.Fields.{delivered-read, event-read, failed-read, kind_of, lives-read, of-reply, sent-read}
use Rattle.law_statements.proofs.Fronts.{same-kind}
use Rattle.law_statements.proofs.Replies.{fault-said, reply-said}
use Rattle.law_statements.proofs.StackRead.{stack-read}

-- The state of an end

state-step : (schema : Schema) (place : ℕ) (w : What) (own : EndReading) → (after_what schema place w own).state ≡ unwrap_or (state_after w) own.state
state-step schema place (what.DeliverReply n) own = of-reply (λ o. o.state) n own refl
state-step schema place _ own = refl

first-state : (o : Option EndState) (rest : List EndState) → unwrap_or (slice_get (cons_option o rest) 0) state.Open ≡ unwrap_or o (unwrap_or (slice_get rest 0) state.Open)
first-state None rest = refl
first-state (Some s) rest = refl

state-more : (told : List What) (w : What) → state_of (told ++ w ∷ []) ≡ unwrap_or (state_after w) (state_of told)
state-more told w =
    ap (λ (ws : List What). unwrap_or (slice_get (filter_map state_after ws) 0) state.Open) (reverse-append told (w ∷ []))
    ∙ first-state (state_after w) (filter_map state_after (reverse told))

state-read : (schema : Schema) (end : Side) (lines : List Line) → (end_reading_of end (read schema lines)).state ≡ state_of (said_by end lines)
state-read schema end lines =
    along schema (λ own said. own.state ≡ state_of said) refl (λ place own said w p. state-step schema place w own ∙ ap (unwrap_or (state_after w)) p ∙ sym (state-more said w)) end lines

-- Deferral

head-read : (schema : Schema) (other : EndReading) (told : List What) → other.sent ≡ sent schema told → (f : CallFrame) → frame_head schema other f ≡ head_in schema told f
head-read schema other told e (frame.Dispatch d) = ap (λ (ps : List SentPacket). option_and_then (λ (r : Request). head_of schema r.number d.seq r.transaction) (request_of ps d.seq)) e
head-read schema other told e (frame.Unanswered c) = refl
head-read schema other told e (frame.Answered c) = refl

first-inner : (o : Option ℤ) (rest : List ℤ) → option_map_or Some o (slice_get rest 0) ≡ slice_get (cons_option o rest) 0
first-inner None rest = refl
first-inner (Some t) rest = refl

inner-read : (schema : Schema) (other : EndReading) (told : List What) → other.sent ≡ sent schema told → (fs : List CallFrame) → inner_transaction schema other fs ≡ inner_of schema told fs
inner-read schema other told e [] = refl
inner-read schema other told e (f ∷ fs) =
    ap (λ (h : Option Head). option_map_or Some (option_and_then inner_of_head h) (inner_transaction schema other fs)) (head-read schema other told e f)
    ∙ ap (option_map_or Some (option_and_then inner_of_head (head_in schema told f))) (inner-read schema other told e fs)
    ∙ first-inner (option_and_then inner_of_head (head_in schema told f)) (filter_map (λ g. option_and_then inner_of_head (head_in schema told g)) fs)

deferral-read : (schema : Schema) (end : Side) (before : List Line) → (end_reading_of end (read schema before)).stack ≡ stack schema end before
    → deferral_of schema end (end_reading_of end (read schema before)) (end_reading_of (other_end end) (read schema before)) ≡ deferral schema end before
deferral-read schema end before st =
    ap (λ (fs : List CallFrame). record { side = end; level = awaited_level schema fs; inner = inner_transaction schema (end_reading_of (other_end end) (read schema before)) fs }) st
    ∙ ap (λ (t : Option ℤ). record { side = end; level = awaited_level schema (stack schema end before); inner = t }) (inner-read schema (end_reading_of (other_end end) (read schema before)) (said_by (other_end end) before) (sent-read schema (other_end end) before) (stack schema end before))

pub kind-read : (schema : Schema) (end : Side) (before : List Line) → (end_reading_of end (read schema before)).stack ≡ stack schema end before → (p : PacketKind)
    → defers_packet schema (end_reading_of (other_end end) (read schema before)) (deferral_of schema end (end_reading_of end (read schema before)) (end_reading_of (other_end end) (read schema before))) p ≡ defers_kind schema end before p
kind-read schema end before st p =
    ap (λ (d : DeferralState). defers_packet schema (end_reading_of (other_end end) (read schema before)) d p) (deferral-read schema end before st) ∙ by p
  where
    by : (q : PacketKind) → defers_packet schema (end_reading_of (other_end end) (read schema before)) (deferral schema end before) q ≡ defers_kind schema end before q
    by (seen.Request n) = ap (λ (ps : List SentPacket). defers_request_head (deferral schema end before) (option_and_then (λ (r : Request). head_of schema r.number n r.transaction) (request_of ps n))) (sent-read schema (other_end end) before)
    by (seen.Reply n) = refl
    by seen.Goodbye = refl
    by seen.Broken = refl

blocks-read : (schema : Schema) (end : Side) (before : List Line) → (end_reading_of end (read schema before)).stack ≡ stack schema end before → (end_reading_of (other_end end) (read schema before)).stack ≡ stack schema (other_end end) before
    → blocks schema end (end_reading_of end (read schema before)) (end_reading_of (other_end end) (read schema before)) ≡ defers_request_head (deferral schema end before) (awaited_head schema (stack schema (other_end end) before))
blocks-read schema end before st other =
    ap (λ (d : DeferralState). defers_request_head d (awaited_head schema (end_reading_of (other_end end) (read schema before)).stack)) (deferral-read schema end before st)
    ∙ ap (λ (fs : List CallFrame). defers_request_head (deferral schema end before) (awaited_head schema fs)) other

-- Where only acts are possible

open-is : (s : EndState) → Decides (is_open s) (s ≡ state.Open)
open-is state.Open = (λ e. refl, λ e. refl)
open-is state.Draining = (λ e. cc, λ e. cc)
open-is state.Closed = (λ e. cc, λ e. cc)
open-is state.Dead = (λ e. cc, λ e. cc)

no-delivery : (s : EndState) (m n : ℕ) → Decides (not (is_open s && nat_lt m n)) (s ≡ state.Open → n ≤ m)
no-delivery s m n = (λ e o. ltb-false m n (to (is_open s) (nat_lt m n) ((open-is s).1 o) e), λ h. from (is_open s) refl h)
  where
    to : (b c : Bool) → b ≡ true → not (b && c) ≡ true → c ≡ false
    to true true o e = cc
    to true false o e = refl
    to false c o e = cc

    from : (b : Bool) → is_open s ≡ b → (s ≡ state.Open → n ≤ m) → not (b && nat_lt m n) ≡ true
    from true is h = ap not (le-ltb m n (h ((open-is s).0 is)))
    from false is h = refl

packet-in : (q : PacketKind) (xs : List PacketKind) → Decides (has_packet xs q) (Contains xs q)
packet-in q xs = (λ e. to (Any-from_list_any (λ p. same_packet p q) xs e), λ c. list_any-from_Any (λ p. same_packet p q) xs (c.0, q, c.1, c.2, (same-kind q q).1 refl))
  where
    to : Any (λ p. same_packet p q ≡ true) xs → Contains xs q
    to a = subst (Contains xs) ((same-kind a.1 q).0 a.4) (a.0, a.2, a.3)

none-free : (d : PacketKind → Bool) (xs : List PacketKind) → Decides (not (list_any (λ p. not (d p)) xs)) ((q : PacketKind) → has_packet xs q ≡ true → d q ≡ true)
none-free d xs = (λ e q h. to q ((packet-in q xs).0 h) (d q) refl (not-true (list_any (λ p. not (d p)) xs) e), λ h. from h (list_any (λ p. not (d p)) xs) refl)
  where
    to : (q : PacketKind) → Contains xs q → (b : Bool) → d q ≡ b → list_any (λ p. not (d p)) xs ≡ false → d q ≡ true
    to q c true is e = is
    to q c false is e = absurd (false≢true (sym e ∙ list_any-from_Any (λ p. not (d p)) xs (c.0, q, c.1, c.2, ap not is)))

    from : ((q : PacketKind) → has_packet xs q ≡ true → d q ≡ true) → (b : Bool) → list_any (λ p. not (d p)) xs ≡ b → not (list_any (λ p. not (d p)) xs) ≡ true
    from h true is = let a : Any (λ p. not (d p) ≡ true) xs = Any-from_list_any (λ p. not (d p)) xs is in absurd (false≢true (sym (ap not (h a.1 ((packet-in a.1 xs).1 (a.0, a.2, a.3)))) ∙ a.4))
    from h false is = ap not is

unless : (b c : Bool) (P : Type 0) → Decides (not c) P → Decides (not (b && c)) (IsTrue b → P)
unless true c P d = (λ e t. d.0 e, λ h. d.1 (h refl))
unless false c P d = (λ e t. cc, λ h. refl)

three-ways : {P Q R : Type 0} (a b c : Bool) → Decides (not a) P → Decides b Q → Decides (not c) R → Decides (if a then false else (if b then not c else false)) (P × (Q × R))
three-ways true b c p q r = (λ e. cc, λ h. p.1 h.0)
three-ways false true c p q r = (λ e. (p.0 refl, (q.0 refl, r.0 e)), λ h. r.1 h.1.1)
three-ways false false c p q r = (λ e. cc, λ h. q.1 h.1.0)

still : (schema : Schema) (end : Side) (before : List Line) → (end_reading_of end (read schema before)).stack ≡ stack schema end before
    → Decides (is_still_at schema end (end_reading_of end (read schema before)) (end_reading_of (other_end end) (read schema before))) (IsStillAt schema end before)
still schema end before st =
    recast (is_still_at schema end (end_reading_of end (read schema before)) (end_reading_of (other_end end) (read schema before)))
    (three-ways (can_deliver (end_reading_of end (read schema before)) (end_reading_of (other_end end) (read schema before))) (can_take_now (end_reading_of end (read schema before)).stack)
    (can_take schema end (end_reading_of end (read schema before)) (end_reading_of (other_end end) (read schema before)))
    (subst (λ (s : EndState). Decides (not (is_open s && nat_lt (length (end_reading_of end (read schema before)).delivered) (length (end_reading_of (other_end end) (read schema before)).sent)))
    (state_of (said_by end before) ≡ state.Open → length (sent schema (said_by (other_end end) before)) ≤ length (delivered (said_by end before)))) (sym (state-read schema end before))
    (subst (λ (ps : List PacketKind). Decides (not (is_open (state_of (said_by end before)) && nat_lt (length ps) (length (end_reading_of (other_end end) (read schema before)).sent)))
    (state_of (said_by end before) ≡ state.Open → length (sent schema (said_by (other_end end) before)) ≤ length (delivered (said_by end before)))) (sym (delivered-read schema end before))
    (subst (λ (ps : List SentPacket). Decides (not (is_open (state_of (said_by end before)) && nat_lt (length (delivered (said_by end before))) (length ps)))
    (state_of (said_by end before) ≡ state.Open → length (sent schema (said_by (other_end end) before)) ≤ length (delivered (said_by end before)))) (sym (sent-read schema (other_end end) before))
    (no-delivery (state_of (said_by end before)) (length (delivered (said_by end before))) (length (sent schema (said_by (other_end end) before)))))))
    (subst (λ (fs : List CallFrame). Decides (can_take_now fs) (IsTrue (can_take_now (stack schema end before)))) (sym st) (itself (can_take_now (stack schema end before))))
    (subst (λ (s : EndState). Decides (not (takes_items s && some_is_free schema (end_reading_of (other_end end) (read schema before)) (deferral_of schema end (end_reading_of end (read schema before)) (end_reading_of (other_end end) (read schema before))) (end_reading_of end (read schema before)).arrived))
    (IsTrue (takes_items (state_of (said_by end before))) → (packet : PacketKind) → IsArrived schema (said_by end before) packet → IsTrue (defers_kind schema end before packet))) (sym (state-read schema end before))
    (unless (takes_items (state_of (said_by end before)))
    (some_is_free schema (end_reading_of (other_end end) (read schema before)) (deferral_of schema end (end_reading_of end (read schema before)) (end_reading_of (other_end end) (read schema before))) (end_reading_of end (read schema before)).arrived)
    ((packet : PacketKind) → IsArrived schema (said_by end before) packet → IsTrue (defers_kind schema end before packet))
    (recast (not (some_is_free schema (end_reading_of (other_end end) (read schema before)) (deferral_of schema end (end_reading_of end (read schema before)) (end_reading_of (other_end end) (read schema before))) (end_reading_of end (read schema before)).arrived))
    (none-free (defers_packet schema (end_reading_of (other_end end) (read schema before)) (deferral_of schema end (end_reading_of end (read schema before)) (end_reading_of (other_end end) (read schema before)))) (end_reading_of end (read schema before)).arrived)
    (λ h q t. sym (kind-read schema end before st q) ∙ h q ((there schema end before q).1 t)) (λ h q e. kind-read schema end before st q ∙ h q ((there schema end before q).0 e))))))
    (λ h. record { delivered = h.0; waiting = h.1.0; deferred = h.1.1 }) (λ s. (s.delivered, (s.waiting, s.deferred)))

-- The moments

ends-kind : (o : Option What) → is_end_event (option_map_or kind_of o event.Other) ≡ option_map_or ends_channel o false
ends-kind None = refl
ends-kind (Some what.DeliverGoodbye) = refl
ends-kind (Some _) = refl

just-ended : (schema : Schema) (end : Side) (before : List Line) → is_end_event (end_reading_of end (read schema before)).event ≡ has_just_ended (said_by end before)
just-ended schema end before = ap is_end_event (event-read schema end before) ∙ ends-kind (last_event (said_by end before))

record Moment (schema : Schema) (before : List Line) : Type 0 where
  no_block : Blocks schema side.Parent before → Blocks schema side.Child before → IsTrue false
  ended : (end : Side) → IsTrue (has_just_ended (said_by end before)) → NoneWaits schema end before
  still : ((end : Side) → IsStillAt schema end before) → (end : Side) → NoneWaits schema end before

not-both : (a b : Bool) → ((a && b) ≡ false → IsTrue a → IsTrue b → IsTrue false) × ((IsTrue a → IsTrue b → IsTrue false) → (a && b) ≡ false)
not-both true true = (λ e p q. cc, λ h. cc (h refl refl))
not-both true false = (λ e p q. q, λ h. refl)
not-both false b = (λ e p q. p, λ h. refl)

neither : (a b c d : Bool) → ((a && b) || (c && d)) ≡ false → (IsTrue a → b ≡ false) × (IsTrue c → d ≡ false)
neither true true c d e = cc
neither true false true true e = cc
neither true false true false e = (λ t. refl, λ t. refl)
neither true false false d e = (λ t. refl, λ t. cc)
neither false b true true e = cc
neither false b true false e = (λ t. cc, λ t. refl)
neither false b false d e = (λ t. cc, λ t. cc)

neither-from : (a b c d : Bool) → (IsTrue a → b ≡ false) → (IsTrue c → d ≡ false) → ((a && b) || (c && d)) ≡ false
neither-from true true c d f g = cc (f refl)
neither-from true false true true f g = cc (g refl)
neither-from true false true false f g = refl
neither-from true false false d f g = refl
neither-from false b true true f g = cc (g refl)
neither-from false b true false f g = refl
neither-from false b false d f g = refl

unmoved : (a b c d : Bool) → not ((a || b) && (c && d)) ≡ true → IsTrue c → IsTrue d → (a ≡ false) × (b ≡ false)
unmoved true b true true e p q = cc
unmoved false true true true e p q = cc
unmoved false false true true e p q = (refl, refl)
unmoved a b true false e p q = cc
unmoved a b false d e p q = cc

unmoved-from : (a b c d : Bool) → (IsTrue c → IsTrue d → (a ≡ false) × (b ≡ false)) → not ((a || b) && (c && d)) ≡ true
unmoved-from true b true true h = cc ((h refl refl).0)
unmoved-from false true true true h = cc ((h refl refl).1)
unmoved-from false false c d h = refl
unmoved-from true b true false h = refl
unmoved-from true b false d h = refl
unmoved-from false true true false h = refl
unmoved-from false true false d h = refl

moment : (schema : Schema) (before : List Line) → ((end : Side) → (end_reading_of end (read schema before)).stack ≡ stack schema end before) → Decides (waits_moment schema (read schema before)) (Moment schema before)
moment schema before st =
    recast (waits_moment schema (read schema before))
    (fails-then (block_each_other schema (read schema before).parent (read schema before).child) (if some_waits_after_end (read schema before) then false else not (waits_while_still schema (read schema before)))
    (fails-then (some_waits_after_end (read schema before)) (not (waits_while_still schema (read schema before))) (itself (not (waits_while_still schema (read schema before)))))) to from
  where
    bp : blocks schema side.Parent (read schema before).parent (read schema before).child ≡ defers_request_head (deferral schema side.Parent before) (awaited_head schema (stack schema side.Child before))
    bp = blocks-read schema side.Parent before (st side.Parent) (st side.Child)

    bc : blocks schema side.Child (read schema before).child (read schema before).parent ≡ defers_request_head (deferral schema side.Child before) (awaited_head schema (stack schema side.Parent before))
    bc = blocks-read schema side.Child before (st side.Child) (st side.Parent)

    hp : has_unanswered (read schema before).parent.stack ≡ has_unanswered (stack schema side.Parent before)
    hp = ap has_unanswered (st side.Parent)

    hc : has_unanswered (read schema before).child.stack ≡ has_unanswered (stack schema side.Child before)
    hc = ap has_unanswered (st side.Child)

    ended-to : some_waits_after_end (read schema before) ≡ false → (end : Side) → IsTrue (has_just_ended (said_by end before)) → NoneWaits schema end before
    ended-to e side.Parent t =
        sym hp ∙ (neither (is_end_event (read schema before).parent.event) (has_unanswered (read schema before).parent.stack) (is_end_event (read schema before).child.event) (has_unanswered (read schema before).child.stack) e).0 (just-ended schema side.Parent before ∙ t)
    ended-to e side.Child t =
        sym hc ∙ (neither (is_end_event (read schema before).parent.event) (has_unanswered (read schema before).parent.stack) (is_end_event (read schema before).child.event) (has_unanswered (read schema before).child.stack) e).1 (just-ended schema side.Child before ∙ t)

    still-to : not (waits_while_still schema (read schema before)) ≡ true → ((end : Side) → IsStillAt schema end before) → (end : Side) → NoneWaits schema end before
    still-to e s side.Parent =
        sym hp ∙ (unmoved (has_unanswered (read schema before).parent.stack) (has_unanswered (read schema before).child.stack) (is_still_at schema side.Parent (read schema before).parent (read schema before).child) (is_still_at schema side.Child (read schema before).child (read schema before).parent) e
        ((still schema side.Parent before (st side.Parent)).1 (s side.Parent)) ((still schema side.Child before (st side.Child)).1 (s side.Child))).0
    still-to e s side.Child =
        sym hc ∙ (unmoved (has_unanswered (read schema before).parent.stack) (has_unanswered (read schema before).child.stack) (is_still_at schema side.Parent (read schema before).parent (read schema before).child) (is_still_at schema side.Child (read schema before).child (read schema before).parent) e
        ((still schema side.Parent before (st side.Parent)).1 (s side.Parent)) ((still schema side.Child before (st side.Child)).1 (s side.Child))).1

    to : (block_each_other schema (read schema before).parent (read schema before).child ≡ false) × ((some_waits_after_end (read schema before) ≡ false) × IsTrue (not (waits_while_still schema (read schema before)))) → Moment schema before
    to p = record {
      no_block = λ x y. (not-both (blocks schema side.Parent (read schema before).parent (read schema before).child) (blocks schema side.Child (read schema before).child (read schema before).parent)).0 p.0 (bp ∙ x) (bc ∙ y);
      ended = ended-to p.1.0;
      still = still-to p.1.1;
    }

    both-still : ((end : Side) → IsStillAt schema end before → IsStillAt schema end before) → IsStillAt schema side.Parent before → IsStillAt schema side.Child before → (end : Side) → IsStillAt schema end before
    both-still i p c side.Parent = p
    both-still i p c side.Child = c

    from : Moment schema before → (block_each_other schema (read schema before).parent (read schema before).child ≡ false) × ((some_waits_after_end (read schema before) ≡ false) × IsTrue (not (waits_while_still schema (read schema before))))
    from m = (
      (not-both (blocks schema side.Parent (read schema before).parent (read schema before).child) (blocks schema side.Child (read schema before).child (read schema before).parent)).1 (λ x y. m.no_block (sym bp ∙ x) (sym bc ∙ y)),
      (
        neither-from (is_end_event (read schema before).parent.event) (has_unanswered (read schema before).parent.stack) (is_end_event (read schema before).child.event) (has_unanswered (read schema before).child.stack)
            (λ t. hp ∙ m.ended side.Parent (sym (just-ended schema side.Parent before) ∙ t)) (λ t. hc ∙ m.ended side.Child (sym (just-ended schema side.Child before) ∙ t)),
        unmoved-from (has_unanswered (read schema before).parent.stack) (has_unanswered (read schema before).child.stack) (is_still_at schema side.Parent (read schema before).parent (read schema before).child) (is_still_at schema side.Child (read schema before).child (read schema before).parent)
            (λ x y. let s : (end : Side) → IsStillAt schema end before = both-still (λ end i. i) ((still schema side.Parent before (st side.Parent)).0 x) ((still schema side.Child before (st side.Child)).0 y) in
            (hp ∙ m.still s side.Parent, hc ∙ m.still s side.Child)),
      ),
    )

-- The lines

asked : (schema : Schema) (end : Side) (before : List Line) (n : ℤ) → is_sync_request (end_reading_of end (read schema before)) n ≡ is_sync_of schema (said_by end before) n
asked schema end before n = ap (λ (ps : List SentPacket). option_map_or (λ (r : Request). r.sync) (request_of ps n) false) (sent-read schema end before)

if-asked : (b c : Bool) (P : Type 0) → Decides c P → Decides (if b then c else true) (IsTrue b → P)
if-asked true c P d = (λ e t. d.0 e, λ h. d.1 (h refl))
if-asked false c P d = (λ e t. cc, λ h. refl)

awaits-read : (schema : Schema) (end : Side) (before : List Line) (n : ℤ) → (end_reading_of end (read schema before)).stack ≡ stack schema end before
    → Decides (awaits (end_reading_of end (read schema before)).stack n) (awaited (stack schema end before) ≡ Some n)
awaits-read schema end before n st = subst (λ (fs : List CallFrame). Decides (awaits fs n) (awaited (stack schema end before) ≡ Some n)) (sym st) (is-this (awaited (stack schema end before)) n)

in-order : (schema : Schema) (end : Side) (before : List Line) (n : ℤ) → (end_reading_of end (read schema before)).stack ≡ stack schema end before
    → Decides (is_reply_in_order (end_reading_of end (read schema before)) n) (IsTrue (is_sync_of schema (said_by end before) n) → awaited (stack schema end before) ≡ Some n)
in-order schema end before n st =
    subst (λ (b : Bool). Decides (if b then awaits (end_reading_of end (read schema before)).stack n else true) (IsTrue (is_sync_of schema (said_by end before) n) → awaited (stack schema end before) ≡ Some n)) (sym (asked schema end before n))
    (if-asked (is_sync_of schema (said_by end before) n) (awaits (end_reading_of end (read schema before)).stack n) (awaited (stack schema end before) ≡ Some n) (awaits-read schema end before n st))

failing : (schema : Schema) (end : Side) (before : List Line) (n : ℤ) → (end_reading_of end (read schema before)).stack ≡ stack schema end before
    → Decides (awaits (end_reading_of end (read schema before)).stack n && is_end_event (end_reading_of end (read schema before)).event) ((awaited (stack schema end before) ≡ Some n) × IsTrue (has_just_ended (said_by end before)))
failing schema end before n st =
    both (awaits (end_reading_of end (read schema before)).stack n) (is_end_event (end_reading_of end (read schema before)).event) (awaits-read schema end before n st)
    (subst (λ (b : Bool). Decides b (IsTrue (has_just_ended (said_by end before)))) (sym (just-ended schema end before)) (itself (has_just_ended (said_by end before))))

types-read : (schema : Schema) (end : Side) (before : List Line) (n : ℤ) → own_returns schema (end_reading_of end (read schema before)) n ≡ returns_for schema (said_by end before) n
types-read schema end before n = ap (λ (ps : List SentPacket). option_map_or (λ (r : Request). returns_of schema r.number) (request_of ps n) []) (sent-read schema end before)

ok-said : (schema : Schema) (live : ℤ → Bool) (types : List ParamRow) (values : Values) (own : EndReading) (sents : List SentPacket) (n : ℤ) → lives own ≡ live
    → Decides (says (test.is_ok_with schema own types values) sents n) ((given : Values) × Contains sents (said n (ok given)) × IsTrue (is_nulled schema live types given values))
ok-said schema live types values own sents n l =
    recast (says (test.is_ok_with schema own types values) sents n) (reply-said (test.is_ok_with schema own types values) sents n) (λ s. to s.0 s.1 s.2)
    (λ s. (ok s.0, s.1, subst (λ (f : ℤ → Bool). IsTrue (is_nulled schema f types s.0 values)) (sym l) s.2))
  where
    to : (content : ReplyContent) → Contains sents (said n content) → IsTrue (test.is_ok_with schema own types values content) → (given : Values) × Contains sents (said n (ok given)) × IsTrue (is_nulled schema live types given values)
    to (ok vs) c t = (vs, c, subst (λ (f : ℤ → Bool). IsTrue (is_nulled schema f types vs values)) l t)
    to rejected c t = cc
    to (resolved vs) c t = cc
    to (fault q) c t = cc

ok-missing : (schema : Schema) (live : ℤ → Bool) (types : List ParamRow) (own : EndReading) (sents : List SentPacket) (n : ℤ) → lives own ≡ live
    → Decides (says (test.is_ok_missing schema own types) sents n) ((given : Values) × Contains sents (said n (ok given)) × IsTrue (is_some (missing schema live types given)))
ok-missing schema live types own sents n l =
    recast (says (test.is_ok_missing schema own types) sents n) (reply-said (test.is_ok_missing schema own types) sents n) (λ s. to s.0 s.1 s.2)
    (λ s. (ok s.0, s.1, subst (λ (f : ℤ → Bool). IsTrue (is_some (missing schema f types s.0))) (sym l) s.2))
  where
    to : (content : ReplyContent) → Contains sents (said n content) → IsTrue (test.is_ok_missing schema own types content) → (given : Values) × Contains sents (said n (ok given)) × IsTrue (is_some (missing schema live types given))
    to (ok vs) c t = (vs, c, subst (λ (f : ℤ → Bool). IsTrue (is_some (missing schema f types vs))) l t)
    to rejected c t = cc
    to (resolved vs) c t = cc
    to (fault q) c t = cc

answering : (schema : Schema) (end : Side) (before : List Line) (n : ℤ) (values : Values)
    → Decides (is_answered schema (end_reading_of end (read schema before)) (end_reading_of (other_end end) (read schema before)) n values) (HasAnswered schema (said_by end before) (said_by (other_end end) before) n values)
answering schema end before n values =
    subst (λ (types : List ParamRow). Decides (says (test.is_ok_with schema (end_reading_of end (read schema before)) types values) (end_reading_of (other_end end) (read schema before)).sent n)
    (HasAnswered schema (said_by end before) (said_by (other_end end) before) n values)) (sym (types-read schema end before n))
    (subst (λ (ps : List SentPacket). Decides (says (test.is_ok_with schema (end_reading_of end (read schema before)) (returns_for schema (said_by end before) n) values) ps n)
    (HasAnswered schema (said_by end before) (said_by (other_end end) before) n values)) (sym (sent-read schema (other_end end) before))
    (ok-said schema (actors.lives (said_by end before)) (returns_for schema (said_by end before) n) values (end_reading_of end (read schema before)) (sent schema (said_by (other_end end) before)) n (lives-read schema end before)))

own-fault : (schema : Schema) (end : Side) (before : List Line) (n : ℤ) (why : Reason)
    → Decides (is_own_fault schema (end_reading_of end (read schema before)) (end_reading_of (other_end end) (read schema before)) n why)
    (((why ≡ reason.ChannelClosed) × IsTrue (has (failed (said_by end before)) n)) ⊎ ((why ≡ reason.ActorDestroyed) × HasAnsweredMissing schema (said_by end before) (said_by (other_end end) before) n))
own-fault schema end before n reason.ChannelClosed = (λ e. inl (refl, sym failed-now ∙ e), λ p. by p)
  where
    failed-now : has (end_reading_of end (read schema before)).failed n ≡ has (failed (said_by end before)) n
    failed-now = ap (λ (ns : List ℤ). has ns n) (failed-read schema end before)

    by : ((reason.ChannelClosed ≡ reason.ChannelClosed) × IsTrue (has (failed (said_by end before)) n)) ⊎ ((reason.ChannelClosed ≡ reason.ActorDestroyed) × HasAnsweredMissing schema (said_by end before) (said_by (other_end end) before) n)
        → has (end_reading_of end (read schema before)).failed n ≡ true
    by (inl q) = failed-now ∙ q.1
    by (inr q) = cc (q.0)
own-fault schema end before n reason.ActorDestroyed = (λ e. inr (refl, both-ways.0 e), λ p. by p)
  where
    both-ways : Decides (says (test.is_ok_missing schema (end_reading_of end (read schema before)) (own_returns schema (end_reading_of end (read schema before)) n)) (end_reading_of (other_end end) (read schema before)).sent n)
        (HasAnsweredMissing schema (said_by end before) (said_by (other_end end) before) n)
    both-ways =
        subst (λ (types : List ParamRow). Decides (says (test.is_ok_missing schema (end_reading_of end (read schema before)) types) (end_reading_of (other_end end) (read schema before)).sent n)
        (HasAnsweredMissing schema (said_by end before) (said_by (other_end end) before) n)) (sym (types-read schema end before n))
        (subst (λ (ps : List SentPacket). Decides (says (test.is_ok_missing schema (end_reading_of end (read schema before)) (returns_for schema (said_by end before) n)) ps n)
        (HasAnsweredMissing schema (said_by end before) (said_by (other_end end) before) n)) (sym (sent-read schema (other_end end) before))
        (ok-missing schema (actors.lives (said_by end before)) (returns_for schema (said_by end before) n) (end_reading_of end (read schema before)) (sent schema (said_by (other_end end) before)) n (lives-read schema end before)))

    by : ((reason.ActorDestroyed ≡ reason.ChannelClosed) × IsTrue (has (failed (said_by end before)) n)) ⊎ ((reason.ActorDestroyed ≡ reason.ActorDestroyed) × HasAnsweredMissing schema (said_by end before) (said_by (other_end end) before) n)
        → says (test.is_ok_missing schema (end_reading_of end (read schema before)) (own_returns schema (end_reading_of end (read schema before)) n)) (end_reading_of (other_end end) (read schema before)).sent n ≡ true
    by (inl q) = cc (q.0)
    by (inr q) = both-ways.1 q.1
own-fault schema end before n reason.HandlerRejected = (λ e. cc, λ p. by p)
  where
    by : ((reason.HandlerRejected ≡ reason.ChannelClosed) × IsTrue (has (failed (said_by end before)) n)) ⊎ ((reason.HandlerRejected ≡ reason.ActorDestroyed) × HasAnsweredMissing schema (said_by end before) (said_by (other_end end) before) n) → false ≡ true
    by (inl q) = cc (q.0)
    by (inr q) = cc (q.0)
own-fault schema end before n reason.ResolverDestroyed = (λ e. cc, λ p. by p)
  where
    by : ((reason.ResolverDestroyed ≡ reason.ChannelClosed) × IsTrue (has (failed (said_by end before)) n)) ⊎ ((reason.ResolverDestroyed ≡ reason.ActorDestroyed) × HasAnsweredMissing schema (said_by end before) (said_by (other_end end) before) n) → false ≡ true
    by (inl q) = cc (q.0)
    by (inr q) = cc (q.0)

faulting : (schema : Schema) (end : Side) (before : List Line) (n : ℤ) (why : Reason)
    → Decides (is_failed schema (end_reading_of end (read schema before)) (end_reading_of (other_end end) (read schema before)) n why) (HasFault schema (said_by end before) (said_by (other_end end) before) n why)
faulting schema end before n why =
    either (says (is_fault why) (end_reading_of (other_end end) (read schema before)).sent n) (is_own_fault schema (end_reading_of end (read schema before)) (end_reading_of (other_end end) (read schema before)) n why)
    (subst (λ (ps : List SentPacket). Decides (says (is_fault why) ps n) (Contains (sent schema (said_by (other_end end) before)) (said n (fault why)))) (sym (sent-read schema (other_end end) before))
    (fault-said why (sent schema (said_by (other_end end) before)) n)) (own-fault schema end before n why)

-- From the test to the statement, and back

tested : (schema : Schema) (lines : List Line) → Passes law.Waits schema lines → (before : List Line) (end : Side) (w : What) (following : List Line) → lines ≡ before ++ line_of end w ∷ following
    → IsTrue (waits_line schema (end_reading_of end (read schema before)) (end_reading_of (other_end end) (read schema before)) w)
tested schema lines p before end w following e =
    subst (λ (o : EndReading). IsTrue (waits_line schema (end_reading_of end (read schema before)) o w)) (other-read end (read schema before)) (p.places before (line_of end w) following e)

moment-of : (schema : Schema) (lines : List Line) → IsReadable schema lines → Passes law.Waits schema lines → (before following : List Line) → lines ≡ before ++ following → IsTrue (is_moment following) → Moment schema before
unfolding moment_test
moment-of schema lines r p before following e m = (moment schema before (λ end. stack-read schema lines r end before following e)).0 (p.moments before following e m)

to : (schema : Schema) (lines : List Line) → IsReadable schema lines → Passes law.Waits schema lines → Waits schema lines
to schema lines r p = record {
  replies = λ end n before following e. (in-order schema end before n (stack-read schema lines r end before (line_of end (what.DeliverReply n) ∷ following) e)).0 (tested schema lines p before end (what.DeliverReply n) following e);
  fails = λ end n before following e. (failing schema end before n (stack-read schema lines r end before (line_of end (what.Fails n) ∷ following) e)).0 (tested schema lines p before end (what.Fails n) following e);
  answers = λ end n values before following e. (answering schema end before n values).0 (tested schema lines p before end (what.ResumeOk n values) following e);
  faults = λ end n why before following e. (faulting schema end before n why).0 (tested schema lines p before end (what.ResumeFault n why) following e);
  no_block = λ before following e m. (moment-of schema lines r p before following e m).no_block;
  ended = λ end before following e m. (moment-of schema lines r p before following e m).ended end;
  still = λ before following e m. (moment-of schema lines r p before following e m).still;
}

place : (schema : Schema) (lines : List Line) → IsReadable schema lines → Waits schema lines → (before : List Line) (end : Side) (w : What) (following : List Line) → lines ≡ before ++ line_of end w ∷ following
    → IsTrue (waits_line schema (end_reading_of end (read schema before)) (end_reading_of (other_end end) (read schema before)) w)
place schema lines r s before end (what.DeliverReply n) following e = (in-order schema end before n (stack-read schema lines r end before (line_of end (what.DeliverReply n) ∷ following) e)).1 (s.replies end n before following e)
place schema lines r s before end (what.Fails n) following e = (failing schema end before n (stack-read schema lines r end before (line_of end (what.Fails n) ∷ following) e)).1 (s.fails end n before following e)
place schema lines r s before end (what.ResumeOk n values) following e = (answering schema end before n values).1 (s.answers end n values before following e)
place schema lines r s before end (what.ResumeFault n why) following e = (faulting schema end before n why).1 (s.faults end n why before following e)
place schema lines r s before end _ following e = refl

back : (schema : Schema) (lines : List Line) → IsReadable schema lines → Waits schema lines → Passes law.Waits schema lines
unfolding moment_test
back schema lines r s = record {
  places = λ before line following e. subst (λ (o : EndReading). IsTrue (waits_line schema (end_reading_of line.side (read schema before)) o line.what)) (sym (other-read line.side (read schema before))) (place schema lines r s before line.side line.what following e);
  moments = λ before following e m. (moment schema before (λ end. stack-read schema lines r end before following e)).1
      (record { no_block = s.no_block before following e m; ended = λ end. s.ended end before following e m; still = s.still before following e m });
}

pub waits-to : (schema : Schema) (lines : List Line) → IsReadable schema lines → Holds law.Waits schema lines → Waits schema lines
waits-to schema lines r h = to schema lines r (holds-passes law.Waits schema lines h)

pub waits-from : (schema : Schema) (lines : List Line) → IsReadable schema lines → Waits schema lines → Holds law.Waits schema lines
waits-from schema lines r s = passes-holds law.Waits schema lines r (back schema lines r s)
