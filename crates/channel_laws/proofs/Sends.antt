-- Sends of an open end: refused ones, async requests, and calls.
use Rattle.channel_model.proofs.Tests.{and-left, and-right}
use Rattle.channel_laws.proofs.Tests.{not-false}
use Rattle.std.proofs.Common.{◌≡◌, ℕ, ◌+◌, ℤ, pos, Bool, true, false, not, ◌&&◌, ◌||◌, cond, if◌then◌else◌, List, [], ◌∷◌, ◌++◌, map, Option, Some, None, is_some, is_none, arith, refl, sym, ap, subst, ◌∙◌}
use Rattle.std.proofs.Math.Numerals.{add-one}
use Rattle.std.proofs.lemmas.Bool.Decides.{nat_tests}
use Rattle.std.specs.Prelude.{nat_lt}
use Rattle.std.proofs.lemmas.List.{append-nil, map-append}
use Rattle.std.proofs.lemmas.Grind.{flat_map-append}
use Rattle.std.specs.List.{AllByRecursion}
use Rattle.ipdl_base.specs.declared.line.What.TheVariants as what
use Rattle.ipdl_base.specs.declared.kinds.Level.{Level}
use Rattle.ipdl_base.specs.declared.kinds.Level.TheVariants.{Not, InsideSync, InsideCpow}
use Rattle.ipdl_base.specs.declared.kinds.SendRefusal.{SendRefusal}
use Rattle.ipdl_base.specs.declared.kinds.SendRefusal.TheVariants as refusal
use Rattle.ipdl_base.specs.declared.kinds.Side.{Side}
use Rattle.ipdl_base.specs.declared.kinds.Side.TheVariants.{Parent, Child}
use Rattle.ipdl_base.specs.declared.message.Message.{Message}
use Rattle.ipdl_base.specs.declared.schema.MessageRow.{MessageRow}
use Rattle.ipdl_base.specs.declared.schema.Schema.{Schema}
use Rattle.ipdl_base.specs.declared.value.Values.{Values}
use Rattle.nesting_core.specs.declared.frame.StackFrame.{StackFrame}
use Rattle.nesting_core.specs.declared.frame.StackFrame.TheVariants.{Dispatch, Wait}
use Rattle.nesting_core.specs.declared.frame.Head.{Head}
use Rattle.nesting_core.specs.Deferral.{transaction_of}
use Rattle.nesting_core.specs.Refusals.{is_nested_in_normal, refusal_of}
use Rattle.nesting_core.specs.Top.{top_of}
use Rattle.channel_model.specs.Ends.{End, StackEntry, Packet, message}
use Rattle.channel_model.specs.Falls.{deletes}
use Rattle.promise_table.specs.Promises as promises
use Rattle.channel_model.proofs.Known.{all-append}
use Rattle.ipdl_base.specs.Sides.{sends}
use Rattle.channel_model.specs.Numbers.{seq_of, is_sync_row, makes_promise, counting, request_row, is_constructor, protocol_of}
use Rattle.channel_model.specs.Typed.{have_types}
use Rattle.channel_model.specs.ValueActors.{lives_as}
use Rattle.channel_model.specs.Outputs.{Output, Change, beginning, ◌▷◌, when, on_end, line, put, is_open, is_dead_end}
use Rattle.channel_model.specs.Sends as send
use Rattle.channel_laws.proofs.SyncSteps.{SyncStep, track_of, at-beginning, keeps-sync_step, track-steps}
use Rattle.channel_laws.proofs.Track.{Track, IsOnTrack, KeepsTrack, keeps-chain, keeps-when, at-changed, at-like, at-put, at-sent, keeps-names_actor, keeps-constructs, keeps-deletes, frames_in}
use Rattle.channel_laws.specs.OpenEnds.{EntryAgrees, PacketAgrees, IsOpenEnd}
use Rattle.channel_laws.specs.SyncCalls.{level_of, listed, call_of, call_of_head, sync_packets, sync_packet, sync_calls}
use Rattle.channel_laws.specs.SyncStack.{empty, async_base, waits, handles, Shows, no_answer, has_answer, cpow_on_top, no_cpow, entry_of}
use Rattle.nesting_laws.specs.Calls.{Call, wait, SyncPacket, request, sync_end, SyncFrame}
use Rattle.nesting_laws.specs.Steps.{HasLevelOf, IsTransactionOf, Allows, Step, calls, calls_inside}
use Rattle.channel_laws.specs.Rows.{IsSoundRow}

-- Frames

-- a sync head, written out
abbrev pub sync_head : Head → Head
sync_head head = record { sync = true; level = head.level; seq = head.seq; transaction = head.transaction }

pub is-sync_head : (head : Head) → head.sync ≡ true → sync_head head ≡ head
is-sync_head head is = ap (λ (b : Bool). record { sync = b; level = head.level; seq = head.seq; transaction = head.transaction }) (sym is)

allows-at : (d l : Level) (seq t : ℤ) (below : List StackFrame) → refusal_of (Dispatch (record { sync = true; level = d; seq = seq; transaction = t }) ∷ below) (record { sync = true; level = l }) ≡ None → Allows d l
allows-at Not Not seq t below h = tt
allows-at Not InsideSync seq t below h = cc
allows-at Not InsideCpow seq t below h = cc
allows-at InsideSync Not seq t below h = cc
allows-at InsideSync InsideSync seq t below h = tt
allows-at InsideSync InsideCpow seq t below h = tt
allows-at InsideCpow l seq t below h = cc

allows-of : (head : Head) (l : Level) (below : List StackFrame) → head.sync ≡ true → refusal_of (Dispatch head ∷ below) (record { sync = true; level = l }) ≡ None → Allows head.level l
allows-of head l below is h = allows-at head.level l head.seq head.transaction below (ap (λ (x : Head). refusal_of (Dispatch x ∷ below) (record { sync = true; level = l })) (is-sync_head head is) ∙ h)

transaction-at : (d : Level) (seq t own : ℤ) (below : List StackFrame) → d ≡ InsideSync → transaction_of (Dispatch (record { sync = true; level = d; seq = seq; transaction = t }) ∷ below) own ≡ t
transaction-at InsideSync seq t own below e = refl
transaction-at Not seq t own below e = cc
transaction-at InsideCpow seq t own below e = cc

transaction-inside : (head : Head) (own : ℤ) (below : List StackFrame) → head.sync ≡ true → head.level ≡ InsideSync → transaction_of (Dispatch head ∷ below) own ≡ head.transaction
transaction-inside head own below is e = ap (λ (x : Head). transaction_of (Dispatch x ∷ below) own) (sym (is-sync_head head is)) ∙ transaction-at head.level head.seq head.transaction own below e

transaction-async_at : (sync : Bool) (d : Level) (seq t own : ℤ) → sync ≡ false → transaction_of (Dispatch (record { sync = sync; level = d; seq = seq; transaction = t }) ∷ []) own ≡ own
transaction-async_at false d seq t own e = refl
transaction-async_at true d seq t own e = cc

refused_anyway : {A B : Type 0} (b : Bool) (x y : A) → cond b (Some x) (Some y) ≡ None → B
refused_anyway true x y h = cc
refused_anyway false x y h = cc

cpow-refuses_at : {A : Type 0} (d l : Level) (sync : Bool) (seq t : ℤ) (below : List StackFrame) → d ≡ InsideCpow → refusal_of (Dispatch (record { sync = sync; level = d; seq = seq; transaction = t }) ∷ below) (record { sync = true; level = l }) ≡ None → A
cpow-refuses_at InsideCpow l sync seq t below e h =
    refused_anyway (is_nested_in_normal (Dispatch (record { sync = sync; level = InsideCpow; seq = seq; transaction = t }) ∷ below) (record { sync = true; level = l })) refusal.NestedInNormal refusal.InsideCpow h
cpow-refuses_at Not l sync seq t below e h = cc
cpow-refuses_at InsideSync l sync seq t below e h = cc

cpow-refuses : {A : Type 0} (head : Head) (l : Level) (below : List StackFrame) → head.level ≡ InsideCpow → refusal_of (Dispatch head ∷ below) (record { sync = true; level = l }) ≡ None → A
cpow-refuses head l below e h = cpow-refuses_at head.level l head.sync head.seq head.transaction below e h

-- A call on a stack, and the step that it is.
pub record CallStep (side : Side) (entries : List StackEntry) (stack : List SyncFrame) (route : ℤ) (number : ℕ) (head : Head) : Type 0 where
  pub shows : Shows side (entry_of (Wait head None) route number false ∷ entries) (wait (call_of_head route number head) ∷ stack)
  pub step : (arrived : List Call) (link : List SyncPacket) → Step side (sync_end stack arrived link) (sync_end (wait (call_of_head route number head) ∷ stack) arrived link) (request (call_of_head route number head) ∷ [])

pub called : (side : Side) (entries : List StackEntry) (stack : List SyncFrame) (level : Level) (seq route : ℤ) (number : ℕ) → Shows side entries stack → send.is_wait_on_top (top_of (frames_in entries)) ≡ false → refusal_of (frames_in entries) (record { sync = true; level = level }) ≡ None
    → ((t : ℤ) → HasLevelOf side (record { level = level; seq = seq; transaction = t; route = route; number = number })) → IsTransactionOf side seq → CallStep side entries stack route number (record { sync = true; level = level; seq = seq; transaction = transaction_of (frames_in entries) seq })
called side _ _ level seq route number (no_cpow (no_answer empty)) top r l of = record { shows = no_cpow (no_answer (waits refl (l seq) tt empty)); step = λ arrived link. calls (l seq) of }
called side _ _ level seq route number (no_cpow (no_answer (async_base {head} s n))) top r l of =
    let t : ℤ = transaction_of (Dispatch head ∷ []) seq in
    record { shows = no_cpow (no_answer (waits refl (l t) tt (async_base s n))); step = λ arrived link. calls (l t) (subst (IsTransactionOf side) (sym (transaction-async_at head.sync head.level head.seq head.transaction seq s)) of) }
called side _ _ level seq route number (no_cpow (no_answer (waits s k f p))) top r l of = cc
called side _ _ level seq route number (no_cpow (no_answer (handles {head} {entries} s p))) top r l of =
    let t : ℤ = transaction_of (Dispatch head ∷ frames_in entries) seq in
    record { shows = no_cpow (no_answer (waits refl (l t) tt (handles s p))); step = λ arrived link. calls_inside (l t) (allows-of head level (frames_in entries) s r) (transaction-inside head seq (frames_in entries) s) }
called side _ _ level seq route number (no_cpow (has_answer f p)) top r l of = cc
called side _ _ level seq route number (cpow_on_top {head} {entries} s e a) top r l of = cpow-refuses head level (frames_in entries) e r

below_next : (n : ℕ) → nat_lt 0 (n + 1) ≡ true
below_next n = grind (arith, nat_tests)

-- the next number belongs to its side
next-is_of : (side : Side) (n : ℕ) → IsTransactionOf side (seq_of side (n + 1))
next-is_of Parent n = below_next n
next-is_of Child n = rw add-one refl

level-is_of : (schema : Schema) (row : MessageRow) (side : Side) (seq t route : ℤ) → IsSoundRow schema row.number row → is_sync_row row ≡ true → sends side row.direction ≡ true → HasLevelOf side (record { level = row.level; seq = seq; transaction = t; route = route; number = row.number })
level-is_of schema row Parent seq t route f is way = f.of_parent is way
level-is_of schema row Child seq t route f is way = tt

-- Parts of a send

pub when-true : (b : Bool) (change : Change) (o : Output) → b ≡ true → when b change o ≡ change o
when-true true change o e = refl
when-true false change o e = cc

pub keeps-when_not : (schema : Schema) (b : Bool) (change : Change) → b ≡ false → KeepsTrack schema (when b change)
keeps-when_not schema true change e w o h = cc
keeps-when_not schema false change e w o h = h

-- the promise of a request
keeps-promises : (schema : Schema) (row : MessageRow) (m : Message) → KeepsTrack schema (when (makes_promise row) (on_end (λ e. record e { promises = e.promises ++ record { promise = promises.made m.seq m.route; number = m.number } ∷ [] })))
keeps-promises schema row m =
    let change : Change = on_end (λ e. record e { promises = e.promises ++ record { promise = promises.made m.seq m.route; number = m.number } ∷ [] }) in
    keeps-when schema (makes_promise row) change (λ w o h. at-like schema w o.end (change o).end o.packets refl refl refl refl refl refl h)

pub at-push : (schema : Schema) (w : Track) (entry : StackEntry) (e : End) (packets : List Packet) → IsOnTrack schema w e packets → IsOnTrack schema (record w { stack = entry ∷ w.stack }) (record e { stack = entry ∷ e.stack }) packets
at-push schema w entry e packets h = record {
  side_is = h.side_is;
  state_is = h.state_is;
  stack_is = ap (λ (s : List StackEntry). entry ∷ s) h.stack_is;
  arrived_is = h.arrived_is;
  sent_is = h.sent_is;
  agree = h.agree;
  named = h.named;
  outbox_is = h.outbox_is;
  waiting = h.waiting;
}

-- a packet that is not sync goes last into the outbox, or on the link
outbox-more : (schema : Schema) (outbox : List Message) (m : Message) → sync_packets schema (map message outbox) ≡ [] → sync_packet schema (message m) ≡ [] → sync_packets schema (map message (outbox ++ m ∷ [])) ≡ []
outbox-more schema [] m e f = ap (λ (ps : List SyncPacket). ps ++ []) f
outbox-more schema (x ∷ outbox) m e f =
    ap (λ (packets : List Packet). sync_packets schema (message x ∷ packets)) (map-append message outbox (m ∷ []))
    ∙ (ap (λ (ps : List SyncPacket). sync_packet schema (message x) ++ ps) (flat_map-append (sync_packet schema) (map message outbox) (message m ∷ []))
    ∙ (ap (λ (ps : List SyncPacket). sync_packet schema (message x) ++ (sync_packets schema (map message outbox) ++ (ps ++ []))) f
    ∙ (ap (λ (ps : List SyncPacket). sync_packet schema (message x) ++ ps) (append-nil (sync_packets schema (map message outbox))) ∙ e)))

keeps-posted : (schema : Schema) (lazy : Bool) (m : Message) → sync_packet schema (message m) ≡ [] → PacketAgrees schema (message m) → KeepsTrack schema (send.posted_by lazy m)
keeps-posted schema true m nothing agrees w o h =
    at-changed schema w o.end (record o.end { outbox = o.end.outbox ++ m ∷ [] }) o.packets refl refl refl refl h.named (outbox-more schema o.end.outbox m h.outbox_is nothing)
    (subst (AllByRecursion (PacketAgrees schema)) (sym (map-append message o.end.outbox (m ∷ []))) (all-append (PacketAgrees schema) (map message o.end.outbox) (message m ∷ []) h.waiting (agrees, tt))) h
keeps-posted schema false m nothing agrees w o h =
    at-sent schema w (w.sent ++ sync_packet schema (message m)) w.sent (put (message m) o).end (put (message m) o).packets (ap (λ (ps : List SyncPacket). w.sent ++ ps) nothing ∙ append-nil w.sent) (at-put schema (message m) agrees w o h)

-- the rest of a send, after its packet and its wait
keeps-rest : (schema : Schema) (row : MessageRow) (m : Message) (name : Option (List ℕ)) → KeepsTrack schema (send.names_actor m.made name ▷ send.constructs m.made m.route row.kind ▷ deletes m.route row.kind)
keeps-rest schema row m name =
    keeps-chain schema (send.names_actor m.made name) (send.constructs m.made m.route row.kind ▷ deletes m.route row.kind) (keeps-names_actor schema m.made name)
    (keeps-chain schema (send.constructs m.made m.route row.kind) (deletes m.route row.kind) (keeps-constructs schema m.made m.route row.kind) (keeps-deletes schema m.route row.kind))

-- the packet of a request
request-sync_packets : (schema : Schema) (e : End) (row : MessageRow) (route : ℤ) (vs : Values) → IsSoundRow schema row.number row
    → sync_packet schema (message (send.request_of e row route vs)) ≡ listed (is_sync_row row) (request (call_of row.level (send.request_of e row route vs)))
request-sync_packets schema e row route vs f =
    ap (λ (b : Bool). listed b (request (call_of (level_of schema row.number) (send.request_of e row route vs)))) f.is_sync
    ∙ ap (λ (l : Level). listed (is_sync_row row) (request (call_of l (send.request_of e row route vs)))) f.has_level

request-agree : (schema : Schema) (e : End) (row : MessageRow) (route : ℤ) (vs : Values) → IsSoundRow schema row.number row → request_row schema row.number ≡ Some row → PacketAgrees schema (message (send.request_of e row route vs))
request-agree schema e row route vs f found = record { row = row; found = found }

module _ (schema : Schema) (e : End) (row : MessageRow) (route : ℤ) (vs : Values) (name : Option (List ℕ)) (stack : List SyncFrame) (link : List Packet) (f : IsSoundRow schema row.number row) (found : request_row schema row.number ≡ Some row) (h : IsOpenEnd schema e stack) where
  abbrev m : Message
  m = send.request_of e row route vs

  -- the end when the send is counted
  abbrev numbered : Output
  numbered = on_end (λ e. record e { sent = e.sent + 1; constructors_sent = counting row.kind e.constructors_sent }) (line (send.send_line row m vs) (beginning e))

  at-numbered : IsOnTrack schema (track_of e) numbered.end numbered.packets
  at-numbered = at-like schema (track_of e) e numbered.end [] refl refl refl refl refl refl (at-beginning schema e stack h)

  async-sent : is_sync_row row ≡ false → SyncStep schema e stack link link (send.sent row m vs name (beginning e))
  async-sent is =
      let nothing : sync_packet schema (message m) ≡ [] = request-sync_packets schema e row route vs f ∙ ap (λ (b : Bool). listed b (request (call_of row.level m))) is in
      let posted = keeps-posted schema row.lazy m nothing (request-agree schema e row route vs f found) (track_of e) numbered at-numbered in
      let waits = keeps-when_not schema (is_sync_row row) (on_end (λ e. record e { stack = send.wait_for row m ∷ e.stack })) is (track_of e) (send.posted row m numbered) posted in
      let o : Output = when (is_sync_row row) (on_end (λ e. record e { stack = send.wait_for row m ∷ e.stack })) (send.posted row m numbered) in
      let promises = keeps-promises schema row m (track_of e) o waits in
      keeps-sync_step schema e stack link (send.sent row m vs name (beginning e)) h (keeps-rest schema row m name (track_of e) (send.awaits_reply row m (send.posted row m numbered)) promises)

  not_lazy : (b : Bool) → row.lazy ≡ b → is_sync_row row ≡ true → row.lazy ≡ false
  not_lazy true lazy is = let e : true ≡ false = sym is ∙ f.lazy lazy in cc
  not_lazy false lazy is = lazy

  entry-agree : is_sync_row row ≡ true → EntryAgrees schema (send.wait_for row m)
  entry-agree is = record { row = row; found = found; is_sync = is; resolves = λ r. cc }

  -- the track after the call, which is on the link and on the stack
  abbrev called_track : Track
  called_track = record { side = e.side; stack = send.wait_for row m ∷ e.stack; arrived = e.arrived; sent = request (call_of row.level m) ∷ [] }

  at-put_call : is_sync_row row ≡ true → IsOnTrack schema (record (track_of e) { sent = request (call_of row.level m) ∷ [] }) (send.posted row m numbered).end (send.posted row m numbered).packets
  at-put_call is =
      let sent = at-put schema (message m) (request-agree schema e row route vs f found) (track_of e) numbered at-numbered in
      let same_sent : sync_packet schema (message m) ≡ request (call_of row.level m) ∷ [] = request-sync_packets schema e row route vs f ∙ ap (λ (b : Bool). listed b (request (call_of row.level m))) is in
      subst (λ (o : Output). IsOnTrack schema (record (track_of e) { sent = request (call_of row.level m) ∷ [] }) o.end o.packets) (sym (ap (λ (b : Bool). send.posted_by b m numbered) (not_lazy row.lazy refl is)))
      (at-sent schema (track_of e) (sync_packet schema (message m)) (request (call_of row.level m) ∷ []) (put (message m) numbered).end (put (message m) numbered).packets same_sent sent)

  at-call : is_sync_row row ≡ true → IsOnTrack schema called_track (send.sent row m vs name (beginning e)).end (send.sent row m vs name (beginning e)).packets
  at-call is =
      let o : Output = send.posted row m numbered in
      let push : Change = on_end (λ e. record e { stack = send.wait_for row m ∷ e.stack }) in
      let pushed = at-push schema (record (track_of e) { sent = request (call_of row.level m) ∷ [] }) (send.wait_for row m) o.end o.packets (at-put_call is) in
      let waits = subst (λ (n : Output). IsOnTrack schema called_track n.end n.packets) (sym (when-true (is_sync_row row) push o is)) pushed in
      keeps-rest schema row m name called_track (send.awaits_reply row m o) (keeps-promises schema row m called_track (when (is_sync_row row) push o) waits)

  sync-sent : is_sync_row row ≡ true → send.is_wait_on_top (top_of (send.frames_of e)) ≡ false → refusal_of (send.frames_of e) (record { sync = true; level = row.level }) ≡ None → sends e.side row.direction ≡ true → SyncStep schema e stack link link (send.sent row m vs name (beginning e))
  sync-sent is top allowed way =
      let t : send.next_transaction e row ≡ transaction_of (send.frames_of e) (send.next_seq e) = ap (λ (b : Bool). if b then transaction_of (send.frames_of e) (send.next_seq e) else pos 0) is in
      let head : Head = record { sync = true; level = row.level; seq = send.next_seq e; transaction = send.next_transaction e row } in
      let c : CallStep e.side e.stack stack route row.number head =
      subst (λ (t : ℤ). CallStep e.side e.stack stack route row.number (record { sync = true; level = row.level; seq = send.next_seq e; transaction = t })) (sym t)
      (called e.side e.stack stack row.level (send.next_seq e) route row.number h.shows top allowed (λ t. level-is_of schema row e.side (send.next_seq e) t route f is way) (next-is_of e.side e.sent)) in
      track-steps schema e stack (wait (call_of_head route row.number head) ∷ stack) link called_track (send.sent row m vs name (beginning e)) (at-call is) c.shows (entry-agree is, h.entries) h.arrived (c.step (sync_calls e.arrived) (sync_packets schema link))

-- A send

pub acts-top : (e : End) → send.may_act e ≡ true → send.is_wait_on_top (top_of (send.frames_of e)) ≡ false
acts-top e may = not-false (send.is_wait_on_top (top_of (send.frames_of e))) (and-right (not (is_dead_end e.state)) (not (send.is_wait_on_top (top_of (send.frames_of e)))) may)

stack-allows : (a b : Bool) (first second : SendRefusal) (by_stack by_values : Option SendRefusal) → (if a then Some first else (if b then Some second else (if is_some by_stack then by_stack else by_values))) ≡ None → by_stack ≡ None
stack-allows true b first second by_stack by_values e = cc
stack-allows false true first second by_stack by_values e = cc
stack-allows false false first second None by_values e = refl
stack-allows false false first second (Some cause) by_values e = e

module _ (schema : Schema) (e : End) (row : MessageRow) (route : ℤ) (vs : Values) (name : Option (List ℕ)) (stack : List SyncFrame) (link : List Packet) (f : IsSoundRow schema row.number row) (found : request_row schema row.number ≡ Some row) (h : IsOpenEnd schema e stack) (may : send.may_send schema e row vs name ≡ true) where
  may_way : sends e.side row.direction ≡ true
  may_way =
      let rest : Bool = have_types schema row.params vs && (is_none name || is_constructor row.kind) in
      and-left (sends e.side row.direction) rest (and-right row.carried (sends e.side row.direction && rest) (and-right (send.may_act e) (row.carried && (sends e.side row.direction && rest)) may))

  may_top : send.is_wait_on_top (top_of (send.frames_of e)) ≡ false
  may_top =
      let rest : Bool = have_types schema row.params vs && (is_none name || is_constructor row.kind) in
      acts-top e (and-left (send.may_act e) (row.carried && (sends e.side row.direction && rest)) may)

  sent-by : (sync : Bool) → is_sync_row row ≡ sync → send.send_refusal schema e row route vs ≡ None → SyncStep schema e stack link link (send.sent row (send.request_of e row route vs) vs name (beginning e))
  sent-by false is allowed = async-sent schema e row route vs name stack link f found h is
  sent-by true is allowed =
      let by_stack : send.stack_refusal e row ≡ None = stack-allows (not (is_open e.state)) (not (lives_as e.actors (protocol_of row.number) route)) refusal.Closed refusal.DeadActor (send.stack_refusal e row) (send.send_value_refusal schema e row route vs) allowed in
      sync-sent schema e row route vs name stack link f found h is may_top (ap (λ (b : Bool). refusal_of (send.frames_of e) (record { sync = b; level = row.level })) (sym is) ∙ by_stack) may_way

  send-unless : (r : Option SendRefusal) → send.send_refusal schema e row route vs ≡ r → SyncStep schema e stack link link (send.sent_unless r row (send.request_of e row route vs) vs name (beginning e))
  send-unless None is = sent-by (is_sync_row row) refl is
  send-unless (Some cause) is = keeps-sync_step schema e stack link (line (what.RefusedSend cause row.number) (beginning e)) h (at-beginning schema e stack h)

  pub send-sync_step : SyncStep schema e stack link link (send.send schema e row route vs name (beginning e))
  send-sync_step = send-unless (send.send_refusal schema e row route vs) refl
