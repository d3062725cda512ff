-- Answers, names, a close and a death, at an open end.
use Rattle.channel_model.proofs.Tests.{and-left, and-right}
use Rattle.std.proofs.Common.{◌≡◌, ℕ, ◌+◌, ℤ, pos, Bool, true, false, not, ◌&&◌, ◌==◌, cond, if◌then◌else◌, int_eq, List, [], ◌∷◌, map, find, Option, Some, None, option_map, option_and_then, refl, sym, ap, subst, ◌∙◌}
use Rattle.std.proofs.lemmas.Option.{same_Some}
use Rattle.std.specs.List.{AllByRecursion}
use Rattle.ipdl_base.specs.declared.line.What.TheVariants as what
use Rattle.ipdl_base.specs.declared.kinds.SendRefusal.{SendRefusal}
use Rattle.ipdl_base.specs.declared.kinds.SendRefusal.TheVariants as refusal
use Rattle.ipdl_base.specs.declared.schema.MessageRow.{MessageRow}
use Rattle.ipdl_base.specs.declared.kinds.Side.{Side}
use Rattle.ipdl_base.specs.declared.schema.Schema.{Schema}
use Rattle.ipdl_base.specs.declared.value.Values.{Values}
use Rattle.nesting_core.specs.declared.frame.StackFrame.{StackFrame}
use Rattle.nesting_core.specs.declared.frame.StackFrame.TheVariants.{Dispatch}
use Rattle.nesting_core.specs.Frames.{head_of, is_dispatch, has_wait}
use Rattle.channel_model.specs.Acts as acts
use Rattle.channel_model.specs.Answers as answers
use Rattle.ipdl_base.specs.declared.kinds.EndState.{EndState}
use Rattle.channel_model.specs.Ends.{End, StackEntry, NameContent, actor, resolver, Resolver, Packet, message, mark}
use Rattle.channel_model.specs.Events.{Answering, handled, kept}
use Rattle.channel_model.specs.Names.{has_name, held_by_name}
use Rattle.channel_model.specs.Outputs.{Output, beginning, when, when_open, on_end, line, put, is_open, is_closed, resolver_answered, reply_to}
use Rattle.channel_model.specs.Sends.{frames_of}
use Rattle.channel_model.proofs.Known.{all-filter}
use Rattle.channel_model.proofs.StateSteps.{no_waits}
use Rattle.channel_laws.proofs.LastPackets.{empty-goes_on, ends-following}
use Rattle.channel_laws.proofs.SyncSteps.{SyncStep, no_step, ends, track_of, at-beginning, at-open, keeps-sync_step}
use Rattle.channel_laws.proofs.Takes.{found-passes}
use Rattle.channel_laws.proofs.Track.{IsOnTrack, at-put, at-sent, keeps-renamed, MayHold, all-found, held-agree, answered_reply}
use Rattle.channel_laws.specs.NestedWorlds.{EndsInLastPacket, last_alone}
use Rattle.channel_laws.specs.OpenEnds.{EntryAgrees, PacketAgrees, NamingAgrees, IsOpenEnd}
use Rattle.channel_laws.specs.SyncCalls.{is_sync_number, listed, sync_packets, sync_packet, sync_calls}
use Rattle.channel_laws.specs.SyncStack.{Shows, ShowsFrames, empty, async_base, waits, handles, ShowsUnderAnswer, no_answer, has_answer, no_cpow, cpow_on_top, entry_of}
use Rattle.nesting_laws.specs.Calls.{reply, SyncFrame}
use Rattle.channel_laws.specs.Rows.{HasSoundRows}

-- Resolvers

resolver-async : (schema : Schema) (rows : HasSoundRows schema) (entry : StackEntry) → EntryAgrees schema entry → entry.resolves ≡ true → is_sync_number schema (entry.number + 1) ≡ false
resolver-async schema rows entry f is = (rows entry.number f.row f.found).reply_sync ∙ (f.is_sync ∙ f.resolves is)

handled-resolver_at : (schema : Schema) (rows : HasSoundRows schema) (seq : ℤ) (stack : List StackEntry) (found : Option StackEntry) (r : Resolver) → find (answers.has_resolver seq) stack ≡ found → option_map answers.resolver_in found ≡ Some r → AllByRecursion (EntryAgrees schema) stack → is_sync_number schema (r.number + 1) ≡ false
handled-resolver_at schema rows seq stack None r is e h = cc
handled-resolver_at schema rows seq stack (Some entry) r is e h =
    let passes : answers.has_resolver seq entry ≡ true = found-passes (answers.has_resolver seq) stack entry is in
    let resolves : entry.resolves ≡ true = and-left entry.resolves (int_eq (head_of entry.frame).seq seq) (and-right (is_dispatch entry.frame) (entry.resolves && int_eq (head_of entry.frame).seq seq) passes) in
    ap (λ (x : Resolver). is_sync_number schema (x.number + 1)) (sym (same_Some (answers.resolver_in entry) r e)) ∙ resolver-async schema rows entry (all-found (EntryAgrees schema) (answers.has_resolver seq) stack entry h is) resolves

handled-resolver : (schema : Schema) (rows : HasSoundRows schema) (e : End) (seq : ℤ) (r : Resolver) → AllByRecursion (EntryAgrees schema) e.stack → answers.handled_resolver e seq ≡ Some r → is_sync_number schema (r.number + 1) ≡ false
handled-resolver schema rows e seq r h is = handled-resolver_at schema rows seq e.stack (find (answers.has_resolver seq) e.stack) r refl is h

kept-if : (schema : Schema) (b : Bool) (q r : Resolver) → cond b (Some q) None ≡ Some r → is_sync_number schema (q.number + 1) ≡ false → is_sync_number schema (r.number + 1) ≡ false
kept-if schema true q r e h = ap (λ (x : Resolver). is_sync_number schema (x.number + 1)) (sym (same_Some q r e)) ∙ h
kept-if schema false q r e h = cc

kept-resolver : (schema : Schema) (number : ℕ) (holds : Option NameContent) (r : Resolver) → MayHold schema holds → option_and_then (answers.resolver_of number) holds ≡ Some r → is_sync_number schema (r.number + 1) ≡ false
kept-resolver schema number None r h e = cc
kept-resolver schema number (Some (actor id)) r h e = cc
kept-resolver schema number (Some (resolver q)) r h e = kept-if schema (q.number == number) q r e h

used-resolver : (schema : Schema) (rows : HasSoundRows schema) (e : End) (stack : List SyncFrame) (by : Answering) (r : Resolver) → IsOpenEnd schema e stack → answers.resolver_used e by ≡ Some r → is_sync_number schema (r.number + 1) ≡ false
used-resolver schema rows e stack (handled seq) r h is = handled-resolver schema rows e seq r h.entries is
used-resolver schema rows e stack (kept name number) r h is = kept-resolver schema number (held_by_name name e.names) r (held-agree schema name e.names (find (has_name name) e.names) refl h.names) is

-- a stack where a resolver is used still agrees with its rows

released-agree_one : (schema : Schema) (b : Bool) (entry : StackEntry) → EntryAgrees schema entry → EntryAgrees schema (cond b (record entry { resolves = false }) entry)
released-agree_one schema true entry h = record { row = h.row; found = h.found; is_sync = h.is_sync; resolves = λ r. cc }
released-agree_one schema false entry h = h

released-agree : (schema : Schema) (seq : ℤ) (stack : List StackEntry) → AllByRecursion (EntryAgrees schema) stack → AllByRecursion (EntryAgrees schema) (answers.released seq stack)
released-agree schema seq [] h = tt
released-agree schema seq (entry ∷ stack) h = (released-agree_one schema (answers.has_resolver seq entry) entry h.0, released-agree schema seq stack h.1)

-- the entry shows what it showed
used-plain : (side : Side) (b : Bool) {frame : StackFrame} {route : ℤ} {number : ℕ} {resolves : Bool} {entries : List StackEntry} {stack : List SyncFrame} → ShowsFrames side (entry_of frame route number false ∷ entries) stack → ShowsFrames side (entry_of frame route number resolves ∷ entries) stack → ShowsFrames side (cond b (entry_of frame route number false) (entry_of frame route number resolves) ∷ entries) stack
used-plain side true h k = h
used-plain side false h k = k

released-plain : (side : Side) (seq : ℤ) {entries : List StackEntry} {stack : List SyncFrame} → ShowsFrames side entries stack → ShowsFrames side (answers.released seq entries) stack
released-plain side seq empty = empty
released-plain side seq (async_base {head} {route} {number} {resolves} s n) = used-plain side (answers.has_resolver seq (entry_of (Dispatch head) route number resolves)) (async_base s n) (async_base s n)
released-plain side seq (waits s k f p) = waits s k f (released-plain side seq p)
released-plain side seq (handles {head} {route} {number} {resolves} s p) = used-plain side (answers.has_resolver seq (entry_of (Dispatch head) route number resolves)) (handles s (released-plain side seq p)) (handles s (released-plain side seq p))

released-answered : (side : Side) (seq : ℤ) {entries : List StackEntry} {stack : List SyncFrame} → ShowsUnderAnswer side entries stack → ShowsUnderAnswer side (answers.released seq entries) stack
released-answered side seq (no_answer p) = no_answer (released-plain side seq p)
released-answered side seq (has_answer f p) = has_answer f (released-plain side seq p)

used-shows : (side : Side) (b : Bool) {frame : StackFrame} {route : ℤ} {number : ℕ} {resolves : Bool} {entries : List StackEntry} {stack : List SyncFrame} → Shows side (entry_of frame route number false ∷ entries) stack → Shows side (entry_of frame route number resolves ∷ entries) stack → Shows side (cond b (entry_of frame route number false) (entry_of frame route number resolves) ∷ entries) stack
used-shows side true h k = h
used-shows side false h k = k

released-shows : (side : Side) (seq : ℤ) {entries : List StackEntry} {stack : List SyncFrame} → Shows side entries stack → Shows side (answers.released seq entries) stack
released-shows side seq (no_cpow a) = no_cpow (released-answered side seq a)
released-shows side seq (cpow_on_top {head} {route} {number} {resolves} s e a) = used-shows side (answers.has_resolver seq (entry_of (Dispatch head) route number resolves)) (cpow_on_top s e (released-answered side seq a)) (cpow_on_top s e (released-answered side seq a))

released-open : (schema : Schema) (e : End) (seq : ℤ) (stack : List SyncFrame) → IsOpenEnd schema e stack → IsOpenEnd schema (record e { stack = answers.released seq e.stack }) stack
released-open schema e seq stack h = record {
  state = h.state;
  shows = released-shows e.side seq h.shows;
  entries = released-agree schema seq e.stack h.entries;
  arrived = h.arrived;
  names = h.names;
  outbox = h.outbox;
  waiting = h.waiting;
}

without-open : (schema : Schema) (e : End) (by : Answering) (stack : List SyncFrame) → IsOpenEnd schema e stack → IsOpenEnd schema (answers.without_resolver by e) stack
without-open schema e (handled seq) stack h = released-open schema e seq stack h
without-open schema e (kept name number) stack h = record {
  state = h.state;
  shows = h.shows;
  entries = h.entries;
  arrived = h.arrived;
  names = all-filter (NamingAgrees schema) (λ naming. not (has_name name naming)) e.names h.names;
  outbox = h.outbox;
  waiting = h.waiting;
}

without-arrived : (e : End) (by : Answering) → (answers.without_resolver by e).arrived ≡ e.arrived
without-arrived e (handled seq) = refl
without-arrived e (kept name number) = refl

-- a step whose first part changes the end, and whose other parts keep its track
then-keeps : (schema : Schema) (e next : End) (stack : List SyncFrame) (link : List Packet) (o : Output) → next.arrived ≡ e.arrived → IsOpenEnd schema next stack → IsOnTrack schema (track_of next) o.end o.packets → SyncStep schema e stack link link o
then-keeps schema e next stack link o arrived h a =
    no_step (at-open schema (track_of next) o.end o.packets stack a h.shows h.entries h.arrived) (ap sync_calls (a.arrived_is ∙ arrived)) refl a.sent_is a.agree

-- Answers

answer-body_sync_packets : (schema : Schema) (r : Resolver) (vs : Option Values) → sync_packet schema (message (reply_to (resolver_answered r) (answers.answer_body vs))) ≡ listed (is_sync_number schema (r.number + 1)) (reply (answered_reply (resolver_answered r)))
answer-body_sync_packets schema r None = refl
answer-body_sync_packets schema r (Some vs) = refl

answer-body_agree : (schema : Schema) (r : Resolver) (vs : Option Values) → PacketAgrees schema (message (reply_to (resolver_answered r) (answers.answer_body vs)))
answer-body_agree schema r None = tt
answer-body_agree schema r (Some vs) = tt

resolved : (schema : Schema) (rows : HasSoundRows schema) (e : End) (stack : List SyncFrame) (link : List Packet) (by : Answering) (vs : Option Values) (r : Resolver) → IsOpenEnd schema e stack → answers.resolver_used e by ≡ Some r → SyncStep schema e stack link link (answers.resolved by vs r (beginning e))
resolved schema rows e stack link by vs r h is =
    let next : End = answers.without_resolver by e in
    let p : Packet = message (reply_to (resolver_answered r) (answers.answer_body vs)) in
    let begun : Output = on_end (answers.without_resolver by) (line (answers.answering_line r.seq vs) (beginning e)) in
    let open_end : IsOpenEnd schema next stack = without-open schema e by stack h in
    let nothing : sync_packet schema p ≡ [] = answer-body_sync_packets schema r vs ∙ ap (λ (b : Bool). listed b (reply (answered_reply (resolver_answered r)))) (used-resolver schema rows e stack by r h is) in
    let a = at-put schema p (answer-body_agree schema r vs) (track_of next) begun (at-beginning schema next stack open_end) in
    then-keeps schema e next stack link (put p begun) (without-arrived e by) open_end
    (at-sent schema (track_of next) (sync_packet schema p) [] (put p begun).end (put p begun).packets nothing a)

answered-unless : (schema : Schema) (rows : HasSoundRows schema) (e : End) (stack : List SyncFrame) (link : List Packet) (cause : Option SendRefusal) (by : Answering) (vs : Option Values) (r : Option Resolver) → IsOpenEnd schema e stack → answers.resolver_used e by ≡ r → SyncStep schema e stack link link (answers.answered_unless cause by vs r (beginning e))
answered-unless schema rows e stack link (Some cause) by vs r h is = keeps-sync_step schema e stack link (line (answers.refused_line cause vs) (beginning e)) h (at-beginning schema e stack h)
answered-unless schema rows e stack link None by vs None h is = keeps-sync_step schema e stack link (line (answers.refused_line refusal.DeadActor vs) (beginning e)) h (at-beginning schema e stack h)
answered-unless schema rows e stack link None by vs (Some r) h is = resolved schema rows e stack link by vs r h is

pub answered : (schema : Schema) (rows : HasSoundRows schema) (e : End) (stack : List SyncFrame) (link : List Packet) (row : MessageRow) (by : Answering) (vs : Option Values) → IsOpenEnd schema e stack → SyncStep schema e stack link link (answers.answer schema e row by vs (beginning e))
answered schema rows e stack link row by vs h = answered-unless schema rows e stack link (answers.answer_refusal schema e row by vs) by vs (answers.resolver_used e by) h refl

-- Names

kept-holds_at : (schema : Schema) (b : Bool) (r : Resolver) → is_sync_number schema (r.number + 1) ≡ false → MayHold schema (if b then None else Some (resolver r))
kept-holds_at schema true r h = tt
kept-holds_at schema false r h = h

kept-holds : (schema : Schema) (e : End) (found : Option Resolver) → ((r : Resolver) → found ≡ Some r → is_sync_number schema (r.number + 1) ≡ false) → MayHold schema (option_and_then (answers.kept_by e) found)
kept-holds schema e None h = tt
kept-holds schema e (Some r) h = kept-holds_at schema (is_closed e.state) r (h r refl)

pub keeps : (schema : Schema) (rows : HasSoundRows schema) (e : End) (stack : List SyncFrame) (link : List Packet) (seq : ℤ) (name : List ℕ) → IsOpenEnd schema e stack → SyncStep schema e stack link link (answers.keep e seq name (beginning e))
keeps schema rows e stack link seq name h =
    let next : End = record e { stack = answers.released seq e.stack } in
    let open_end : IsOpenEnd schema next stack = released-open schema e seq stack h in
    let holds : Option NameContent = option_and_then (answers.kept_by e) (answers.handled_resolver e seq) in
    let agrees : MayHold schema holds = kept-holds schema e (answers.handled_resolver e seq) (λ r is. handled-resolver schema rows e seq r h.entries is) in
    then-keeps schema e next stack link (answers.keep e seq name (beginning e)) refl open_end
    (keeps-renamed schema name holds agrees (track_of next) (on_end (λ e. record e { stack = answers.released seq e.stack }) (line (what.Keep seq name) (beginning e))) (at-beginning schema next stack open_end))

named-holds : (schema : Schema) (b : Bool) (id : ℤ) → MayHold schema (if b then Some (actor id) else None)
named-holds schema true id = tt
named-holds schema false id = tt

pub named : (schema : Schema) (e : End) (stack : List SyncFrame) (link : List Packet) (name : List ℕ) (id : ℤ) → IsOpenEnd schema e stack → SyncStep schema e stack link link (acts.name_actor name id (beginning e))
named schema e stack link name id h =
    let holds : Option NameContent = if acts.is_positive id then Some (actor id) else None in
    let told : Output = line (what.Let name (if acts.is_positive id then id else pos 0)) (beginning e) in
    keeps-sync_step schema e stack link (acts.name_actor name id (beginning e)) h (keeps-renamed schema name holds (named-holds schema (acts.is_positive id) id) (track_of e) told (at-beginning schema e stack h))

-- The end of an end

second_test : {A : Type 0} (a b : Bool) (x y : A) → cond (not a) (Some x) (cond b (Some y) None) ≡ None → b ≡ false
second_test true false x y e = refl
second_test true true x y e = cc
second_test false b x y e = cc

close-unless : (schema : Schema) (e : End) (stack : List SyncFrame) (link : List Packet) (cause : Option SendRefusal) → acts.close_refusal e ≡ cause → IsOpenEnd schema e stack → SyncStep schema e stack link link (acts.close_unless cause (beginning e))
close-unless schema e stack link (Some cause) is h = keeps-sync_step schema e stack link (line (what.RefusedClose cause) (beginning e)) h (at-beginning schema e stack h)
close-unless schema e stack link None is h =
    let a = at-put schema (message acts.goodbye) tt (track_of e) (line what.Close (beginning e)) (at-beginning schema e stack h) in
    ends refl (λ k. cc) (no_waits (frames_of e) (second_test (is_open e.state) (has_wait (frames_of e)) refusal.Closed refusal.InCall is)) (ends-following (map message e.outbox) (message acts.goodbye ∷ []) (empty-goes_on schema (map message e.outbox) h.outbox) (last_alone refl)) a.sent_is a.agree

pub closes : (schema : Schema) (e : End) (stack : List SyncFrame) (link : List Packet) → IsOpenEnd schema e stack → SyncStep schema e stack link link (acts.close e (beginning e))
closes schema e stack link h = close-unless schema e stack link (acts.close_refusal e) refl h

pub dies : (schema : Schema) (e : End) (stack : List SyncFrame) (link : List Packet) → IsOpenEnd schema e stack → SyncStep schema e stack link link (acts.die (beginning e))
dies schema e stack link h =
    let told : Output = line what.Die (beginning e) in
    let a = at-put schema mark tt (track_of e) told (at-beginning schema e stack h) in
    let same_output : when_open (put mark) told ≡ put mark told = ap (λ (s : EndState). when (is_open s) (put mark) told) h.state in
    ends refl (λ k. cc) tt (subst (λ (o : Output). EndsInLastPacket o.packets) (sym same_output) (ends-following (map message e.outbox) (mark ∷ []) (empty-goes_on schema (map message e.outbox) h.outbox) (last_alone refl))) (ap (λ (o : Output). sync_packets schema o.packets) same_output ∙ a.sent_is) (subst (λ (o : Output). AllByRecursion (PacketAgrees schema) o.packets) (sym same_output) a.agree)
