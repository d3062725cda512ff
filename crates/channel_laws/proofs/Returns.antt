-- Handlers that return, calls that continue and the outbox, at an open end.
use Rattle.std.proofs.Common.{◌≡◌, ℕ, ◌+◌, ℤ, Bool, true, false, List, [], ◌∷◌, drop, Option, Some, None, refl, sym, ap, subst, ◌∙◌}
use Rattle.std.proofs.lemmas.Option.{same_Some}
use Rattle.std.specs.List.{AllByRecursion}
use Rattle.ipdl_base.specs.declared.line.What.TheVariants as what
use Rattle.ipdl_base.specs.declared.kinds.Side.{Side}
use Rattle.ipdl_base.specs.declared.schema.MessageRow.{MessageRow}
use Rattle.ipdl_base.specs.declared.schema.Schema.{Schema}
use Rattle.ipdl_base.specs.declared.value.Values.{Values}
use Rattle.nesting_core.specs.declared.frame.Answer.{Answer}
use Rattle.nesting_core.specs.declared.frame.StackFrame.{StackFrame}
use Rattle.nesting_core.specs.declared.frame.StackFrame.TheVariants.{Dispatch, Wait}
use Rattle.nesting_core.specs.declared.frame.Head.{Head}
use Rattle.nesting_core.specs.Frames.{head_of}
use Rattle.channel_model.specs.Answers as answers
use Rattle.channel_model.specs.Ends.{End, StackEntry, Packet}
use Rattle.channel_model.specs.Falls.{deletes}
use Rattle.channel_model.specs.Numbers.{request_row, is_sync_row}
use Rattle.channel_model.specs.Outputs.{Output, Change, beginning, when, line, answered, destroyed}
use Rattle.channel_model.specs.Returns as returns
use Rattle.nesting_laws.specs.Steps as sync_step
use Rattle.channel_laws.proofs.Sends.{when-true, keeps-when_not}
use Rattle.channel_laws.proofs.SyncSteps.{SyncStep, no_step, track_of, at-open, track-steps, at-start}
use Rattle.channel_laws.proofs.Track.{Track, IsOnTrack, keeps-when, keeps-chain, at-sent, at-answered, keeps-destroyed, keeps-deletes, answered_reply}
use Rattle.channel_laws.specs.OpenEnds.{EntryAgrees, IsOpenEnd}
use Rattle.channel_laws.specs.SyncCalls.{is_sync_number, listed, call_of_head, sync_calls}
use Rattle.channel_laws.specs.SyncStack.{empty, async_base, handles, Shows, no_answer, cpow_on_top, has_answer, no_cpow, entry_of}
use Rattle.nesting_laws.specs.Calls.{Call, dispatch, reply, reply_of, SyncFrame}
use Rattle.nesting_laws.specs.Steps.{Step}
use Rattle.channel_laws.specs.Rows.{HasSoundRows}

-- Handlers that return

-- what is shown below a dispatch that is removed
data BelowDispatch (side : Side) (head : Head) (route : ℤ) (number : ℕ) (entries : List StackEntry) : List SyncFrame → Type 0 where
  was_sync : {below : List SyncFrame} → head.sync ≡ true → Shows side entries below → BelowDispatch side head route number entries (dispatch (call_of_head route number head) ∷ below)
  was_async : {stack : List SyncFrame} → head.sync ≡ false → Shows side entries stack → BelowDispatch side head route number entries stack

popped : (side : Side) {head : Head} {route : ℤ} {number : ℕ} {resolves : Bool} {entries : List StackEntry} {stack : List SyncFrame} → Shows side (entry_of (Dispatch head) route number resolves ∷ entries) stack → BelowDispatch side head route number entries stack
popped side (no_cpow (no_answer (async_base s n))) = was_async s (no_cpow (no_answer empty))
popped side (no_cpow (no_answer (handles s p))) = was_sync s (no_cpow (no_answer p))
popped side (cpow_on_top s e a) = was_async s (no_cpow a)

-- the entry on top, if it is a dispatch
record IsOnTop (stack : List StackEntry) (entry : StackEntry) : Type 0 where
  head : Head
  frame : entry.frame ≡ Dispatch head
  whole : stack ≡ entry_of (Dispatch head) entry.route entry.number entry.resolves ∷ drop 1 stack

on_top_at : (first : StackEntry) (below : List StackEntry) (f : StackFrame) (entry : StackEntry) → first.frame ≡ f → (elim f as (λ x. Option StackEntry) [ Dispatch head ↦ Some first | Wait head a ↦ None ]) ≡ Some entry → IsOnTop (first ∷ below) entry
on_top_at first below (Dispatch head) entry is e =
    let s : first ≡ entry = same_Some first entry e in
    let f : entry.frame ≡ Dispatch head = ap (λ (x : StackEntry). x.frame) (sym s) ∙ is in
    record { head = head; frame = f; whole = ap (λ (x : StackEntry). x ∷ below) s ∙ ap (λ (x : StackFrame). entry_of x entry.route entry.number entry.resolves ∷ below) f }
on_top_at first below (Wait head a) entry is e = cc

on_top : (stack : List StackEntry) (entry : StackEntry) → returns.dispatch_on_top stack ≡ Some entry → IsOnTop stack entry
on_top [] entry e = cc
on_top (first ∷ below) entry e = on_top_at first below first.frame entry refl e

at-popped : (schema : Schema) (e : End) (stack : List SyncFrame) → IsOpenEnd schema e stack → IsOnTrack schema (record (track_of e) { stack = drop 1 e.stack }) (record e { stack = drop 1 e.stack }) []
at-popped schema e stack h = at-start schema e (record e { stack = drop 1 e.stack }) stack refl refl refl h

entries-popped : (schema : Schema) (stack : List StackEntry) → AllByRecursion (EntryAgrees schema) stack → AllByRecursion (EntryAgrees schema) (drop 1 stack)
entries-popped schema [] h = tt
entries-popped schema (entry ∷ stack) h = h.1

module _ (schema : Schema) (rows : HasSoundRows schema) (e : End) (stack : List SyncFrame) (link : List Packet) (h : IsOpenEnd schema e stack) (entry : StackEntry) (row : MessageRow) (top : returns.dispatch_on_top e.stack ≡ Some entry) (found : request_row schema entry.number ≡ Some row) (vs : Option Values) where
  abbrev below_track : Track
  below_track = record (track_of e) { stack = drop 1 e.stack }

  there : IsOnTop e.stack entry
  there = on_top e.stack entry top

  entry-agree : EntryAgrees schema entry
  entry-agree = subst (λ (f : StackFrame). EntryAgrees schema (entry_of f entry.route entry.number entry.resolves)) (sym there.frame) (subst (AllByRecursion (EntryAgrees schema)) there.whole h.entries).0

  -- the frame shows whether the row is sync
  row-sync : is_sync_row row ≡ there.head.sync
  row-sync =
      let f = entry-agree in
      ap is_sync_row (same_Some row f.row (sym found ∙ f.found)) ∙ (f.is_sync ∙ ap (λ (x : StackFrame). (head_of x).sync) there.frame)

  below-shown : BelowDispatch e.side there.head entry.route entry.number (drop 1 e.stack) stack
  below-shown = popped e.side (subst (λ (s : List StackEntry). Shows e.side s stack) there.whole h.shows)

  abbrev replies : Change
  replies = answered (returns.dispatch_answered entry) (returns.return_answer schema e row entry vs)

  abbrev came_off : Output
  came_off = line (what.Return (head_of entry.frame).seq) (returns.popped (beginning e))

  not_resolves : (b : Bool) → entry.resolves ≡ b → is_sync_row row ≡ true → entry.resolves ≡ false
  not_resolves false r is = r
  not_resolves true r is = let f : (head_of entry.frame).sync ≡ false = entry-agree.resolves r in let k : true ≡ false = sym is ∙ (row-sync ∙ (sym (ap (λ (x : StackFrame). (head_of x).sync) there.frame) ∙ f)) in cc

  return-shown : {shown' : List SyncFrame} → BelowDispatch e.side there.head entry.route entry.number (drop 1 e.stack) shown' → shown' ≡ stack → SyncStep schema e stack link link (returns.return schema e row entry vs (beginning e))
  return-shown (was_sync {below} s shows) whole =
      let is : is_sync_row row ≡ true = row-sync ∙ s in
      let replied : is_sync_number schema (entry.number + 1) ≡ true = (rows entry.number row found).reply_sync ∙ is in
      let q : Call = call_of_head entry.route entry.number there.head in
      let sent = at-sent schema below_track (listed (is_sync_number schema (entry.number + 1)) (reply (answered_reply (returns.dispatch_answered entry)))) (reply (reply_of q) ∷ []) (replies came_off).end (replies came_off).packets
      (ap (λ (b : Bool). listed b (reply (answered_reply (returns.dispatch_answered entry)))) replied ∙ ap (λ (f : StackFrame). reply (record { seq = (head_of f).seq; route = entry.route; number = entry.number + 1 }) ∷ []) there.frame)
      (at-answered schema (returns.dispatch_answered entry) (returns.return_answer schema e row entry vs) below_track came_off (at-popped schema e stack h)) in
      let w : Track = record below_track { sent = reply (reply_of q) ∷ [] } in
      let first = subst (λ (o : Output). IsOnTrack schema w o.end o.packets) (sym (when-true (is_sync_row row) replies came_off is)) sent in
      let rest = keeps-chain schema (when entry.resolves (destroyed (answers.resolver_in entry))) (deletes entry.route row.kind)
      (keeps-when_not schema entry.resolves (destroyed (answers.resolver_in entry)) (not_resolves entry.resolves refl is)) (keeps-deletes schema entry.route row.kind) w (when (is_sync_row row) replies came_off) first in
      subst (λ (s : List SyncFrame). SyncStep schema e s link link (returns.return schema e row entry vs (beginning e))) whole
      (track-steps schema e (dispatch q ∷ below) below link w (returns.return schema e row entry vs (beginning e)) rest shows (entries-popped schema e.stack h.entries) h.arrived sync_step.returns)
  return-shown (was_async s shows) whole =
      let is : is_sync_row row ≡ false = row-sync ∙ s in
      let replied : is_sync_number schema (entry.number + 1) ≡ false = (rows entry.number row found).reply_sync ∙ is in
      let first = keeps-when_not schema (is_sync_row row) replies is below_track came_off (at-popped schema e stack h) in
      let rest = keeps-chain schema (when entry.resolves (destroyed (answers.resolver_in entry))) (deletes entry.route row.kind)
      (keeps-when schema entry.resolves (destroyed (answers.resolver_in entry)) (keeps-destroyed schema (answers.resolver_in entry) replied)) (keeps-deletes schema entry.route row.kind) below_track (when (is_sync_row row) replies came_off) first in
      let o : Output = returns.return schema e row entry vs (beginning e) in
      no_step (at-open schema below_track o.end o.packets stack rest (subst (λ (s : List SyncFrame). Shows e.side (drop 1 e.stack) s) whole shows) (entries-popped schema e.stack h.entries) h.arrived) (ap sync_calls rest.arrived_is) refl rest.sent_is rest.agree

  pub returned : SyncStep schema e stack link link (returns.return schema e row entry vs (beginning e))
  returned = return-shown below-shown refl

-- Calls that continue

resumed_at : (side : Side) {head : Head} {a : Answer} {route : ℤ} {number : ℕ} {resolves : Bool} {entries : List StackEntry} {stack : List SyncFrame} → Shows side (entry_of (Wait head (Some a)) route number resolves ∷ entries) stack → Shows side entries stack
resumed_at side (no_cpow (no_answer p)) = elim p [ ]
resumed_at side (no_cpow (has_answer f p)) = no_cpow (no_answer p)

resumed-shows_at : (side : Side) (f : StackFrame) (route : ℤ) (number : ℕ) (resolves : Bool) (entries : List StackEntry) (stack : List SyncFrame) (w : returns.AnsweredWait) → returns.answered_wait_of number f ≡ Some w → Shows side (entry_of f route number resolves ∷ entries) stack → Shows side entries stack
resumed-shows_at side (Dispatch head) route number resolves entries stack w e h = cc
resumed-shows_at side (Wait head None) route number resolves entries stack w e h = cc
resumed-shows_at side (Wait head (Some a)) route number resolves entries stack w e h = resumed_at side h

resumed-shows : (side : Side) (entries : List StackEntry) (stack : List SyncFrame) (w : returns.AnsweredWait) → returns.answered_wait_on_top entries ≡ Some w → Shows side entries stack → Shows side (drop 1 entries) stack
resumed-shows side [] stack w e h = cc
resumed-shows side (entry ∷ below) stack w e h = resumed-shows_at side entry.frame entry.route entry.number entry.resolves below stack w e h

pub resumed : (schema : Schema) (e : End) (stack : List SyncFrame) (link : List Packet) → IsOpenEnd schema e stack → (w : returns.AnsweredWait) (row : MessageRow) → returns.answered_wait_on_top e.stack ≡ Some w → SyncStep schema e stack link link (returns.resume schema e w row (beginning e))
resumed schema e stack link h w row top =
    let o : Output = returns.resume schema e w row (beginning e) in
    let a = at-popped schema e stack h in
    no_step (at-open schema (record (track_of e) { stack = drop 1 e.stack }) o.end o.packets stack a (resumed-shows e.side e.stack stack w top h.shows) (entries-popped schema e.stack h.entries) h.arrived) refl refl refl tt

-- The outbox

pub flushed : (schema : Schema) (e : End) (stack : List SyncFrame) (link : List Packet) → IsOpenEnd schema e stack → SyncStep schema e stack link link (returns.flush (beginning e))
flushed schema e stack link h =
    let o : Output = returns.flush (beginning e) in
    no_step (record { state = h.state; shows = h.shows; entries = h.entries; arrived = h.arrived; names = h.names; outbox = refl; waiting = tt }) refl refl h.outbox h.waiting
