-- The weights of the parts of a step: what happens by itself lowers the weight, and an act adds a bounded amount.
use Rattle.std.proofs.Common.{◌≡◌, ℕ, ◌+◌, ◌*◌, ◌≤◌, ℤ, Bool, true, false, not, ◌&&◌, cond, if◌then◌else◌, List, [], ◌∷◌, ◌++◌, drop, length, Option, Some, None, is_some, refl, sym, ap, subst, ◌∙◌, arith}
use Rattle.std.specs.List.{AllByRecursion}
use Rattle.std.proofs.lemmas.List.{length-append}
use Rattle.std.proofs.lemmas.Option.{same_Some}
use Rattle.ipdl_base.specs.declared.line.What.{What}
use Rattle.ipdl_base.specs.declared.line.What.TheVariants as what
use Rattle.ipdl_base.specs.declared.kinds.Reason.TheVariants as reason
use Rattle.ipdl_base.specs.declared.message.Body.TheVariants.{Request}
use Rattle.ipdl_base.specs.declared.message.Message.{Message}
use Rattle.ipdl_base.specs.declared.schema.MessageRow.{MessageRow}
use Rattle.ipdl_base.specs.declared.schema.Schema.{Schema}
use Rattle.ipdl_base.specs.declared.value.Values.{Values}
use Rattle.nesting_core.specs.declared.frame.Answer.{Answer}
use Rattle.nesting_core.specs.declared.frame.Answer.TheVariants as answer
use Rattle.nesting_core.specs.declared.frame.StackFrame.{StackFrame}
use Rattle.nesting_core.specs.declared.frame.StackFrame.TheVariants.{Dispatch, Wait}
use Rattle.nesting_core.specs.Frames.{head_of}
use Rattle.pending_queue.specs.declared.item.Item.{Item}
use Rattle.pending_queue.specs.declared.item.Item.TheVariants as item
use Rattle.pending_queue.specs.Compression.{replaced, staying}
use Rattle.channel_model.specs.Acts.{goodbye}
use Rattle.channel_model.specs.Answers as answering
use Rattle.channel_model.specs.Deliveries as delivery
use Rattle.channel_model.specs.Ends.{End, Packet, message, mark, StackEntry, resolver}
use Rattle.channel_model.specs.Events.{Answering, handled, kept}
use Rattle.channel_model.specs.Names.{has_name, is_actor}
use Rattle.channel_model.specs.Numbers.{is_sync_row, makes_promise, request_row}
use Rattle.channel_model.specs.Outputs.{AnsweredRequest, request_answered, resolver_answered, reply_to, is_open}
use Rattle.channel_model.specs.Parts
use Rattle.channel_model.specs.Parts.{FirstPart, LaterPart, LaterParts, OwnParts, DeliveryPart, IsRefusal, IsRenaming, after_outbox, reply_packet, reply_packets, end_after, fallen_end, outbox_after, request_packets, shut_line}
use Rattle.channel_model.specs.Phases.{Phase}
use Rattle.channel_model.specs.Returns as return
use Rattle.channel_model.specs.Sends as send
use Rattle.channel_laws.specs.Counts.{one_if}
use Rattle.channel_laws.specs.OpenEnds.{EntryAgrees}
use Rattle.channel_laws.specs.Rows.{HasSoundRows}
use Rattle.channel_laws.proofs.ArrivalParts.{staying-all}
use Rattle.channel_laws.proofs.Replacing.{Replaces, replaced-taken, alike-request}
use Rattle.progress_laws.specs.Acts.{tells_by_itself}
use Rattle.progress_laws.specs.Weights.{owed, body_weight, packet_weight, item_weight, entry_weight, total, naming_weight}
use Rattle.progress_laws.proofs.Weighing.{total-append, total-taken, at-least, outbox-weight, following-weight, reply-weight, given-weight, reply-body, farewell-weight, item-least, request-item, left-weight, released-weight, given-away, failed-weight, answered-weight, dispatch-weight, wait-weight, end_with, filter-weight, actors-weight, lost-weight}

-- All is shown for two weights of a kept resolver at once: k is the weight, 0 or 2, and j is 2 - k, which its answer
-- adds when it is used or destroyed.

-- what a phase may still add: the answer of a resolver whose name gets a new content
abbrev pub allowed : ℕ → Phase → ℕ
allowed j p = cond p.renames j 0

-- what a part sends and leaves, with what its phase may still add, is at most a weight
abbrev pub Within : ℕ → ℕ → ℕ → List Packet → End → Phase → Type 0
Within k j n ps f q = total packet_weight ps + (end_with k f + allowed j q) ≤ n

module _ (k j : ℕ) (two : k + j ≡ 2) where
  -- Later parts

  later-within : {p q : Phase} {e f : End} {ws : List What} {ps : List Packet} → LaterPart p e ws ps f q → Within k j (end_with k e + allowed j p) ps f q
  later-within {p} {e} (Parts.unnames name may silent) = omega (arith, filter-weight (naming_weight k) (λ naming. not (has_name name naming)) e.names)
  later-within {p} {e} (Parts.lets_go name r may is open_is) =
      let b : allowed j p ≡ j = ap (λ (x : Bool). cond x j 0) may in
      omega (arith, two, b, following-weight e (reply_packet (resolver_answered r) (answer.Fault reason.ResolverDestroyed)), lost-weight k name e.names r is)
  later-within {p} {e} (Parts.names more actors) = omega (arith, total-append (naming_weight k) e.names more, actors-weight k more actors)
  later-within {p} {e} (Parts.releases seq closed) = omega (arith, released-weight seq e.stack)
  later-within {p} {e} (Parts.keeps seq name r is closed) =
      omega (arith, two, given-away seq e.stack r is, total-append (naming_weight k) e.names (record { name = name; holds = resolver r } ∷ []))
  later-within (Parts.builds id protocol rest is built) = omega arith
  later-within (Parts.deletes id cause) = omega arith
  later-within (Parts.falls why cause) = omega arith

  laters-within : {p q : Phase} {e f : End} {ws : List What} {ps : List Packet} → LaterParts p e ws ps f q → Within k j (end_with k e + allowed j p) ps f q
  laters-within Parts.done = omega arith
  laters-within (Parts.then {ps} {qs} part rest) =
      let a = later-within part in
      let b = laters-within rest in
      omega (arith, a, b, total-append packet_weight ps qs)

-- Requests that are sent

request-weight : (lazy : Bool) (e : End) (m : Message) → total packet_weight (request_packets lazy e m) + 6 * length (outbox_after lazy m e.outbox) ≤ 6 * length e.outbox + cond lazy 6 5
request-weight true e m = omega (arith, length-append e.outbox (m ∷ []))
request-weight false e m = let k : total packet_weight (after_outbox e (message m)) ≤ 5 * length e.outbox + packet_weight (message m) = following-weight e (message m) in let l = most m in omega (arith, k, l)
  where
    most : (m : Message) → packet_weight (message m) ≤ 5
    most m = let k = outbox-weight (m ∷ []) in omega (arith, k)

wait-if : (b : Bool) (row : MessageRow) (m : Message) (stack : List StackEntry) → total entry_weight (cond b (send.wait_for row m ∷ stack) stack) ≡ one_if b + total entry_weight stack
wait-if true row m stack = refl
wait-if false row m stack = omega arith

lazy-or-sync : (lazy sync : Bool) → (lazy ≡ true → sync ≡ false) → cond lazy 6 5 + one_if sync ≤ 6
lazy-or-sync true true h = let k : true ≡ false = h refl in cc
lazy-or-sync true false h = omega arith
lazy-or-sync false true h = omega arith
lazy-or-sync false false h = omega arith

-- Answers

used-end : (k : ℕ) (by : Answering) (e : End) → total item_weight (answering.without_resolver by e).arrived + (total entry_weight (answering.without_resolver by e).stack + total (naming_weight k) (answering.without_resolver by e).names) ≤ total item_weight e.arrived + (total entry_weight e.stack + total (naming_weight k) e.names)
used-end k (handled seq) e = omega (arith, released-weight seq e.stack)
used-end k (kept name number) e = omega (arith, filter-weight (naming_weight k) (λ naming. not (has_name name naming)) e.names)

-- an answer, if there is one, sent after all that waits in the outbox
pub answer-weight : (k : ℕ) (b : Bool) (e f : End) (q : AnsweredRequest) (a : Answer) → f.outbox ≡ e.outbox → total packet_weight (reply_packets b e q a) + end_with k (end_after b f) ≤ end_with k f + owed b
answer-weight n true e f q a same =
    let k = following-weight e (reply_packet q a) in
    let l : length f.outbox ≡ length e.outbox = ap length same in
    omega (arith, k, l, reply-weight q a)
answer-weight n false e f q a same = omega arith

-- Returns

-- the entries of an open end agree with the rows of their requests
abbrev pub HasAgreeing : Schema → End → Type 0
HasAgreeing schema e = is_open e.state ≡ true → AllByRecursion (EntryAgrees schema) e.stack

top-agrees : (schema : Schema) (stack : List StackEntry) (entry : StackEntry) → return.dispatch_on_top stack ≡ Some entry → AllByRecursion (EntryAgrees schema) stack → EntryAgrees schema entry
top-agrees schema [] entry is h = cc
top-agrees schema (first ∷ stack) entry is h = by first.frame is
  where
    by : (f : StackFrame) → elim f [ Dispatch head ↦ Some first | Wait head a ↦ None ] ≡ Some entry → EntryAgrees schema entry
    by (Dispatch head) is = subst (EntryAgrees schema) (same_Some first entry is) h.0
    by (Wait head a) is = cc

-- the dispatch of a request is sync as its row is
sync-alike : (schema : Schema) (entry : StackEntry) (row : MessageRow) → EntryAgrees schema entry → request_row schema entry.number ≡ Some row → is_sync_row row ≡ (head_of entry.frame).sync
sync-alike schema entry row h found = ap is_sync_row (same_Some row h.row (sym found ∙ h.found)) ∙ h.is_sync

-- only a request that needs a reply gets one
paid : (open_end sync owes : Bool) → (open_end ≡ true → sync ≡ owes) → owed (open_end && sync) ≤ owed owes
paid true true true h = omega arith
paid true true false h = let k : true ≡ false = h refl in cc
paid true false owes h = omega arith
paid false sync owes h = omega arith

-- a dispatch owes at most one reply
sync-or-promise : (row : MessageRow) → owed (is_sync_row row) + owed (makes_promise row) ≤ 2
sync-or-promise row = by (is_sync_row row) (is_some row.returns)
  where
    by : (b c : Bool) → owed b + owed (not b && c) ≤ 2
    by true c = omega arith
    by false true = omega arith
    by false false = omega arith

following-weighs : (b : Bool) (e : End) → (end_after b (record e { stack = drop 1 e.stack })).outbox ≡ (end_after b e).outbox
following-weighs true e = refl
following-weighs false e = refl

-- First parts

one-most : (b : Bool) → one_if b ≤ 1
one-most true = omega arith
one-most false = omega arith

two-most : (b : Bool) → owed b ≤ 2
two-most true = omega arith
two-most false = omega arith

-- whether a line is that of a flush
abbrev pub is_flush : What → Bool
is_flush (what.Flush n) = true
is_flush _ = false

-- A part whose first line is that of an act adds at most 6 + j. A part whose first line is that of an event that
-- happens by itself lowers the weight, except that a flush may leave it the same, since its part does not require a
-- non-empty outbox.
abbrev pub Leaves : ℕ → ℕ → What → ℕ → List Packet → End → Phase → Type 0
Leaves k j w n ps f q = total packet_weight ps + (end_with k f + allowed j q) + one_if (tells_by_itself w && not (is_flush w)) ≤ n + cond (tells_by_itself w) 0 (6 + j)

abbrev pub Begins : ℕ → ℕ → ℕ → List What → List Packet → End → Phase → Type 0
Begins k j n [] ps f q = ⊥
Begins k j n (w ∷ ws) ps f q = Leaves k j w n ps f q

act-leaves : (k j : ℕ) (w : What) (n : ℕ) (ps : List Packet) (f : End) (q : Phase) → tells_by_itself w ≡ false → Within k j (n + (6 + j)) ps f q → Leaves k j w n ps f q
act-leaves k j w n ps f q act h =
    let a : one_if (tells_by_itself w && not (is_flush w)) ≡ 0 = ap (λ (b : Bool). one_if (b && not (is_flush w))) act in
    let b : cond (tells_by_itself w) 0 (6 + j) ≡ 6 + j = ap (λ (b : Bool). cond b 0 (6 + j)) act in
    omega (arith, a, b, h)

own-leaves : (k j : ℕ) (w : What) (n : ℕ) (ps : List Packet) (f : End) (q : Phase) → tells_by_itself w ≡ true → total packet_weight ps + (end_with k f + allowed j q) + 1 ≤ n → Leaves k j w n ps f q
own-leaves k j w n ps f q own h = by (is_flush w)
  where
    by : (b : Bool) → total packet_weight ps + (end_with k f + allowed j q) + one_if (tells_by_itself w && not b) ≤ n + cond (tells_by_itself w) 0 (6 + j)
    by b = let a : one_if (tells_by_itself w && not b) ≡ one_if (not b) = ap (λ (c : Bool). one_if (c && not b)) own in let l = one-most (not b) in omega (arith, a, l, h)

refusal-acts : (schema : Schema) (w : What) → IsRefusal schema w → tells_by_itself w ≡ false
refusal-acts schema (what.RefusedSend cause number) h = refl
refusal-acts schema (what.RefusedClose cause) h = refl
refusal-acts schema (what.RefusedResolve cause) h = refl
refusal-acts schema (what.RefusedReject cause) h = refl
refusal-acts schema _ h = absurd h

renaming-acts : (w : What) → IsRenaming w → tells_by_itself w ≡ false
renaming-acts (what.Keep seq name) h = refl
renaming-acts (what.Let name id) h = refl
renaming-acts _ h = absurd h

pub send-acts : (sync : Bool) (m : Message) (vs : Values) → tells_by_itself (if sync then what.Call m.seq m.transaction m.route m.number vs else what.Send m.seq m.route m.number vs) ≡ false
send-acts true m vs = refl
send-acts false m vs = refl

pub answering-acts : (seq : ℤ) (vs : Option Values) → tells_by_itself (answering.answering_line seq vs) ≡ false
answering-acts seq None = refl
answering-acts seq (Some vs) = refl

pub shuts-itself : (last : Item) → (tells_by_itself (shut_line last) ≡ true) × (is_flush (shut_line last) ≡ false)
shuts-itself (item.Message m sync level) = (refl, refl)
shuts-itself item.Broken = (refl, refl)

pub resumes-itself : (seq : ℤ) (a : Answer) → (tells_by_itself (return.resume_line seq a) ≡ true) × (is_flush (return.resume_line seq a) ≡ false)
resumes-itself seq (answer.Ok vs) = (refl, refl)
resumes-itself seq (answer.Fault why) = (refl, refl)

module _ (k j : ℕ) (two : k + j ≡ 2) (schema : Schema) (rows : HasSoundRows schema) (e : End) (agrees : HasAgreeing schema e) where
  first-leaves : {p : Phase} {f : End} {ws : List What} {ps : List Packet} → FirstPart schema e ws ps f p → Begins k j (end_with k e) ws ps f p
  first-leaves {p} {f} {ps} (Parts.refuses w is) = act-leaves k j w (end_with k e) ps f p (refusal-acts schema w is) (omega arith)
  first-leaves {p} {f} {ps} (Parts.renames w is) = act-leaves k j w (end_with k e) ps f p (renaming-acts w is) (omega arith)
  first-leaves (Parts.flushes open_is) = omega (arith, outbox-weight e.outbox)
  first-leaves {p} {f} {ps} (Parts.sends row route vs name sent) =
      let m : Message = send.request_of e row route vs in
      let lazy = lazy-or-sync row.lazy (is_sync_row row) (rows row.number row sent.found).lazy in
      act-leaves k j (send.send_line row m vs) (end_with k e) ps f p (send-acts (is_sync_row row) m vs)
      (omega (arith, request-weight row.lazy e m, wait-if (is_sync_row row) row m e.stack, lazy))
  first-leaves {p} {f} {ps} (Parts.answers by vs r row found may ok is) =
      act-leaves k j (answering.answering_line r.seq vs) (end_with k e) ps f p (answering-acts r.seq vs)
      (omega (arith, following-weight e (message (reply_to (resolver_answered r) (answering.answer_body vs))), given-weight (resolver_answered r) vs, used-end k by e))
  first-leaves (Parts.closes open_is none) = omega (arith, following-weight e (message goodbye), filter-weight (naming_weight k) is_actor e.names)
  first-leaves (Parts.dies open_is) = omega (arith, following-weight e mark)
  first-leaves (Parts.dies_silent open_is alive) = omega arith
  first-leaves (Parts.takes m sync level row vs next body found stays) =
      let b : body_weight 4 1 m.body ≡ 4 = ap (body_weight 4 1) body in
      let l = left-weight e (item.Message m sync level) next in
      omega (arith, b, l, sync-or-promise row)
  first-leaves (Parts.drops m sync level row vs id replies next body found gone is) =
      let b : body_weight 4 1 m.body ≡ 4 = ap (body_weight 4 1) body in
      let l = left-weight e (item.Message m sync level) next in
      let a = answer-weight k replies e (Parts.left_end e) (request_answered m) (answer.Fault reason.ActorDestroyed) refl in
      let o = two-most replies in
      omega (arith, b, l, a, o)
  first-leaves (Parts.drops_unknown m sync level vs next body none) =
      let l = left-weight e (item.Message m sync level) next in
      let i = item-least (item.Message m sync level) in
      omega (arith, l, i)
  first-leaves (Parts.takes_reply m sync level a next body late) =
      let l = left-weight e (item.Message m sync level) next in
      let i = item-least (item.Message m sync level) in
      omega (arith, l, i)
  first-leaves (Parts.settles m sync level row a next body found is) =
      let l = left-weight e (item.Message m sync level) next in
      let i = item-least (item.Message m sync level) in
      omega (arith, l, i)
  first-leaves {p} {f} {ps} (Parts.shuts last next is) =
      let l = left-weight e last next in
      let i = item-least last in
      own-leaves k j (shut_line last) (end_with k e) ps f p (shuts-itself last).0 (omega (arith, l, i, filter-weight (naming_weight k) is_actor e.names))
  first-leaves (Parts.returns entry row vs told lost returns t l) =
      let off : End = record e { stack = drop 1 e.stack } in
      let q : AnsweredRequest = return.dispatch_answered entry in
      let a : Answer = return.return_answer schema e row entry vs in
      let r : AnsweredRequest = resolver_answered (answering.resolver_in entry) in
      let c : Answer = answer.Fault reason.ResolverDestroyed in
      let told_paid = paid (is_open e.state) (is_sync_row row) (head_of entry.frame).sync (λ open_is. sync-alike schema entry row (top-agrees schema e.stack entry returns.on_top (agrees open_is)) returns.found) in
      let lost_paid = paid (is_open e.state) entry.resolves entry.resolves (λ open_is. refl) in
      let t1 : owed told ≡ owed (is_open e.state && is_sync_row row) = ap owed t in
      let l1 : owed lost ≡ owed (is_open e.state && entry.resolves) = ap owed l in
      let first = answer-weight k told e off q a refl in
      let second = answer-weight k lost (end_after told e) (end_after told off) r c (following-weighs told e) in
      let top = dispatch-weight e.stack entry returns.on_top in
      omega (arith, told_paid, lost_paid, t1, l1, first, second, top, total-append packet_weight (reply_packets told e q a) (reply_packets lost (end_after told e) r c))
  first-leaves {p} {f} {ps} (Parts.resumes wait row on_top found) =
      let top = wait-weight e.stack wait on_top in
      own-leaves k j _ (end_with k e) ps f p (resumes-itself wait.seq _).0 (omega (arith, top))

  pub own-parts_leave : {p : Phase} {f : End} {ws : List What} {ps : List Packet} → OwnParts schema e ws ps f p → Begins k j (end_with k e) ws ps f p
  own-parts_leave (Parts.begun {p} {q} {f} {g} {ws} {vs} {ps} {qs} first rest over) = by ws (first-leaves first) (laters-within k j two rest)
    where
      by : (ws : List What) → Begins k j (end_with k e) ws ps f p → Within k j (end_with k f + allowed j p) qs g q → Begins k j (end_with k e) (ws ++ vs) (ps ++ qs) g q
      by [] a b = absurd a
      by (w ∷ ws) a b = omega (arith, a, b, total-append packet_weight ps qs)

-- Deliveries

-- a request on a link, and once it has arrived
new-item : (row : MessageRow) (m : Message) (vs : Values) → m.body ≡ Request vs → (item_weight (delivery.item_of row m) ≡ 4) × (packet_weight (message m) ≡ 5)
new-item row m vs body = (ap (body_weight 4 1) body, ap (body_weight 5 2) body)

pub delivery-leaves : (k : ℕ) {schema : Schema} {packet : Packet} {p : Phase} {e f : End} {ws : List What} {ps : List Packet} → DeliveryPart schema packet e ws ps f p → total packet_weight ps + end_with k f + 1 ≤ end_with k e + packet_weight packet
delivery-leaves k {schema} {e} (Parts.gets_request m row vs body found none) =
    let new : Item = delivery.item_of row m in
    let stay : total item_weight (staying row.compress new e.arrived) ≡ total item_weight e.arrived = ap (total item_weight) (staying-all schema row new e.arrived (replaced row.compress new e.arrived) refl none) in
    let n = new-item row m vs body in
    omega (arith, stay, n.0, n.1, total-append item_weight (staying row.compress new e.arrived) (new ∷ []))
delivery-leaves k {e} (Parts.replaces m row vs old sync level replies body found rep is) =
    let new : Item = delivery.item_of row m in
    let f : End = delivery.counted row new e in
    let r : Replaces row.compress new e.arrived (item.Message old sync level) = replaced-taken row.compress new e.arrived (item.Message old sync level) rep in
    let taken = total-taken e.arrived (staying row.compress new e.arrived) (item.Message old sync level) r.taken in
    let four = request-item (item.Message old sync level) (alike-request new (item.Message old sync level) r.alike) in
    let n = new-item row m vs body in
    let a = answer-weight k replies e f (request_answered old) (answer.Fault reason.ResolverDestroyed) refl in
    let o = two-most replies in
    omega (arith, taken, four, n.0, n.1, a, o, total-append item_weight (staying row.compress new e.arrived) (new ∷ []))
delivery-leaves k {e} (Parts.gets_answer m row a body found sync) =
    let w = answered-weight a e.stack in
    let l = at-least m.body in
    omega (arith, w, l)
delivery-leaves k {e} (Parts.gets_reply m row a body found async) =
    let i = reply-body 4 1 a m.body body in
    let l = reply-body 5 2 a m.body body in
    omega (arith, i, l, total-append item_weight e.arrived (delivery.item_of row m ∷ []))
delivery-leaves k {e} (Parts.drains packet is) =
    let w = farewell-weight packet is in
    omega (arith, w.0, w.1, failed-weight e.stack, total-append item_weight e.arrived (Parts.farewell_item packet ∷ []))
delivery-leaves k (Parts.passes_by m ordinary none) = let l = at-least m.body in omega (arith, l)
