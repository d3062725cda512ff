-- What keeps an end fitting, field by field.
use Rattle.std.proofs.Common.{◌≡◌, ℕ, zero, suc, ◌-◌, ℤ, pos, Bool, true, false, not, ◌&&◌, cond, List, [], ◌∷◌, ◌++◌, drop, find, length, map, slice_get, Option, Some, None, option_map, option_and_then, refl, sym, ap, subst, ◌∙◌, int_eq}
use Rattle.std.specs.List.{AllByRecursion, list_any}
use Rattle.std.specs.Option.{option_map_or}
use Rattle.std.proofs.lemmas.Option.{same_Some}
use Rattle.actor_tree.specs.declared.actor.Actor.{Actor}
use Rattle.ipdl_base.specs.declared.kinds.Compress.{Compress}
use Rattle.ipdl_base.specs.declared.kinds.Compress.TheVariants as compress
use Rattle.ipdl_base.specs.declared.kinds.EndState.{EndState}
use Rattle.ipdl_base.specs.declared.kinds.Reason.{Reason}
use Rattle.ipdl_base.specs.declared.kinds.Semantics.{Semantics}
use Rattle.ipdl_base.specs.declared.message.Message.{Message}
use Rattle.ipdl_base.specs.declared.schema.MessageRow.{MessageRow}
use Rattle.ipdl_base.specs.declared.schema.Schema.{Schema}
use Rattle.nesting_core.specs.declared.frame.Answer.{Answer}
use Rattle.nesting_core.specs.declared.frame.StackFrame.{StackFrame}
use Rattle.nesting_core.specs.declared.frame.StackFrame.TheVariants.{Dispatch, Wait}
use Rattle.nesting_core.specs.Answers.{with_answer}
use Rattle.nesting_core.specs.Frames.{head_of, is_dispatch, is_unanswered}
use Rattle.nesting_core.specs.Top.{top_of}
use Rattle.pending_queue.specs.declared.item.Item.{Item}
use Rattle.pending_queue.specs.Compression.{are_alike, latest, replaced, staying}
use Rattle.pending_queue.specs.DeferralContext.{is_free, without_first}
use Rattle.promise_table.specs.declared.promise.Outcome.{Outcome}
use Rattle.promise_table.specs.declared.promise.Promise.{Promise}
use Rattle.promise_table.specs.Promises.{has_number, is_pending}
use Rattle.value_types.specs.Fits.{IsTransactionOf, Fits}
use Rattle.channel_model.specs.Answers as answering
use Rattle.channel_model.specs.Deliveries as delivery
use Rattle.channel_model.specs.Ends.{End, Packet, message, Resolver, NameContent, actor, resolver, Naming, StackEntry, PromiseEntry}
use Rattle.channel_model.specs.Falls as fall
use Rattle.channel_model.specs.Fitting.{IsRequestKept, FitsItem, FitsAnswer, FitsEntry, FitsPromised, FitsPromise, FitsResolver, FitsContent, FitsNaming, HasLivingId, IsFitting, FitsPacket}
use Rattle.channel_model.specs.Names.{has_name, held_by_name, without_name, without_resolvers, is_actor}
use Rattle.channel_model.specs.Numbers.{is_sync_row, makes_promise}
use Rattle.channel_model.specs.Parts.{HoldsActor, after_outbox, end_after}
use Rattle.channel_model.specs.Sends.{frames_of}
use Rattle.channel_model.specs.Takes as take
use Rattle.channel_model.proofs.Counted.{kept-frames}
use Rattle.channel_model.proofs.FittingRequests.{promise-async}
use Rattle.channel_model.proofs.FittingValues.{found-in}
use Rattle.channel_model.proofs.Known.{all-map, all-append, all-filter}
use Rattle.channel_model.proofs.Sublists.{all-sublist, without_first-sublist, staying-sublist}

-- Lists

all-mapped : {A B : Type 0} (P : A → Type 0) (Q : B → Type 0) (f : A → B) (xs : List A) → ((x : A) → P x → Q (f x)) → AllByRecursion P xs → AllByRecursion Q (map f xs)
all-mapped P Q f [] h k = tt
all-mapped P Q f (x ∷ xs) h k = (h x k.0, all-mapped P Q f xs h k.1)

pub all-drop : {A : Type 0} (P : A → Type 0) (xs : List A) → AllByRecursion P xs → AllByRecursion P (drop 1 xs)
all-drop P [] h = tt
all-drop P (x ∷ xs) h = h.1

pub all-at : {A : Type 0} (P : A → Type 0) (xs : List A) (i : ℕ) (x : A) → AllByRecursion P xs → slice_get xs i ≡ Some x → P x
all-at P [] i x h e = cc
all-at P (y ∷ ys) zero x h e = subst P (same_Some y x e) h.0
all-at P (y ∷ ys) (suc i) x h e = all-at P ys i x h.1 e

-- what is taken next is the oldest item that is not deferred
pub taken-first : (e : End) (x : Item) → take.taken_next e ≡ Some x → find (is_free (take.deferral_context_of e)) e.arrived ≡ Some x
taken-first e x next = first (take.takes_in_state e.state && take.takes_under (top_of (frames_of e))) next
  where
    first : (b : Bool) → cond b (take.first_free e) None ≡ Some x → take.first_free e ≡ Some x
    first true is = is
    first false is = cc

module _ (schema : Schema) where
  -- Fields of an end

  pub fits-outbox : (e : End) → IsFitting schema e → IsFitting schema (record e { outbox = [] })
  fits-outbox e h = record { actors = h.actors; arrived = h.arrived; stack = h.stack; promises = h.promises; names = h.names; outbox = tt }

  pub fits-state : (e : End) (state : EndState) → IsFitting schema e → IsFitting schema (record e { state = state })
  fits-state e state h = record { actors = h.actors; arrived = h.arrived; stack = h.stack; promises = h.promises; names = h.names; outbox = h.outbox }

  pub fits-actors : (e : End) (actors : List Actor) → AllByRecursion HasLivingId actors → IsFitting schema e → IsFitting schema (record e { actors = actors })
  fits-actors e actors k h = record { actors = k; arrived = h.arrived; stack = h.stack; promises = h.promises; names = h.names; outbox = h.outbox }

  pub fits-arrived : (e : End) (items : List Item) → AllByRecursion (FitsItem schema) items → IsFitting schema e → IsFitting schema (record e { arrived = items })
  fits-arrived e items k h = record { actors = h.actors; arrived = k; stack = h.stack; promises = h.promises; names = h.names; outbox = h.outbox }

  pub fits-stack : (e : End) (stack : List StackEntry) → AllByRecursion (FitsEntry schema) stack → IsFitting schema e → IsFitting schema (record e { stack = stack })
  fits-stack e stack k h = record { actors = h.actors; arrived = h.arrived; stack = k; promises = h.promises; names = h.names; outbox = h.outbox }

  pub fits-promises : (e : End) (promises : List PromiseEntry) → AllByRecursion (FitsPromise schema) promises → IsFitting schema e → IsFitting schema (record e { promises = promises })
  fits-promises e promises k h = record { actors = h.actors; arrived = h.arrived; stack = h.stack; promises = k; names = h.names; outbox = h.outbox }

  pub fits-names : (e : End) (names : List Naming) → AllByRecursion (FitsNaming schema) names → IsFitting schema e → IsFitting schema (record e { names = names })
  fits-names e names k h = record { actors = h.actors; arrived = h.arrived; stack = h.stack; promises = h.promises; names = k; outbox = h.outbox }

  pub fits-delivered : (e : End) (delivered constructors : ℕ) → IsFitting schema e → IsFitting schema (record e { delivered = delivered; constructors_delivered = constructors })
  fits-delivered e delivered constructors h = record { actors = h.actors; arrived = h.arrived; stack = h.stack; promises = h.promises; names = h.names; outbox = h.outbox }

  pub fits-following : (b : Bool) (e : End) → IsFitting schema e → IsFitting schema (end_after b e)
  fits-following true e h = fits-outbox e h
  fits-following false e h = h

  -- Packets

  pub outbox-packets : (ms : List Message) → AllByRecursion (Fits schema) ms → AllByRecursion (FitsPacket schema) (map message ms)
  outbox-packets ms h = all-mapped (Fits schema) (FitsPacket schema) message ms (λ m k. k) h

  pub following-packets : (e : End) (packet : Packet) → FitsPacket schema packet → IsFitting schema e → AllByRecursion (FitsPacket schema) (after_outbox e packet)
  following-packets e packet k h = all-append (FitsPacket schema) (map message e.outbox) (packet ∷ []) (outbox-packets e.outbox h.outbox) (k, tt)

  -- Entries of stacks

  released-entry : (b : Bool) (entry : StackEntry) → FitsEntry schema entry → FitsEntry schema (cond b (record entry { resolves = false }) entry)
  released-entry true entry h = record { row = h.row; request = h.request; sync = h.sync; level = h.level; resolves = λ e. cc; frame = h.frame }
  released-entry false entry h = h

  pub released-stack : (seq : ℤ) (stack : List StackEntry) → AllByRecursion (FitsEntry schema) stack → AllByRecursion (FitsEntry schema) (answering.released seq stack)
  released-stack seq stack h = all-mapped (FitsEntry schema) (FitsEntry schema) (λ (entry : StackEntry). cond (answering.has_resolver seq entry) (record entry { resolves = false }) entry) stack (λ entry k. released-entry (answering.has_resolver seq entry) entry k) h

  failed-entry : (entry : StackEntry) → FitsEntry schema entry → FitsEntry schema (delivery.with_failed_wait entry)
  failed-entry entry h = by entry.frame h
    where
      by : (f : StackFrame) → FitsEntry schema (record entry { frame = f }) → FitsEntry schema (record entry { frame = delivery.failed f })
      by (Dispatch head) h = h
      by (Wait head None) h = record { row = h.row; request = h.request; sync = h.sync; level = h.level; resolves = h.resolves; frame = (h.frame, tt) }
      by (Wait head (Some a)) h = h

  pub failed-stack : (stack : List StackEntry) → AllByRecursion (FitsEntry schema) stack → AllByRecursion (FitsEntry schema) (map delivery.with_failed_wait stack)
  failed-stack stack h = all-mapped (FitsEntry schema) (FitsEntry schema) delivery.with_failed_wait stack failed-entry h

  -- the condition on the answer to the innermost unanswered wait
  abbrev pub AnswerFits : Answer → (StackEntry → Bool) → Type 0
  AnswerFits a test = (entry : StackEntry) (h : FitsEntry schema entry) → is_sync_row h.row ≡ true → test entry ≡ true → FitsAnswer schema h.row a

  -- the innermost unanswered wait gets an answer that fits
  pub answered-stack : (a : Answer) (test : StackEntry → Bool) (stack : List StackEntry) → AnswerFits a test → AllByRecursion (FitsEntry schema) stack → option_map_or test (find (λ (entry : StackEntry). is_unanswered entry.frame) stack) false ≡ true
      → AllByRecursion (FitsEntry schema) (delivery.with_frames (with_answer a (map (λ (entry : StackEntry). entry.frame) stack)) stack)
  answered-stack a test [] fits h e = tt
  answered-stack a test (entry ∷ stack) fits h e = by entry.frame h.0 e (λ k. answered-stack a test stack fits h.1 k)
    where
      by : (f : StackFrame) → FitsEntry schema (record entry { frame = f }) → option_map_or test (cond (is_unanswered f) (Some (record entry { frame = f })) (find (λ (entry : StackEntry). is_unanswered entry.frame) stack)) false ≡ true
          → (option_map_or test (find (λ (entry : StackEntry). is_unanswered entry.frame) stack) false ≡ true → AllByRecursion (FitsEntry schema) (delivery.with_frames (with_answer a (map (λ (entry : StackEntry). entry.frame) stack)) stack))
          → AllByRecursion (FitsEntry schema) (delivery.with_frames (with_answer a (f ∷ map (λ (entry : StackEntry). entry.frame) stack)) (record entry { frame = f } ∷ stack))
      by (Dispatch head) k e rest = (k, rest e)
      by (Wait head (Some b)) k e rest = (k, rest e)
      by (Wait head None) k e rest = (
        record { row = k.row; request = k.request; sync = k.sync; level = k.level; resolves = k.resolves; frame = (k.frame, fits (record entry { frame = Wait head None }) k k.frame e) },
        subst (AllByRecursion (FitsEntry schema)) (sym (kept-frames stack)) h.1,
      )

  -- a kept request of an async message has no transaction
  pub kept-async : (row : MessageRow) (seq route transaction : ℤ) (number : ℕ) → makes_promise row ≡ true → IsRequestKept schema row (record { seq = seq; route = route; number = number; transaction = transaction }) → FitsPromised schema (record { seq = seq; route = route; number = number; transaction = pos 0 })
  kept-async row seq route transaction number promise kept = (
    row,
    record {
      found = kept.found;
      fields = λ body.
          let f = kept.fields body in
          record { carried = f.carried; route = f.route; seq = f.seq; transaction = subst (λ (s : Semantics). IsTransactionOf s (pos 0)) (sym (promise-async row promise)) refl };
    },
    promise,
  )

  -- the resolver of an entry
  pub entry-resolver : (entry : StackEntry) → FitsEntry schema entry → entry.resolves ≡ true → FitsResolver schema (answering.resolver_in entry)
  entry-resolver entry h e = kept-async h.row (head_of entry.frame).seq entry.route (head_of entry.frame).transaction entry.number (h.resolves e) h.request

  pub handled-resolver : (seq : ℤ) (stack : List StackEntry) (r : Resolver) → AllByRecursion (FitsEntry schema) stack → option_map answering.resolver_in (find (answering.has_resolver seq) stack) ≡ Some r → FitsResolver schema r
  handled-resolver seq stack r h e = by (find (answering.has_resolver seq) stack) refl e
    where
      both-right : (a b c : Bool) → a && (b && c) ≡ true → b ≡ true
      both-right true true c e = refl
      both-right true false c e = cc
      both-right false b c e = cc

      by : (found : Option StackEntry) → find (answering.has_resolver seq) stack ≡ found → option_map answering.resolver_in found ≡ Some r → FitsResolver schema r
      by None is e = cc
      by (Some entry) is e =
          let f = found-in (FitsEntry schema) (answering.has_resolver seq) stack entry h is in
          subst (FitsResolver schema) (same_Some (answering.resolver_in entry) r e) (entry-resolver entry f.0 (both-right (is_dispatch entry.frame) entry.resolves (int_eq (head_of entry.frame).seq seq) f.1))

  -- Names

  pub without-names : (name : List ℕ) (names : List Naming) → AllByRecursion (FitsNaming schema) names → AllByRecursion (FitsNaming schema) (without_name name names)
  without-names name names h = all-filter (FitsNaming schema) (λ (naming : Naming). not (has_name name naming)) names h

  pub actor-names : (names : List Naming) → AllByRecursion (FitsNaming schema) names → AllByRecursion (FitsNaming schema) (without_resolvers names)
  actor-names names h = all-filter (FitsNaming schema) is_actor names h

  pub held-fits : (name : List ℕ) (names : List Naming) (content : NameContent) → AllByRecursion (FitsNaming schema) names → held_by_name name names ≡ Some content → FitsContent schema content
  held-fits name names content h e = by (find (has_name name) names) refl e
    where
      by : (found : Option Naming) → find (has_name name) names ≡ found → option_map (λ (naming : Naming). naming.holds) found ≡ Some content → FitsContent schema content
      by None is e = cc
      by (Some naming) is e = subst (FitsContent schema) (same_Some naming.holds content e) (found-in (FitsNaming schema) (has_name name) names naming h is).0

  actor-fits : (naming : Naming) → HoldsActor naming → FitsNaming schema naming
  actor-fits naming h = by naming.holds h
    where
      by : (content : NameContent) → HoldsActor (record naming { holds = content }) → FitsContent schema content
      by (actor id) h = tt
      by (resolver r) h = absurd h

  pub more-names : (more : List Naming) → AllByRecursion HoldsActor more → AllByRecursion (FitsNaming schema) more
  more-names more h = all-map HoldsActor (FitsNaming schema) more actor-fits h

  -- Promises

  rejected-one : (b : Bool) (why : Reason) (entry : PromiseEntry) → FitsPromise schema entry → FitsPromise schema (cond b (fall.rejected_entry why entry) entry)
  rejected-one true why entry h = h
  rejected-one false why entry h = h

  pub rejected-promises : (test : Promise → Bool) (why : Reason) (promises : List PromiseEntry) → AllByRecursion (FitsPromise schema) promises → AllByRecursion (FitsPromise schema) (fall.rejected test why promises)
  rejected-promises test why promises h = all-mapped (FitsPromise schema) (FitsPromise schema) (λ (entry : PromiseEntry). cond (fall.passes test entry) (fall.rejected_entry why entry) entry) promises (λ entry k. rejected-one (fall.passes test entry) why entry k) h

  settled-one : (b : Bool) (outcome : Outcome) (entry : PromiseEntry) → FitsPromise schema entry → FitsPromise schema (record entry { promise = cond b (record entry.promise { outcome = Some outcome }) entry.promise })
  settled-one true outcome entry h = h
  settled-one false outcome entry h = h

  pub settled-promises : (seq : ℤ) (outcome : Outcome) (promises : List PromiseEntry) → AllByRecursion (FitsPromise schema) promises → AllByRecursion (FitsPromise schema) (map (take.settled_entry seq outcome) promises)
  settled-promises seq outcome promises h = all-mapped (FitsPromise schema) (FitsPromise schema) (take.settled_entry seq outcome) promises (λ entry k. settled-one (has_number seq entry.promise && is_pending entry.promise) outcome entry k) h

  -- Arrived items

  -- what is taken next is one of what has arrived
  pub taken-fits : (e : End) (x : Item) → IsFitting schema e → take.taken_next e ≡ Some x → FitsItem schema x
  taken-fits e x h next = (found-in (FitsItem schema) (is_free (take.deferral_context_of e)) e.arrived x h.arrived (taken-first e x next)).0

  pub left-items : (e : End) → IsFitting schema e → AllByRecursion (FitsItem schema) (without_first (is_free (take.deferral_context_of e)) e.arrived)
  left-items e h = all-sublist (FitsItem schema) (without_first (is_free (take.deferral_context_of e)) e.arrived) e.arrived (without_first-sublist (is_free (take.deferral_context_of e)) e.arrived) h.arrived

  pub staying-items : (e : End) (c : Compress) (new : Item) → FitsItem schema new → IsFitting schema e → AllByRecursion (FitsItem schema) (staying c new e.arrived ++ new ∷ [])
  staying-items e c new k h = all-append (FitsItem schema) (staying c new e.arrived) (new ∷ []) (all-sublist (FitsItem schema) (staying c new e.arrived) e.arrived (staying-sublist c new e.arrived) h.arrived) (k, tt)

  pub last-item : (e : End) (new : Item) → FitsItem schema new → IsFitting schema e → AllByRecursion (FitsItem schema) (e.arrived ++ new ∷ [])
  last-item e new k h = all-append (FitsItem schema) e.arrived (new ∷ []) h.arrived (k, tt)

-- the latest item that passes is one of the items, and passes
latest-one : {A : Type 0} (P : A → Type 0) (test : A → Bool) (y x : A) (rest : Option A) (later b : Bool) → P y → (rest ≡ Some x → P x × (test x ≡ true)) → test y ≡ b → cond later rest (cond b (Some y) None) ≡ Some x → P x × (test x ≡ true)
latest-one P test y x rest true b h k is e = k e
latest-one P test y x rest false true h k is e = let same : y ≡ x = same_Some y x e in (subst P same h, ap test (sym same) ∙ is)
latest-one P test y x rest false false h k is e = cc

latest-in : (P : Item → Type 0) (test : Item → Bool) (items : List Item) (x : Item) → AllByRecursion P items → latest test items ≡ Some x → P x × (test x ≡ true)
latest-in P test [] x h e = cc
latest-in P test (y ∷ ys) x h e = latest-one P test y x (latest test ys) (list_any test ys) (test y) h.0 (λ k. latest-in P test ys x h.1 k) refl e

-- an item that is replaced is one of the items, and is like the new one
pub replaced-in : (P : Item → Type 0) (c : Compress) (new : Item) (items : List Item) (x : Item) → AllByRecursion P items → replaced c new items ≡ Some x → P x × (are_alike new x ≡ true)
replaced-in P compress.Plain new items x h e = cc
replaced-in P compress.All new items x h e = latest-in P (are_alike new) items x h e
replaced-in P compress.Last new items x h e = by (slice_get items (length items - 1)) refl e
  where
    one : (old : Item) (b : Bool) → are_alike new old ≡ b → slice_get items (length items - 1) ≡ Some old → cond b (Some old) None ≡ Some x → P x × (are_alike new x ≡ true)
    one old true is at e = let same : old ≡ x = same_Some old x e in (subst P same (all-at P items (length items - 1) old h at), ap (are_alike new) (sym same) ∙ is)
    one old false is at e = cc

    by : (found : Option Item) → slice_get items (length items - 1) ≡ found → option_and_then (λ (old : Item). cond (are_alike new old) (Some old) None) found ≡ Some x → P x × (are_alike new x ≡ true)
    by None is e = cc
    by (Some old) is e = one old (are_alike new old) refl is e
