-- Counts of actors that fall, of promises that are rejected, and of waits.
use Rattle.std.proofs.Common.{◌≡◌, ◌≢◌, ◌⊎◌, inl, inr, ℕ, ◌+◌, ◌≤◌, ℤ, Bool, true, false, not, ◌&&◌, cond, if◌then◌else◌, List, [], ◌∷◌, ◌++◌, drop, filter, flat_map, length, map, Some, None, refl, sym, ap, subst, ◌∙◌, int_eq, arith}
use Rattle.std.proofs.lemmas.List.{length-append, length-map}
use Rattle.actor_tree.specs.declared.actor.Actor.{Actor}
use Rattle.actor_tree.specs.Fall.{post_order, others, IsNext, Falls}
use Rattle.actor_tree.specs.Laws.{EachOnce}
use Rattle.actor_tree.specs.Tree.{lives, without, IsTree}
use Rattle.actor_tree.proofs.Below.{post_order-has}
use Rattle.actor_tree.proofs.Ids.{Has, same, other, same_or_other, lives-same, lives-other, without-same, without-other}
use Rattle.actor_tree.proofs.Order.{falls_once}
use Rattle.actor_tree.proofs.Whole.{gives_subtree}
use Rattle.ipdl_base.specs.declared.kinds.Destroy.{Destroy}
use Rattle.ipdl_base.specs.declared.kinds.Reason.{Reason}
use Rattle.ipdl_base.specs.declared.kinds.Reason.TheVariants.{ActorDestroyed, ChannelClosed}
use Rattle.ipdl_base.specs.declared.line.What.{What}
use Rattle.ipdl_base.specs.declared.line.What.TheVariants as what
use Rattle.nesting_core.specs.declared.frame.Answer.{Answer}
use Rattle.nesting_core.specs.declared.frame.StackFrame.{StackFrame}
use Rattle.nesting_core.specs.declared.frame.StackFrame.TheVariants.{Dispatch, Wait}
use Rattle.nesting_core.specs.Answers.{with_answer}
use Rattle.nesting_core.specs.Frames.{is_unanswered}
use Rattle.promise_table.specs.declared.promise.Promise.{Promise}
use Rattle.promise_table.specs.Promises.{is_pending, is_pending_of}
use Rattle.channel_model.specs.Answers.{has_resolver, released}
use Rattle.channel_model.specs.Bounds.{pending_in}
use Rattle.channel_model.specs.Deliveries.{with_frames, with_failed_wait, failed}
use Rattle.channel_model.specs.Ends.{StackEntry, PromiseEntry}
use Rattle.channel_model.specs.Falls.{passes, rejections, rejected_entry, rejected, fall_lines}

-- Actors

without-shorter : (i : ℤ) (actors : List Actor) → length (without i actors) ≤ length actors
without-shorter i [] = omega arith
without-shorter i (a ∷ actors) = elim (same_or_other a.id i) [
  | inl e ↦ (let k : length (without i (a ∷ actors)) ≡ length (without i actors) = ap length (without-same i a actors e) in omega (arith, without-shorter i actors))
  | inr n ↦ (let k : length (without i (a ∷ actors)) ≡ length (a ∷ without i actors) = ap length (without-other i a actors n) in omega (arith, without-shorter i actors))
]

-- without it, one fewer actor lives
without-one : (i : ℤ) (actors : List Actor) → Has i actors → length (without i actors) + 1 ≤ length actors
without-one i [] h = absurd h
without-one i (a ∷ actors) (inl e) = let k : length (without i (a ∷ actors)) ≡ length (without i actors) = ap length (without-same i a actors e) in omega (arith, without-shorter i actors)
without-one i (a ∷ actors) (inr h) = elim (same_or_other a.id i) [
  | inl e ↦ (let k : length (without i (a ∷ actors)) ≡ length (without i actors) = ap length (without-same i a actors e) in omega (arith, without-shorter i actors))
  | inr n ↦ (let k : length (without i (a ∷ actors)) ≡ length (a ∷ without i actors) = ap length (without-other i a actors n) in omega (arith, without-one i actors h))
]

falls-count : (id : ℤ) (actors given left : List Actor) → Falls id actors given left → length given + length left ≤ length actors
falls-count id actors [] left f = let k : length left ≡ length actors = ap length f.left in omega arith
falls-count id actors (a ∷ given) left f =
    let next : IsNext id actors (Some a) f.0 = f.1 in
    let lived : Has a.id actors = post_order-has a.id id actors (subst (Has a.id) (sym next.next) (inl refl)) in
    let k : length f.0 ≡ length (without a.id actors) = ap length next.left in
    omega (arith, without-one a.id actors lived, falls-count id f.0 given left f.2)

-- the actors that fall and the others are together no more than all
fallen-count : (id : ℤ) (actors : List Actor) → IsTree actors → length (post_order id actors) + length (others (post_order id actors) actors) ≤ length actors
fallen-count id actors t = falls-count id actors (post_order id actors) (others (post_order id actors) actors) ((gives_subtree id actors (post_order id actors) (others (post_order id actors) actors) t).1 (refl, refl))

-- Promises

-- 1 for true, 0 for false
abbrev pub bit : Bool → ℕ
bit b = if b then 1 else 0

length-if : {A : Type 0} (b : Bool) (x : A) (xs : List A) → length (cond b (x ∷ xs) xs) ≡ bit b + length xs
length-if true x xs = omega arith
length-if false x xs = omega arith

-- the number of promises that are pending and pass
abbrev count : (Promise → Bool) → List PromiseEntry → ℕ
count test promises = length (filter (passes test) promises)

count-cons : (test : Promise → Bool) (x : PromiseEntry) (xs : List PromiseEntry) → count test (x ∷ xs) ≡ bit (passes test x) + count test xs
count-cons test x xs = length-if (passes test x) x (filter (passes test) xs)

pending-cons : (x : PromiseEntry) (xs : List PromiseEntry) → length (pending_in (x ∷ xs)) ≡ bit (is_pending x.promise) + length (pending_in xs)
pending-cons x xs = length-if (is_pending x.promise) x (pending_in xs)

-- those that pass are rejected, the others are still pending
rejected-count : (test : Promise → Bool) (why : Reason) (xs : List PromiseEntry) → length (pending_in (rejected test why xs)) ≤ count (λ p. not (test p)) xs
rejected-count test why [] = omega arith
rejected-count test why (x ∷ xs) =
    let y : PromiseEntry = cond (passes test x) (rejected_entry why x) x in
    let k = pending-cons y (rejected test why xs) in
    let l = count-cons (λ p. not (test p)) x xs in
    omega (arith, k, l, rejected-count test why xs, one (is_pending x.promise) (test x.promise) refl)
  where
    one : (b c : Bool) → is_pending x.promise ≡ b → bit (is_pending (cond (b && c) (rejected_entry why x) x).promise) ≤ bit (b && not c)
    one true true e = omega arith
    one true false e = let k : bit (is_pending x.promise) ≡ 1 = ap bit e in omega arith
    one false c e = let k : bit (is_pending x.promise) ≡ 0 = ap bit e in omega arith

rejections-count : (test : Promise → Bool) (why : Reason) (xs : List PromiseEntry) → length (rejections test why xs) ≡ count test xs
rejections-count test why xs = length-map (filter (passes test) xs) (λ entry. what.Rejected entry.promise.seq why)

all-count : (test : Promise → Bool) (xs : List PromiseEntry) → count test xs ≤ length (pending_in xs)
all-count test [] = omega arith
all-count test (x ∷ xs) = omega (arith, count-cons test x xs, pending-cons x xs, all-count test xs, one (is_pending x.promise) (test x.promise))
  where
    one : (b c : Bool) → bit (b && c) ≤ bit b
    one true true = omega arith
    one true false = omega arith
    one false c = omega arith

-- all are rejected
pub abandoned-count : (promises : List PromiseEntry) → length (rejections (λ p. true) ChannelClosed promises) + length (pending_in (rejected (λ p. true) ChannelClosed promises)) ≤ length (pending_in promises)
abandoned-count promises = omega (arith, rejections-count (λ p. true) ChannelClosed promises, rejected-count (λ p. true) ChannelClosed promises, none promises, all-count (λ p. true) promises)
  where
    never : (b : Bool) → b && false ≡ false
    never true = refl
    never false = refl

    nothing : (xs : List PromiseEntry) → filter (passes (λ p. false)) xs ≡ []
    nothing [] = refl
    nothing (x ∷ xs) = ap (λ (b : Bool). cond b (x ∷ filter (passes (λ p. false)) xs) (filter (passes (λ p. false)) xs)) (never (is_pending x.promise)) ∙ nothing xs

    none : (xs : List PromiseEntry) → count (λ p. false) xs ≡ 0
    none xs = ap length (nothing xs)

-- Actors that fall with their promises

-- of one promise: it is of the actor, or of neither the actor nor the rest, only if it is of none of the rest
one-promise : (a : Actor) (rest : List Actor) (x : PromiseEntry) → lives a.id rest ≡ false → (x.promise.actor ≡ a.id) ⊎ (x.promise.actor ≢ a.id)
    → bit (passes (is_pending_of a.id) x) + bit (passes (λ p. not (lives p.actor (a ∷ rest))) x) ≤ bit (passes (λ p. not (lives p.actor rest)) x)
one-promise a rest x free (inl e) =
    let i : int_eq x.promise.actor a.id ≡ true = same x.promise.actor a.id e in
    let l : lives x.promise.actor (a ∷ rest) ≡ true = lives-same x.promise.actor a rest (sym e) in
    let r : lives x.promise.actor rest ≡ false = ap (λ (id : ℤ). lives id rest) e ∙ free in
    by (is_pending x.promise) (int_eq x.promise.actor a.id) (lives x.promise.actor (a ∷ rest)) (lives x.promise.actor rest) i l r
  where
    by : (b c d f : Bool) → c ≡ true → d ≡ true → f ≡ false → bit (b && (c && b)) + bit (b && not d) ≤ bit (b && not f)
    by true true true false i l r = omega arith
    by false true true false i l r = omega arith
    by b false d f i l r = cc
    by b true false f i l r = cc
    by b true true true i l r = cc
one-promise a rest x free (inr n) =
    let i : int_eq x.promise.actor a.id ≡ false = other x.promise.actor a.id n in
    let l : lives x.promise.actor (a ∷ rest) ≡ lives x.promise.actor rest = lives-other x.promise.actor a rest (λ e. n (sym e)) in
    by (is_pending x.promise) (int_eq x.promise.actor a.id) (lives x.promise.actor (a ∷ rest)) (lives x.promise.actor rest) i l
  where
    by : (b c d f : Bool) → c ≡ false → d ≡ f → bit (b && (c && b)) + bit (b && not d) ≤ bit (b && not f)
    by b true d f i l = cc
    by true false true true i l = omega arith
    by true false false false i l = omega arith
    by true false true false i l = cc
    by true false false true i l = cc
    by false false d f i l = omega arith

one-actor : (a : Actor) (rest : List Actor) (xs : List PromiseEntry) → lives a.id rest ≡ false → count (is_pending_of a.id) xs + count (λ p. not (lives p.actor (a ∷ rest))) xs ≤ count (λ p. not (lives p.actor rest)) xs
one-actor a rest [] free = omega arith
one-actor a rest (x ∷ xs) free =
    omega (arith, count-cons (is_pending_of a.id) x xs, count-cons (λ p. not (lives p.actor (a ∷ rest))) x xs, count-cons (λ p. not (lives p.actor rest)) x xs, one-actor a rest xs free, one-promise a rest x free (same_or_other x.promise.actor a.id))

-- the lines of the actors that fall, where no promise is of one of them
falls-lines : (why : ℤ → Destroy) (promises : List PromiseEntry) (given : List Actor) → EachOnce given
    → length (flat_map (fall_lines why promises) given) + count (λ p. not (lives p.actor given)) promises ≤ length given + length (pending_in promises)
falls-lines why promises [] once = let k = all-count (λ p. true) promises in omega arith
falls-lines why promises (a ∷ given) once =
    let lines : List What = flat_map (fall_lines why promises) given in
    let own : List What = rejections (is_pending_of a.id) ActorDestroyed promises in
    let k : length (fall_lines why promises a ++ lines) ≡ length (fall_lines why promises a) + length lines = length-append (fall_lines why promises a) lines in
    let l : length (fall_lines why promises a) ≡ length own + 1 = length-append own (what.Fall a.id (why a.id) ∷ []) in
    omega (arith, k, l, rejections-count (is_pending_of a.id) ActorDestroyed promises, one-actor a given promises once.0, falls-lines why promises given once.1)

-- a subtree falls: its lines, the actors that are left and the promises that are still pending are no more than what
-- there was
pub falls-balance : (id : ℤ) (why : ℤ → Destroy) (actors : List Actor) (promises : List PromiseEntry) → IsTree actors
    → length (flat_map (fall_lines why promises) (post_order id actors)) + (length (others (post_order id actors) actors) + length (pending_in (rejected (λ p. lives p.actor (post_order id actors)) ActorDestroyed promises))) ≤ length actors + length (pending_in promises)
falls-balance id why actors promises t =
    omega (arith, falls-lines why promises (post_order id actors) (falls_once id actors t), fallen-count id actors t, rejected-count (λ p. lives p.actor (post_order id actors)) ActorDestroyed promises)

-- Waits

abbrev frames : List StackEntry → List StackFrame
frames stack = map (λ (entry : StackEntry). entry.frame) stack

-- the number of unanswered waits
abbrev pub waits : List StackEntry → ℕ
waits stack = length (filter is_unanswered (frames stack))

waits-cons : (entry : StackEntry) (stack : List StackEntry) → waits (entry ∷ stack) ≡ bit (is_unanswered entry.frame) + waits stack
waits-cons entry stack = length-if (is_unanswered entry.frame) entry.frame (filter is_unanswered (frames stack))

pub dropped-waits : (stack : List StackEntry) → waits (drop 1 stack) ≤ waits stack
dropped-waits [] = omega arith
dropped-waits (entry ∷ stack) = omega (arith, waits-cons entry stack)

pub released-waits : (seq : ℤ) (stack : List StackEntry) → waits (released seq stack) ≡ waits stack
released-waits seq stack = ap (λ (fs : List StackFrame). length (filter is_unanswered fs)) (same-frames stack)
  where
    one : (b : Bool) (entry : StackEntry) → (cond b (record entry { resolves = false }) entry).frame ≡ entry.frame
    one true entry = refl
    one false entry = refl

    same-frames : (stack : List StackEntry) → frames (released seq stack) ≡ frames stack
    same-frames [] = refl
    same-frames (entry ∷ stack) = ap (λ (f : StackFrame). f ∷ frames (released seq stack)) (one (has_resolver seq entry) entry) ∙ ap (λ (fs : List StackFrame). entry.frame ∷ fs) (same-frames stack)

failed-none : (f : StackFrame) → is_unanswered (failed f) ≡ false
failed-none (Dispatch head) = refl
failed-none (Wait head None) = refl
failed-none (Wait head (Some a)) = refl

pub failed-waits : (stack : List StackEntry) → waits (map with_failed_wait stack) ≡ 0
failed-waits [] = refl
failed-waits (entry ∷ stack) =
    let k : bit (is_unanswered (failed entry.frame)) ≡ 0 = ap bit (failed-none entry.frame) in
    let l : waits (map with_failed_wait (entry ∷ stack)) ≡ bit (is_unanswered (failed entry.frame)) + waits (map with_failed_wait stack) = waits-cons (with_failed_wait entry) (map with_failed_wait stack) in
    omega (arith, k, l, failed-waits stack)

-- the frames of a stack are put back as they were
pub kept-frames : (stack : List StackEntry) → with_frames (frames stack) stack ≡ stack
kept-frames [] = refl
kept-frames (entry ∷ stack) = ap (λ (entries : List StackEntry). entry ∷ entries) (kept-frames stack)

pub answered-waits : (a : Answer) (stack : List StackEntry) → waits (with_frames (with_answer a (frames stack)) stack) ≤ waits stack
answered-waits a [] = omega arith
answered-waits a (entry ∷ stack) = by entry.frame (answered-waits a stack)
  where
    by : (f : StackFrame) → waits (with_frames (with_answer a (frames stack)) stack) ≤ waits stack → waits (with_frames (with_answer a (f ∷ frames stack)) (record entry { frame = f } ∷ stack)) ≤ waits (record entry { frame = f } ∷ stack)
    by (Dispatch head) h = h
    by (Wait head (Some b)) h = h
    by (Wait head None) h = let k : waits (with_frames (frames stack) stack) ≡ waits stack = ap waits (kept-frames stack) in omega (arith, k, waits-cons (record entry { frame = Wait head None }) stack)
