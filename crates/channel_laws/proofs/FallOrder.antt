-- The order in which the actors of a subtree fall, by the tree of living actors: each after all that it manages, and
-- after the older ones of its manager.
use Rattle.std.proofs.Common.{◌≡◌, ◌≢◌, ◌⊎◌, inl, inr, ℤ, pos, Bool, true, false, ◌||◌, cond, if◌then◌else◌, int_eq, List, [], ◌∷◌, ◌++◌, reverse, map, refl, sym, ap, subst, ◌∙◌, append_assoc}
use Rattle.std.proofs.lemmas.Bool.{cases_Bool}
use Rattle.std.proofs.lemmas.List.{reverse-append}
use Rattle.actor_tree.specs.declared.actor.Actor.{Actor}
use Rattle.actor_tree.specs.Fall.{below, post_order}
use Rattle.actor_tree.specs.Laws.{made_under, managed_by}
use Rattle.actor_tree.specs.Tree.{lives, IsTree, AreMadeAfter}
use Rattle.actor_tree.proofs.Below.{apart, below-has, below-same, below-other, post_order-same, post_order-other}
use Rattle.actor_tree.proofs.Ids.{same, other, same_or_other, lives-true, lives-false, has, has_not, Has, Has-append, Has-last, Has-left, Has-right}
use Rattle.actor_tree.proofs.Order.{falls_in_order, falls_later}
use Rattle.history_reading.specs.declared.parts.BuiltActor.{BuiltActor}
use Rattle.history_reading.specs.Fallen.{climbs}
use Rattle.channel_laws.specs.EndActors.{shown_actor}
use Rattle.channel_laws.specs.Notes.{In, here, there}
use Rattle.channel_laws.proofs.Standing.{ids_in}

-- Lists

in-if : (x y : Actor) (b : Bool) (some : List Actor) → In x some → In x (cond b (y ∷ some) some)
in-if x y true some i = there i
in-if x y false some i = i

from-if : (x y : Actor) (b : Bool) (some all : List Actor) → In x (cond b (y ∷ some) some) → (In x some → In x all) → In x (y ∷ all)
from-if x y true some all here rec = here
from-if x y true some all (there i) rec = there (rec i)
from-if x y false some all i rec = there (rec i)

in-made : (id : ℤ) (xs : List Actor) (x : Actor) → In x xs → x.manager ≡ id → In x (made_under id xs)
in-made id [] x i e = elim i [ ]
in-made id (y ∷ xs) x here e = subst (λ (b : Bool). In x (cond b (x ∷ made_under id xs) (made_under id xs))) (sym (same x.manager id e)) here
in-made id (y ∷ xs) x (there i) e = in-if x y (int_eq y.manager id) (made_under id xs) (in-made id xs x i e)

from-made : (id : ℤ) (xs : List Actor) (x : Actor) → In x (made_under id xs) → In x xs
from-made id [] x i = i
from-made id (y ∷ xs) x i = from-if x y (int_eq y.manager id) (made_under id xs) xs i (from-made id xs x)

from-managed : (id : ℤ) (xs : List Actor) (x : Actor) → In x (managed_by id xs) → In x xs
from-managed id [] x i = i
from-managed id (y ∷ xs) x i = by (int_eq y.id id) (from-managed id xs x) i
  where
    by : (b : Bool) → (In x (managed_by id xs) → In x xs) → In x (cond b (made_under id xs) (managed_by id xs)) → In x (y ∷ xs)
    by true rec i = there (from-made id xs x i)
    by false rec i = there (rec i)

pub has-in : (xs : List Actor) (x : Actor) → In x xs → Has x.id xs
has-in [] x i = elim i [ ]
has-in (y ∷ xs) x here = inl refl
has-in (y ∷ xs) x (there i) = inr (has-in xs x i)

pub in-right : (xs ys : List Actor) (x : Actor) → In x ys → In x (xs ++ ys)
in-right [] ys x i = i
in-right (z ∷ xs) ys x i = there (in-right xs ys x i)

in-left : (xs ys : List Actor) (x : Actor) → In x xs → In x (xs ++ ys)
in-left [] ys x i = elim i [ ]
in-left (z ∷ xs) ys x here = here
in-left (z ∷ xs) ys x (there i) = there (in-left xs ys x i)

in-append : (xs ys : List Actor) (x : Actor) → In x (xs ++ ys) → In x xs ⊎ In x ys
in-append [] ys x i = inr i
in-append (z ∷ xs) ys x here = inl here
in-append (z ∷ xs) ys x (there i) = elim (in-append xs ys x i) [ inl k ↦ inl (there k) | inr k ↦ inr k ]

in-cons : (x y : Actor) (xs ys : List Actor) → In x (y ∷ xs) → (In x xs → In x ys) → In x (y ∷ ys)
in-cons x y xs ys here rec = here
in-cons x y xs ys (there k) rec = there (rec k)

-- an element of a list, with what is before and after it
record StandsAt (id : ℤ) (xs : List Actor) : Type 0 where
  found : Actor
  front : List Actor
  back : List Actor
  whole : xs ≡ front ++ found ∷ back
  is : found.id ≡ id

stands-at : (id : ℤ) (xs : List Actor) → Has id xs → StandsAt id xs
stands-at id [] h = absurd h
stands-at id (x ∷ xs) (inl e) = record { found = x; front = []; back = xs; whole = refl; is = e }
stands-at id (x ∷ xs) (inr h) = let r = stands-at id xs h in record { found = r.found; front = x ∷ r.front; back = r.back; whole = ap (λ (l : List Actor). x ∷ l) r.whole; is = r.is }

splits-at : (x : Actor) (xs : List Actor) → In x xs → (front : List Actor) × ((back : List Actor) × (xs ≡ front ++ x ∷ back))
splits-at x [] i = elim i [ ]
splits-at x (y ∷ xs) here = ([], (xs, refl))
splits-at x (y ∷ xs) (there i) = let r = splits-at x xs i in (y ∷ r.0, (r.1.0, ap (λ (l : List Actor). y ∷ l) r.1.1))

-- an actor that is managed was made after its manager

not-yet : (id : ℤ) (older : List Actor) (y : Actor) → lives id older ≡ false → y.id ≢ id → lives id (older ++ y ∷ []) ≡ false
not-yet id older y h n = lives-false id (older ++ y ∷ []) (λ k. elim (Has-append id older (y ∷ []) k) [
  | inl p ↦ has_not id older h p
  | inr p ↦ elim p [ inl e ↦ n e | inr q ↦ absurd q ]
])

no-manager : {A : Type 0} (older : List Actor) (id : ℤ) (y : Actor) → lives y.manager older ≡ true → y.manager ≡ id → lives id older ≡ false → A
no-manager older id y alive e h = let k : true ≡ false = sym alive ∙ (ap (λ (n : ℤ). lives n older) e ∙ h) in cc

in-managed : (id : ℤ) (older later : List Actor) (x : Actor) → AreMadeAfter older later → lives id older ≡ false → In x later → x.manager ≡ id → In x (managed_by id later)
in-managed id older [] x m h i e = elim i [ ]
in-managed id older (y ∷ rest) x m h here e = no-manager older id y m.1 e h
in-managed id older (y ∷ rest) x m h (there i) e = elim (cases_Bool (int_eq y.id id)) [
  | inl t ↦ subst (λ (b : Bool). In x (cond b (made_under id rest) (managed_by id rest))) (sym t) (in-made id rest x i e)
  | inr f ↦ subst (λ (b : Bool). In x (cond b (made_under id rest) (managed_by id rest))) (sym f)
      (in-managed id (older ++ y ∷ []) rest x m.2 (not-yet id older y h (λ s. let k : true ≡ false = sym (same y.id id s) ∙ f in cc)) i e)
]

in-tree : (id : ℤ) (actors : List Actor) (x : Actor) → IsTree actors → id ≢ pos 0 → In x actors → x.manager ≡ id → In x (managed_by id actors)
in-tree id [] x t n i e = elim i [ ]
in-tree id (y ∷ later) x t n here e = absurd (n (sym e ∙ ap (λ (a : Actor). a.manager) t.0))
in-tree id (y ∷ later) x t n (there i) e = elim (cases_Bool (int_eq y.id id)) [
  | inl s ↦ subst (λ (b : Bool). In x (cond b (made_under id later) (managed_by id later))) (sym s) (in-made id later x i e)
  | inr f ↦ subst (λ (b : Bool). In x (cond b (made_under id later) (managed_by id later))) (sym f)
      (in-managed id (y ∷ []) later x t.1 (lives-false id (y ∷ []) (λ k. elim k [ inl s ↦ (let z : true ≡ false = sym (same y.id id s) ∙ f in cc) | inr q ↦ absurd q ])) i e)
]

-- each actor that is managed by one that falls has fallen before it
pub managed-fell : (id : ℤ) (actors front : List Actor) (a : Actor) (back : List Actor) (x : Actor) → IsTree actors → post_order id actors ≡ front ++ a ∷ back → a.id ≢ pos 0 → In x actors → x.manager ≡ a.id → lives x.id front ≡ true
managed-fell id actors front a back x tree order n i e =
    lives-true x.id front (has-in front x (from-made a.id front x (subst (λ (l : List Actor). In x l) (sym (falls_in_order id actors front a back tree order)) (in-tree a.id actors x tree n i e))))

-- Older ones of the same manager

-- of two ids in a list, the first is before the other
abbrev pub precedes : List ℤ → ℤ → ℤ → Bool
precedes [] b a = false
precedes (x ∷ xs) b a = if int_eq x b then true else (if int_eq x a then false else precedes xs b a)

precedes-here : (x b a : ℤ) (xs : List ℤ) → x ≡ b → precedes (x ∷ xs) b a ≡ true
precedes-here x b a xs e = ap (λ (t : Bool). if t then true else (if int_eq x a then false else precedes xs b a)) (same x b e)

pub precedes-past : (x b a : ℤ) (xs : List ℤ) → x ≢ b → x ≢ a → precedes xs b a ≡ true → precedes (x ∷ xs) b a ≡ true
precedes-past x b a xs n m e =
    ap (λ (t : Bool). if t then true else (if int_eq x a then false else precedes xs b a)) (other x b n)
    ∙ (ap (λ (t : Bool). if t then false else precedes xs b a) (other x a m) ∙ e)

-- an actor has another id than those that were made after it
made-apart : (older later : List Actor) (x y : Actor) → AreMadeAfter older (x ∷ later) → In y later → x.id ≢ y.id
made-apart older later x y t i e = apart (older ++ x ∷ []) later y.id t.2 (has-in later y i) (Has-last y.id older x e)

under-precedes : (m : ℤ) (older later front : List Actor) (a : Actor) (back : List Actor) (b : Actor) → AreMadeAfter older later → made_under m later ≡ front ++ a ∷ back → In b front → precedes (ids_in later) b.id a.id ≡ true
under-precedes m older [] front a back b t e i = absurd (nothing front e)
  where
    nothing : (front : List Actor) → [] ≡ front ++ a ∷ back → ⊥
    nothing [] e = cc
    nothing (f ∷ front) e = cc
under-precedes m older (x ∷ later) front a back b t e i = by (int_eq x.manager m) front (under-precedes m (older ++ x ∷ []) later) refl e i
  where
    past : (front : List Actor) → made_under m later ≡ front ++ a ∷ back → In b front → precedes (ids_in later) b.id a.id ≡ true → precedes (x.id ∷ ids_in later) b.id a.id ≡ true
    past front e i rec =
        let b_in : In b later = from-made m later b (subst (In b) (sym e) (in-left front (a ∷ back) b i)) in
        let a_in : In a later = from-made m later a (subst (In a) (sym e) (in-right front (a ∷ back) a here)) in
        precedes-past x.id b.id a.id (ids_in later) (made-apart older later x b t b_in) (made-apart older later x a t a_in) rec

    by : (c : Bool) (front : List Actor) → ((front : List Actor) (a : Actor) (back : List Actor) (b : Actor) → AreMadeAfter (older ++ x ∷ []) later → made_under m later ≡ front ++ a ∷ back → In b front → precedes (ids_in later) b.id a.id ≡ true) → int_eq x.manager m ≡ c
        → cond c (x ∷ made_under m later) (made_under m later) ≡ front ++ a ∷ back → In b front → precedes (x.id ∷ ids_in later) b.id a.id ≡ true
    by true [] rec is e i = elim i [ ]
    by true (f ∷ front) rec is e here = precedes-here x.id f.id a.id (ids_in later) (let k : x ≡ f = cc in ap (λ (z : Actor). z.id) k)
    by true (f ∷ front) rec is e (there i) = let k : made_under m later ≡ front ++ a ∷ back = cc in past front k i (rec front a back b t.2 k i)
    by false front rec is e i = past front e i (rec front a back b t.2 e i)

managed-precedes : (m : ℤ) (older later front : List Actor) (a : Actor) (back : List Actor) (b : Actor) → AreMadeAfter older later → managed_by m later ≡ front ++ a ∷ back → In b front → precedes (ids_in later) b.id a.id ≡ true
managed-precedes m older [] front a back b t e i = under-precedes m older [] front a back b t e i
managed-precedes m older (x ∷ later) front a back b t e i = by (int_eq x.id m) (managed-precedes m (older ++ x ∷ []) later front a back b t.2) e
  where
    past : In b later → In a later → precedes (ids_in later) b.id a.id ≡ true → precedes (x.id ∷ ids_in later) b.id a.id ≡ true
    past b_in a_in rec = precedes-past x.id b.id a.id (ids_in later) (made-apart older later x b t b_in) (made-apart older later x a t a_in) rec

    by : (c : Bool) → (managed_by m later ≡ front ++ a ∷ back → In b front → precedes (ids_in later) b.id a.id ≡ true) → cond c (made_under m later) (managed_by m later) ≡ front ++ a ∷ back → precedes (x.id ∷ ids_in later) b.id a.id ≡ true
    by true rec e =
        past (from-made m later b (subst (In b) (sym e) (in-left front (a ∷ back) b i))) (from-made m later a (subst (In a) (sym e) (in-right front (a ∷ back) a here)))
        (under-precedes m (older ++ x ∷ []) later front a back b t.2 e i)
    by false rec e =
        past (from-managed m later b (subst (In b) (sym e) (in-left front (a ∷ back) b i))) (from-managed m later a (subst (In a) (sym e) (in-right front (a ∷ back) a here))) (rec e i)

tree-precedes : (m : ℤ) (actors front : List Actor) (a : Actor) (back : List Actor) (b : Actor) → IsTree actors → managed_by m actors ≡ front ++ a ∷ back → In b front → precedes (ids_in actors) b.id a.id ≡ true
tree-precedes m [] front a back b t e i = under-precedes m [] [] front a back b tt e i
tree-precedes m (x ∷ later) front a back b t e i = by (int_eq x.id m) e
  where
    past : In b later → In a later → precedes (ids_in later) b.id a.id ≡ true → precedes (x.id ∷ ids_in later) b.id a.id ≡ true
    past b_in a_in rec = precedes-past x.id b.id a.id (ids_in later) (λ s. apart (x ∷ []) later b.id t.1 (has-in later b b_in) (inl s)) (λ s. apart (x ∷ []) later a.id t.1 (has-in later a a_in) (inl s)) rec

    by : (c : Bool) → cond c (made_under m later) (managed_by m later) ≡ front ++ a ∷ back → precedes (x.id ∷ ids_in later) b.id a.id ≡ true
    by true e =
        past (from-made m later b (subst (In b) (sym e) (in-left front (a ∷ back) b i))) (from-made m later a (subst (In a) (sym e) (in-right front (a ∷ back) a here)))
        (under-precedes m (x ∷ []) later front a back b t.1 e i)
    by false e =
        past (from-managed m later b (subst (In b) (sym e) (in-left front (a ∷ back) b i))) (from-managed m later a (subst (In a) (sym e) (in-right front (a ∷ back) a here)))
        (managed-precedes m (x ∷ []) later front a back b t.1 e i)

made-append : (m : ℤ) (xs ys : List Actor) → made_under m (xs ++ ys) ≡ made_under m xs ++ made_under m ys
made-append m [] ys = refl
made-append m (x ∷ xs) ys = ap (λ (l : List Actor). cond (int_eq x.manager m) (x ∷ l) l) (made-append m xs ys) ∙ by (int_eq x.manager m)
  where
    by : (c : Bool) → cond c (x ∷ (made_under m xs ++ made_under m ys)) (made_under m xs ++ made_under m ys) ≡ cond c (x ∷ made_under m xs) (made_under m xs) ++ made_under m ys
    by true = refl
    by false = refl

-- the manager of the actor whose subtree falls is outside of it

last-is : (xs ys : List Actor) (x y : Actor) → xs ++ x ∷ [] ≡ ys ++ y ∷ [] → x ≡ y
last-is [] [] x y e = cc
last-is [] (z ∷ ys) x y e = absurd (more ys e)
  where
    more : (ys : List Actor) → x ∷ [] ≡ z ∷ (ys ++ y ∷ []) → ⊥
    more [] e = cc
    more (w ∷ ys) e = cc
last-is (z ∷ xs) [] x y e = absurd (more xs e)
  where
    more : (xs : List Actor) → z ∷ (xs ++ x ∷ []) ≡ y ∷ [] → ⊥
    more [] e = cc
    more (w ∷ xs) e = cc
last-is (z ∷ xs) (w ∷ ys) x y e = last-is xs ys x y (let k : xs ++ x ∷ [] ≡ ys ++ y ∷ [] = cc in k)

root-from : (older later : List Actor) (id : ℤ) (front : List Actor) (a : Actor) → AreMadeAfter older later → post_order id later ≡ front ++ a ∷ [] → Has a.manager (post_order id later) → ⊥
root-from older [] id front a t e h = h
root-from older (x ∷ later) id front a t e h = elim (same_or_other x.id id) [
  | inl s ↦ (
      let order : post_order id (x ∷ later) ≡ below id later ++ x ∷ [] = post_order-same id x later s in
      let root : x ≡ a = last-is (below id later) front x a (sym order ∙ e) in
      let manager : Has a.manager older = subst (λ (z : Actor). Has z.manager older) root (has x.manager older t.1) in
      elim (Has-append a.manager (below id later) (x ∷ []) (subst (Has a.manager) order h)) [
        | inl k ↦ apart (older ++ x ∷ []) later a.manager t.2 (below-has a.manager id later k) (Has-left a.manager older (x ∷ []) manager)
        | inr k ↦ elim k [ inl f ↦ has_not x.id older t.0 (subst (λ (i : ℤ). Has i older) (sym f) manager) | inr q ↦ q ]
      ])
  | inr n ↦ root-from (older ++ x ∷ []) later id front a t.2 (sym (post_order-other id x later n) ∙ e) (subst (Has a.manager) (post_order-other id x later n) h)
]

in-below : (id : ℤ) (xs : List Actor) (x : Actor) → In x (below id xs) → In x xs
in-below id [] x i = i
in-below id (y ∷ xs) x i = elim (same_or_other y.manager id) [
  | inl s ↦ elim (in-append (below y.id xs) (y ∷ below id xs) x (subst (In x) (below-same id y xs s) i)) [
    | inl k ↦ there (in-below y.id xs x k)
    | inr k ↦ in-cons x y (below id xs) xs k (in-below id xs x)
  ]
  | inr n ↦ there (in-below id xs x (subst (In x) (below-other id y xs n) i))
]

-- who falls lives
pub in-order : (id : ℤ) (xs : List Actor) (x : Actor) → In x (post_order id xs) → In x xs
in-order id [] x i = i
in-order id (y ∷ xs) x i = elim (same_or_other y.id id) [
  | inl s ↦ elim (in-append (below id xs) (y ∷ []) x (subst (In x) (post_order-same id y xs s) i)) [
    | inl k ↦ there (in-below id xs x k)
    | inr k ↦ in-cons x y [] xs k (λ none. elim none [ ])
  ]
  | inr n ↦ there (in-order id xs x (subst (In x) (post_order-other id y xs n) i))
]

root-outside : (actors : List Actor) (id : ℤ) (front : List Actor) (a : Actor) → IsTree actors → lives (pos 0) actors ≡ false → post_order id actors ≡ front ++ a ∷ [] → Has a.manager (post_order id actors) → ⊥
root-outside [] id front a t zero e h = h
root-outside (x ∷ later) id front a t zero e h = elim (same_or_other x.id id) [
  | inl s ↦ (
      let root : x ≡ a = last-is (below id later) front x a (sym (post_order-same id x later s) ∙ e) in
      let manager : a.manager ≡ pos 0 = ap (λ (z : Actor). z.manager) (sym root) ∙ ap (λ (z : Actor). z.manager) t.0 in
      let r = stands-at a.manager (post_order id (x ∷ later)) h in
      let found : In r.found (x ∷ later) = in-order id (x ∷ later) r.found (subst (In r.found) (sym r.whole) (in-right r.front (r.found ∷ r.back) r.found here)) in
      has_not (pos 0) (x ∷ later) zero (subst (λ (i : ℤ). Has i (x ∷ later)) (r.is ∙ manager) (has-in (x ∷ later) r.found found)))
  | inr n ↦ root-from (x ∷ []) later id front a t.1 (sym (post_order-other id x later n) ∙ e) (subst (Has a.manager) (post_order-other id x later n) h)
]

-- of one manager the older ones fall first
pub older-fell : (id : ℤ) (actors front : List Actor) (a : Actor) (back : List Actor) (b : Actor) → IsTree actors → lives (pos 0) actors ≡ false → post_order id actors ≡ front ++ a ∷ back → In b front → b.manager ≡ a.manager → precedes (ids_in actors) b.id a.id ≡ true
older-fell id actors front a back b tree zero order i e = elim (falls_later id actors front a back tree order) [
  | inl root ↦ (
      let at : post_order id actors ≡ front ++ a ∷ [] = order ∙ ap (λ (l : List Actor). front ++ a ∷ l) root.1 in
      let s = splits-at b front i in
      let whole : post_order id actors ≡ s.0 ++ b ∷ (s.1.0 ++ a ∷ []) = at ∙ (ap (λ (l : List Actor). l ++ a ∷ []) s.1.1 ∙ append_assoc s.0 (b ∷ s.1.0) (a ∷ [])) in
      elim (falls_later id actors s.0 b (s.1.0 ++ a ∷ []) tree whole) [
        | inl last ↦ absurd (some s.1.0 last.1)
        | inr k ↦ absurd (root-outside actors id front a tree zero at (subst (λ (j : ℤ). Has j (post_order id actors)) e (subst (Has b.manager) (sym whole) (Has-right b.manager s.0 (b ∷ (s.1.0 ++ a ∷ [])) (inr (has b.manager (s.1.0 ++ a ∷ []) k))))))
      ])
  | inr later ↦ (
      let r = stands-at a.manager back (has a.manager back later) in
      let whole : post_order id actors ≡ (front ++ a ∷ r.front) ++ r.found ∷ r.back = order ∙ (ap (λ (l : List Actor). front ++ a ∷ l) r.whole ∙ sym (append_assoc front (a ∷ r.front) (r.found ∷ r.back))) in
      let managed : made_under r.found.id (front ++ a ∷ r.front) ≡ managed_by r.found.id actors = falls_in_order id actors (front ++ a ∷ r.front) r.found r.back tree whole in
      let parts : made_under a.manager (front ++ a ∷ r.front) ≡ made_under a.manager front ++ a ∷ made_under a.manager r.front =
      made-append a.manager front (a ∷ r.front) ∙ ap (λ (t : Bool). made_under a.manager front ++ cond t (a ∷ made_under a.manager r.front) (made_under a.manager r.front)) (same a.manager a.manager refl) in
      tree-precedes a.manager actors (made_under a.manager front) a (made_under a.manager r.front) b tree (sym (subst (λ (j : ℤ). made_under j (front ++ a ∷ r.front) ≡ managed_by j actors) r.is managed) ∙ parts) (in-made a.manager front b i e))
]
  where
    some : (xs : List Actor) → xs ++ a ∷ [] ≡ [] → ⊥
    some [] e = cc
    some (x ∷ xs) e = cc

-- Below the actor whose subtree falls

-- an id has one actor
same-made : (older later : List Actor) (x y : Actor) → AreMadeAfter older later → In x later → In y later → x.id ≡ y.id → x ≡ y
same-made older [] x y t i j e = elim i [ ]
same-made older (z ∷ later) x y t here here e = refl
same-made older (z ∷ later) x y t here (there j) e = absurd (made-apart older later z y t j e)
same-made older (z ∷ later) x y t (there i) here e = absurd (made-apart older later z x t i (sym e))
same-made older (z ∷ later) x y t (there i) (there j) e = same-made (older ++ z ∷ []) later x y t.2 i j e

pub same-actor : (actors : List Actor) (x y : Actor) → IsTree actors → In x actors → In y actors → x.id ≡ y.id → x ≡ y
same-actor [] x y t i j e = elim i [ ]
same-actor (z ∷ later) x y t here here e = refl
same-actor (z ∷ later) x y t here (there j) e = absurd (apart (z ∷ []) later y.id t.1 (has-in later y j) (inl e))
same-actor (z ∷ later) x y t (there i) here e = absurd (apart (z ∷ []) later x.id t.1 (has-in later x i) (inl (sym e)))
same-actor (z ∷ later) x y t (there i) (there j) e = same-made (z ∷ []) later x y t.1 i j e

-- the actors, as lines show them, the latest first
abbrev latest_first : List Actor → List BuiltActor
latest_first xs = reverse (map shown_actor xs)

latest-more : (older : List Actor) (x : Actor) → latest_first (older ++ x ∷ []) ≡ shown_actor x ∷ latest_first older
latest-more older x = ap reverse (map-more older) ∙ reverse-append (map shown_actor older) (shown_actor x ∷ [])
  where
    map-more : (xs : List Actor) → map shown_actor (xs ++ x ∷ []) ≡ map shown_actor xs ++ shown_actor x ∷ []
    map-more [] = refl
    map-more (y ∷ xs) = ap (λ (l : List BuiltActor). shown_actor y ∷ l) (map-more xs)

climbs-here : (a : BuiltActor) (earlier : List BuiltActor) (id top : ℤ) → a.id ≡ id → (int_eq a.manager top || climbs earlier a.manager top) ≡ true → climbs (a ∷ earlier) id top ≡ true
climbs-here a earlier id top e k = ap (λ (t : Bool). if t then (int_eq a.manager top || climbs earlier a.manager top) else climbs earlier id top) (same a.id id e) ∙ k

climbs-past : (a : BuiltActor) (earlier : List BuiltActor) (id top : ℤ) → a.id ≢ id → climbs earlier id top ≡ true → climbs (a ∷ earlier) id top ≡ true
climbs-past a earlier id top n k = ap (λ (t : Bool). if t then (int_eq a.manager top || climbs earlier a.manager top) else climbs earlier id top) (other a.id id n) ∙ k

pub or-right : (b c : Bool) → c ≡ true → b || c ≡ true
or-right true c e = refl
or-right false c e = e

-- Every actor of some older ones that falls when another falls is below that one.
abbrev AreBelow : ℤ → List Actor → List Actor → Type 0
AreBelow id actors older = (x : Actor) → In x older → In x (post_order id actors) → x.id ≢ id → climbs (latest_first older) x.id id ≡ true

below-more : (id : ℤ) (actors older : List Actor) (c : Actor) → IsTree actors → ((x : Actor) → In x older → In x actors) → lives c.id older ≡ false → (lives c.manager older ≡ true) ⊎ (lives c.manager actors ≡ false) → AreBelow id actors older → AreBelow id actors (older ++ c ∷ [])
below-more id actors older c tree all new manager rec x i falls n = subst (λ (l : List BuiltActor). climbs l x.id id ≡ true) (sym (latest-more older c)) (elim (in-append older (c ∷ []) x i) [
  | inl k ↦ climbs-past (shown_actor c) (latest_first older) x.id id (λ e. has_not c.id older new (subst (λ (j : ℤ). Has j older) (sym e) (has-in older x k))) (rec x k falls n)
  | inr k ↦ one x k falls n
])
  where
    top-of : (s : (front : List Actor) × ((back : List Actor) × (post_order id actors ≡ front ++ c ∷ back))) → c.id ≢ id → climbs (shown_actor c ∷ latest_first older) c.id id ≡ true
    top-of (front, (back, whole)) n = elim (falls_later id actors front c back tree whole) [
      | inl root ↦ absurd (n root.0)
      | inr later ↦ (
          let r = stands-at c.manager back (has c.manager back later) in
          let order : In r.found (post_order id actors) = subst (In r.found) (sym whole) (in-right front (c ∷ back) r.found (there (subst (In r.found) (sym r.whole) (in-right r.front (r.found ∷ r.back) r.found here)))) in
          let lived : In r.found actors = in-order id actors r.found order in
          climbs-here (shown_actor c) (latest_first older) c.id id refl (elim (same_or_other c.manager id) [
            | inl s ↦ ap (λ (b : Bool). b || climbs (latest_first older) c.manager id) (same c.manager id s)
            | inr m ↦ or-right (int_eq c.manager id) (climbs (latest_first older) c.manager id) (elim manager [
              | inl alive ↦ (
                  let o = stands-at c.manager older (has c.manager older alive) in
                  let there_too : In o.found older = subst (In o.found) (sym o.whole) (in-right o.front (o.found ∷ o.back) o.found here) in
                  let is : o.found ≡ r.found = same-actor actors o.found r.found tree (all o.found there_too) lived (o.is ∙ sym r.is) in
                  subst (λ (j : ℤ). climbs (latest_first older) j id ≡ true) o.is (rec o.found there_too (subst (λ (z : Actor). In z (post_order id actors)) (sym is) order) (λ e. m (sym o.is ∙ e))))
              | inr dead ↦ absurd (has_not c.manager actors dead (subst (λ (j : ℤ). Has j actors) r.is (has-in actors r.found lived)))
            ])
          ]))
    ]

    one : (x : Actor) → In x (c ∷ []) → In x (post_order id actors) → x.id ≢ id → climbs (shown_actor c ∷ latest_first older) x.id id ≡ true
    one x here falls n = top-of (splits-at c (post_order id actors) falls) n
    one x (there k) falls n = elim k [ ]

below-all : (id : ℤ) (actors older later : List Actor) → IsTree actors → actors ≡ older ++ later → AreMadeAfter older later → AreBelow id actors older → AreBelow id actors actors
below-all id actors older [] tree is t rec = subst (AreBelow id actors) (append-none older ∙ sym is) rec
  where
    append-none : (xs : List Actor) → xs ≡ xs ++ []
    append-none [] = refl
    append-none (x ∷ xs) = ap (λ (l : List Actor). x ∷ l) (append-none xs)
below-all id actors older (c ∷ later) tree is t rec =
    below-all id actors (older ++ c ∷ []) later tree (is ∙ sym (append_assoc older (c ∷ []) later)) t.2
    (below-more id actors older c tree (λ x i. subst (In x) (sym is) (in-left older (c ∷ later) x i)) t.0 (inl t.1) rec)

-- an actor that falls with another is below it
pub falls-below : (id : ℤ) (actors : List Actor) → IsTree actors → lives (pos 0) actors ≡ false → AreBelow id actors actors
falls-below id [] tree zero = λ x i falls n. elim i [ ]
falls-below id (x ∷ later) tree zero =
    below-all id (x ∷ later) (x ∷ []) later tree refl tree.1
    (below-more id (x ∷ later) [] x tree (λ y i. elim i [ ]) refl (inr (subst (λ (j : ℤ). lives j (x ∷ later) ≡ false) (sym (ap (λ (z : Actor). z.manager) tree.0)) zero)) (λ y i falls n. elim i [ ]))
