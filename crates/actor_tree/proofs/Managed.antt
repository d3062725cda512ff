-- Those that an actor manages, as a list of ids, and the actor of an id.
use Rattle.std.proofs.Common.{◌≡◌, ◌≢◌, inl, inr, ℤ, true, false, not, ◌&&◌, cond, List, [], ◌∷◌, ◌++◌, Option, Some, None, is_some, refl, sym, ap, ◌∙◌, subst, int_eq, true≢false, append_assoc}
use Rattle.std.proofs.lemmas.Bool.{cases_Bool}
use Rattle.actor_tree.specs.declared.actor.Actor.{Actor}
use Rattle.actor_tree.specs.Tree.{actor_of, without, AreMadeAfter, IsTree}
use Rattle.actor_tree.specs.Laws.{EachOnce}
use Rattle.linked_lists.specs.Neighbours.{omit, IsIn, AreDistinct}
use Rattle.ipdl_base.specs.Sides.{top_id}
use Rattle.actor_tree.specs.Links.{is_under, managed_ids}
use Rattle.actor_tree.proofs.Ids.{id_test, same, other, same_or_other, Has, has, has_not, lives-false, Has-left, Has-last, without-same, without-other}
use Rattle.actor_tree.proofs.Below.{apart}
use Rattle.linked_lists.proofs.NeighbourLemmas.{omit-same, omit-other}

-- ---- the actor of an id

pub of-same : (i : ℤ) (a : Actor) (actors : List Actor) → a.id ≡ i → actor_of i (a ∷ actors) ≡ Some a
of-same i a actors e = ap (λ v. cond v (Some a) (actor_of i actors)) (same a.id i e)

pub of-other : (i : ℤ) (a : Actor) (actors : List Actor) → a.id ≢ i → actor_of i (a ∷ actors) ≡ actor_of i actors
of-other i a actors n = ap (λ v. cond v (Some a) (actor_of i actors)) (other a.id i n)

pub of-id : (i : ℤ) (actors : List Actor) (b : Actor) → actor_of i actors ≡ Some b → b.id ≡ i
of-id i [] b e = cc
of-id i (a ∷ actors) b e =
    elim (same_or_other a.id i) [
      | inl f ↦ (let k : a ≡ b = (let g = sym (of-same i a actors f) ∙ e in cc) in sym (ap (λ v. v.id) k) ∙ f)
      | inr n ↦ of-id i actors b (sym (of-other i a actors n) ∙ e)
    ]

pub of-has : (i : ℤ) (actors : List Actor) (b : Actor) → actor_of i actors ≡ Some b → Has i actors
of-has i actors b e = has i actors (ap is_some e)

pub of-none : (i : ℤ) (actors : List Actor) → actor_of i actors ≡ None → Has i actors → ⊥
of-none i actors e h = has_not i actors (ap is_some e) h

pub of-some : (i : ℤ) (actors : List Actor) → Has i actors → (b : Actor) × (actor_of i actors ≡ Some b)
of-some i actors h = by (actor_of i actors) refl
  where
    by : (o : Option Actor) → actor_of i actors ≡ o → (b : Actor) × (actor_of i actors ≡ Some b)
    by None e = absurd (of-none i actors e h)
    by (Some b) e = (b, e)

pub of-append-old : (i : ℤ) (actors : List Actor) (a b : Actor) → actor_of i actors ≡ Some b → actor_of i (actors ++ a ∷ []) ≡ Some b
of-append-old i [] a b e = cc
of-append-old i (c ∷ actors) a b e =
    elim (same_or_other c.id i) [
      | inl f ↦ of-same i c (actors ++ a ∷ []) f ∙ sym (of-same i c actors f) ∙ e
      | inr n ↦ of-other i c (actors ++ a ∷ []) n ∙ of-append-old i actors a b (sym (of-other i c actors n) ∙ e)
    ]

pub of-append-new : (i : ℤ) (actors : List Actor) (a : Actor) → (Has i actors → ⊥) → actor_of i (actors ++ a ∷ []) ≡ actor_of i (a ∷ [])
of-append-new i [] a n = refl
of-append-new i (c ∷ actors) a n =
    of-other i c (actors ++ a ∷ []) (λ e. n (inl e)) ∙ of-append-new i actors a (λ h. n (inr h))

pub of-without-same : (i : ℤ) (actors : List Actor) → actor_of i (without i actors) ≡ None
of-without-same i [] = refl
of-without-same i (a ∷ actors) =
    elim (same_or_other a.id i) [
      | inl e ↦ ap (actor_of i) (without-same i a actors e) ∙ of-without-same i actors
      | inr n ↦ ap (actor_of i) (without-other i a actors n) ∙ of-other i a (without i actors) n ∙ of-without-same i actors
    ]

pub of-without-other : (j i : ℤ) (actors : List Actor) → j ≢ i → actor_of j (without i actors) ≡ actor_of j actors
of-without-other j i [] n = refl
of-without-other j i (a ∷ actors) n =
    elim (same_or_other a.id i) [
      | inl e ↦ ap (actor_of j) (without-same i a actors e) ∙ of-without-other j i actors n ∙ sym (of-other j a actors (λ f. n (sym f ∙ e)))
      | inr m ↦ ap (actor_of j) (without-other i a actors m) ∙ elim (same_or_other a.id j) [
        | inl e ↦ of-same j a (without i actors) e ∙ sym (of-same j a actors e)
        | inr l ↦ of-other j a (without i actors) l ∙ of-without-other j i actors n ∙ sym (of-other j a actors l)
      ]
    ]

-- ---- who is under whom

pub under-true : (m : ℤ) (a : Actor) → a.id ≢ top_id → a.manager ≡ m → is_under m a ≡ true
under-true m a n e = ap (λ v. not v && int_eq a.manager m) (other a.id top_id n) ∙ same a.manager m e

pub under-top : (m : ℤ) (a : Actor) → a.id ≡ top_id → is_under m a ≡ false
under-top m a e = ap (λ v. not v && int_eq a.manager m) (same a.id top_id e)

pub under-other : (m : ℤ) (a : Actor) → a.manager ≢ m → is_under m a ≡ false
under-other m a n = elim (same_or_other a.id top_id) [
  | inl e ↦ under-top m a e
  | inr k ↦ ap (λ v. not v && int_eq a.manager m) (other a.id top_id k) ∙ other a.manager m n
]

pub under-is : (m : ℤ) (a : Actor) → is_under m a ≡ true → (a.id ≢ top_id) × (a.manager ≡ m)
under-is m a h = (
  (λ e. true≢false (sym h ∙ under-top m a e)),
  elim (same_or_other a.manager m) [ inl e ↦ e | inr n ↦ absurd (true≢false (sym h ∙ under-other m a n)) ],
)

pub managed-under : (m : ℤ) (a : Actor) (actors : List Actor) → is_under m a ≡ true → managed_ids m (a ∷ actors) ≡ a.id ∷ managed_ids m actors
managed-under m a actors e = ap (λ v. cond v (a.id ∷ managed_ids m actors) (managed_ids m actors)) e

pub managed-not : (m : ℤ) (a : Actor) (actors : List Actor) → is_under m a ≡ false → managed_ids m (a ∷ actors) ≡ managed_ids m actors
managed-not m a actors e = ap (λ v. cond v (a.id ∷ managed_ids m actors) (managed_ids m actors)) e

pub managed-append : (m : ℤ) (actors : List Actor) (a : Actor) → is_under m a ≡ true → managed_ids m (actors ++ a ∷ []) ≡ managed_ids m actors ++ a.id ∷ []
managed-append m [] a u = managed-under m a [] u
managed-append m (b ∷ actors) a u =
    elim (cases_Bool (is_under m b)) [
      | inl e ↦ managed-under m b (actors ++ a ∷ []) e ∙ ap (λ v. b.id ∷ v) (managed-append m actors a u) ∙ ap (λ v. v ++ a.id ∷ []) (sym (managed-under m b actors e))
      | inr n ↦ managed-not m b (actors ++ a ∷ []) n ∙ managed-append m actors a u ∙ ap (λ v. v ++ a.id ∷ []) (sym (managed-not m b actors n))
    ]

pub managed-append-not : (m : ℤ) (actors : List Actor) (a : Actor) → is_under m a ≡ false → managed_ids m (actors ++ a ∷ []) ≡ managed_ids m actors
managed-append-not m [] a u = managed-not m a [] u
managed-append-not m (b ∷ actors) a u =
    ap (λ v. cond (is_under m b) (b.id ∷ v) v) (managed-append-not m actors a u)

pub managed-without : (m i : ℤ) (actors : List Actor) → managed_ids m (without i actors) ≡ omit int_eq i (managed_ids m actors)
managed-without m i [] = refl
managed-without m i (b ∷ actors) =
    elim (cases_Bool (is_under m b)) [
      | inl e ↦ elim (same_or_other b.id i) [
        | inl f ↦ ap (managed_ids m) (without-same i b actors f) ∙ managed-without m i actors ∙ sym (omit-same id_test i b.id (managed_ids m actors) f) ∙ ap (omit int_eq i) (sym (managed-under m b actors e))
        | inr n ↦ ap (managed_ids m) (without-other i b actors n) ∙ managed-under m b (without i actors) e ∙ ap (λ v. b.id ∷ v) (managed-without m i actors)
            ∙ sym (omit-other id_test i b.id (managed_ids m actors) n) ∙ ap (omit int_eq i) (sym (managed-under m b actors e))
      ]
      | inr u ↦ elim (same_or_other b.id i) [
        | inl f ↦ ap (managed_ids m) (without-same i b actors f) ∙ managed-without m i actors ∙ ap (omit int_eq i) (sym (managed-not m b actors u))
        | inr n ↦ ap (managed_ids m) (without-other i b actors n) ∙ managed-not m b (without i actors) u ∙ managed-without m i actors ∙ ap (omit int_eq i) (sym (managed-not m b actors u))
      ]
    ]

pub managed-has : (m i : ℤ) (actors : List Actor) → IsIn i (managed_ids m actors) → Has i actors
managed-has m i [] h = absurd h
managed-has m i (b ∷ actors) h =
    elim (cases_Bool (is_under m b)) [
      | inl e ↦ elim (subst (IsIn i) (managed-under m b actors e) h) [ inl f ↦ inl f | inr k ↦ inr (managed-has m i actors k) ]
      | inr n ↦ inr (managed-has m i actors (subst (IsIn i) (managed-not m b actors n) h))
    ]

pub managed-once : (m : ℤ) (actors : List Actor) → EachOnce actors → AreDistinct (managed_ids m actors)
managed-once m [] o = tt
managed-once m (b ∷ actors) o =
    elim (cases_Bool (is_under m b)) [
      | inl e ↦ subst AreDistinct (sym (managed-under m b actors e)) (λ h. has_not b.id actors o.0 (managed-has m b.id actors h), managed-once m actors o.1)
      | inr n ↦ subst AreDistinct (sym (managed-not m b actors n)) (managed-once m actors o.1)
    ]

-- one that an actor manages lives, and is under it
pub managed-of : (m i : ℤ) (actors : List Actor) → EachOnce actors → IsIn i (managed_ids m actors) → (b : Actor) × (actor_of i actors ≡ Some b) × (is_under m b ≡ true)
managed-of m i [] o h = absurd h
managed-of m i (a ∷ actors) o h =
    let later : IsIn i (managed_ids m actors) → (b : Actor) × (actor_of i (a ∷ actors) ≡ Some b) × (is_under m b ≡ true) = λ k.
    (let r = managed-of m i actors o.1 k in
    (r.0, of-other i a actors (λ e. has_not a.id actors o.0 (subst (λ v. Has v actors) (sym e) (managed-has m i actors k))) ∙ r.1, r.2)) in
    elim (cases_Bool (is_under m a)) [
      | inl e ↦ elim (subst (IsIn i) (managed-under m a actors e) h) [ inl f ↦ (a, of-same i a actors f, e) | inr k ↦ later k ]
      | inr n ↦ later (subst (IsIn i) (managed-not m a actors n) h)
    ]

pub managed-in : (m i : ℤ) (actors : List Actor) (b : Actor) → actor_of i actors ≡ Some b → is_under m b ≡ true → IsIn i (managed_ids m actors)
managed-in m i [] b e u = cc
managed-in m i (a ∷ actors) b e u =
    elim (same_or_other a.id i) [
      | inl f ↦ (let k : a ≡ b = (let g = sym (of-same i a actors f) ∙ e in cc) in
          subst (IsIn i) (sym (managed-under m a actors (ap (is_under m) k ∙ u))) (inl f))
      | inr n ↦ (let r = managed-in m i actors b (sym (of-other i a actors n) ∙ e) u in
          elim (cases_Bool (is_under m a)) [
            | inl v ↦ subst (IsIn i) (sym (managed-under m a actors v)) (inr r)
            | inr v ↦ subst (IsIn i) (sym (managed-not m a actors v)) r
          ])
    ]

-- ---- what a tree is

made-once : (older later : List Actor) → AreMadeAfter older later → EachOnce later
made-once older [] t = tt
made-once older (a ∷ later) t =
    (lives-false a.id later (λ h. apart (older ++ a ∷ []) later a.id t.2 h (Has-last a.id older a refl)), made-once (older ++ a ∷ []) later t.2)

pub tree-once : (actors : List Actor) → IsTree actors → EachOnce actors
tree-once [] t = tt
tree-once (a ∷ later) t =
    (lives-false a.id later (λ h. apart (a ∷ []) later a.id t.1 h (inl refl)), made-once (a ∷ []) later t.1)

made-manager : (older later : List Actor) (i : ℤ) (b : Actor) → AreMadeAfter older later → actor_of i later ≡ Some b → Has b.manager (older ++ later)
made-manager older [] i b t e = cc
made-manager older (a ∷ later) i b t e =
    elim (same_or_other a.id i) [
      | inl f ↦ (let k : a ≡ b = (let g = sym (of-same i a later f) ∙ e in cc) in
          Has-left b.manager older (a ∷ later) (subst (λ v. Has v.manager older) k (has a.manager older t.1)))
      | inr n ↦ subst (Has b.manager) (append_assoc older (a ∷ []) later) (made-manager (older ++ a ∷ []) later i b t.2 (sym (of-other i a later n) ∙ e))
    ]

-- the manager of each but the top actor lives
pub tree-manager : (actors : List Actor) (i : ℤ) (b : Actor) → IsTree actors → actor_of i actors ≡ Some b → b.id ≢ top_id → Has b.manager actors
tree-manager [] i b t e n = cc
tree-manager (a ∷ later) i b t e n =
    elim (same_or_other a.id i) [
      | inl f ↦ (let k : a ≡ b = (let g = sym (of-same i a later f) ∙ e in cc) in
          absurd (n (ap (λ v. v.id) (sym k) ∙ ap (λ v. v.id) t.0)))
      | inr m ↦ made-manager (a ∷ []) later i b t.1 (sym (of-other i a later m) ∙ e)
    ]

pub tree-top : (actors : List Actor) (i : ℤ) → IsTree actors → Has i actors → Has top_id actors
tree-top [] i t h = absurd h
tree-top (a ∷ later) i t h = inl (ap (λ v. v.id) t.0)
