-- Changes of actors and ids that keep them known.
use Rattle.std.proofs.Common.{◌≡◌, ◌≢◌, ◌⊎◌, inl, inr, ℕ, ◌+◌, ◌*◌, ◌≤◌, ℤ, Bool, true, false, not, cond, List, [], ◌∷◌, ◌++◌, filter, refl, sym, subst, ◌∙◌, arith}
use Rattle.std.specs.List.{AllByRecursion}
use Rattle.actor_tree.specs.declared.actor.Actor.{Actor}
use Rattle.actor_tree.specs.Fall.{post_order, others, Falls}
use Rattle.actor_tree.specs.Tree.{lives, IsTree}
use Rattle.actor_tree.proofs.Ids.{Has, has, lives-true, lives-false, has_not, Has-append}
use Rattle.actor_tree.proofs.Kept.{IsTree-append, IsTree-without}
use Rattle.actor_tree.proofs.Whole.{gives_subtree}
use Rattle.ipdl_base.specs.declared.kinds.Side.{Side}
use Rattle.ipdl_base.specs.declared.kinds.Side.TheVariants.{Parent, Child}
use Rattle.ipdl_base.specs.Sides.{other, top_id}
use Rattle.channel_model.specs.Numbers.{id_of}
use Rattle.channel_model.specs.Actors.{Ids, IsIdOf, IsTaken, AreDistinct, IsNew, IsTopOf, AreKnown}
use Rattle.channel_model.proofs.Sublists.{Sublist, all-sublist, distinct-sublist}

-- Ids

pub same_id : (side : Side) (j k : ℕ) → id_of side j ≡ id_of side k → j ≡ k
same_id Parent j k e = let f : 4 * j + 2 ≡ 4 * k + 2 = cc in omega arith
same_id Child j k e = let f : 4 * j ≡ 4 * k = cc in omega arith

pub ids_apart : (side : Side) (j k : ℕ) → id_of side j ≢ id_of (other side) k
ids_apart Parent j k e = let f : 4 * j + 2 ≡ 4 * k = cc in absurd (omega arith)
ids_apart Child j k e = let f : 4 * j ≡ 4 * k + 2 = cc in absurd (omega arith)

pub not_top : (side : Side) (k : ℕ) → id_of side k ≢ top_id
not_top Parent k e = let f : 4 * k + 2 ≡ 2147483647 = cc in absurd (omega arith)
not_top Child k e = let f : 4 * k ≡ 2147483647 = cc in absurd (omega arith)

more_ids : (side : Side) (n m : ℕ) (id : ℤ) → n ≤ m → IsIdOf side n id → IsIdOf side m id
more_ids side n m id h (k, one, low, e) = (k, one, omega arith, e)

-- the next id of this side is not taken, and neither is that of the other side
pub own_is_free : (ids : Ids) → ¬ IsTaken ids (id_of ids.side (ids.sent + 1))
own_is_free ids (inl e) = not_top ids.side (ids.sent + 1) e
own_is_free ids (inr (inl (k, one, low, e))) = let f : ids.sent + 1 ≡ k = same_id ids.side (ids.sent + 1) k e in absurd (omega arith)
own_is_free ids (inr (inr (k, one, low, e))) = ids_apart ids.side (ids.sent + 1) k e

others_is_free : (ids : Ids) → ¬ IsTaken ids (id_of (other ids.side) (ids.delivered + 1))
others_is_free ids (inl e) = not_top (other ids.side) (ids.delivered + 1) e
others_is_free ids (inr (inl (k, one, low, e))) = ids_apart ids.side k (ids.delivered + 1) (sym e)
others_is_free ids (inr (inr (k, one, low, e))) = let f : ids.delivered + 1 ≡ k = same_id (other ids.side) (ids.delivered + 1) k e in absurd (omega arith)

-- Lists

pub all-map : {A : Type 0} (P Q : A → Type 0) (xs : List A) → ((x : A) → P x → Q x) → AllByRecursion P xs → AllByRecursion Q xs
all-map P Q [] h k = tt
all-map P Q (x ∷ xs) h k = (h x k.0, all-map P Q xs h k.1)

pub all-both : {A : Type 0} (P Q R : A → Type 0) (xs : List A) → ((x : A) → P x → Q x → R x) → AllByRecursion P xs → AllByRecursion Q xs → AllByRecursion R xs
all-both P Q R [] h k l = tt
all-both P Q R (x ∷ xs) h k l = (h x k.0 l.0, all-both P Q R xs h k.1 l.1)

pub all-append : {A : Type 0} (P : A → Type 0) (xs ys : List A) → AllByRecursion P xs → AllByRecursion P ys → AllByRecursion P (xs ++ ys)
all-append P [] ys h k = k
all-append P (x ∷ xs) ys h k = (h.0, all-append P xs ys h.1 k)

pub all-before : {A : Type 0} (P : A → Type 0) (xs ys : List A) → AllByRecursion P (xs ++ ys) → AllByRecursion P xs
all-before P [] ys h = tt
all-before P (x ∷ xs) ys h = (h.0, all-before P xs ys h.1)

pub all-following : {A : Type 0} (P : A → Type 0) (xs ys : List A) → AllByRecursion P (xs ++ ys) → AllByRecursion P ys
all-following P [] ys h = h
all-following P (x ∷ xs) ys h = all-following P xs ys h.1

pub all-filter : {A : Type 0} (P : A → Type 0) (test : A → Bool) (xs : List A) → AllByRecursion P xs → AllByRecursion P (filter test xs)
all-filter P test [] h = tt
all-filter P test (x ∷ xs) h = elim (test x) as (λ b. AllByRecursion P (cond b (x ∷ filter test xs) (filter test xs))) [
  | true ↦ (h.0, all-filter P test xs h.1)
  | false ↦ all-filter P test xs h.1
]

pub distinct-last : (xs : List ℤ) (y : ℤ) → AreDistinct xs → AllByRecursion (λ x. x ≢ y) xs → AreDistinct (xs ++ y ∷ [])
distinct-last [] y d h = (tt, tt)
distinct-last (x ∷ xs) y d h = (all-append (λ later. x ≢ later) xs (y ∷ []) d.0 (h.0, tt), distinct-last xs y d.1 h.1)

-- one of distinct ids differs from those before and after it
pub distinct-from : (xs : List ℤ) (y : ℤ) (zs : List ℤ) → AreDistinct (xs ++ y ∷ zs) → AllByRecursion (λ x. x ≢ y) (xs ++ zs)
distinct-from [] y zs d = all-map (λ later. y ≢ later) (λ x. x ≢ y) zs (λ x n e. n (sym e)) d.0
distinct-from (x ∷ xs) y zs d = ((all-following (λ later. x ≢ later) xs (y ∷ zs) d.0).0, distinct-from xs y zs d.1)

pub distinct-without : (xs : List ℤ) (y : ℤ) (zs : List ℤ) → AreDistinct (xs ++ y ∷ zs) → AreDistinct (xs ++ zs)
distinct-without [] y zs d = d.1
distinct-without (x ∷ xs) y zs d =
    (all-append (λ later. x ≢ later) xs zs (all-before (λ later. x ≢ later) xs (y ∷ zs) d.0) (all-following (λ later. x ≢ later) xs (y ∷ zs) d.0).1, distinct-without xs y zs d.1)

-- Actors

pub dead-append : (id : ℤ) (actors : List Actor) (a : Actor) → lives id actors ≡ false → id ≢ a.id → lives id (actors ++ a ∷ []) ≡ false
dead-append id actors a h n = lives-false id (actors ++ a ∷ []) (λ k. elim (Has-append id actors (a ∷ []) k) [
  | inl p ↦ has_not id actors h p
  | inr p ↦ elim p [ inl e ↦ n (sym e) | inr q ↦ absurd q ]
])

pub living-append : (id : ℤ) (actors : List Actor) (a : Actor) → lives id (actors ++ a ∷ []) ≡ true → (lives id actors ≡ true) ⊎ (a.id ≡ id)
living-append id actors a h = elim (Has-append id actors (a ∷ []) (has id (actors ++ a ∷ []) h)) [
  | inl p ↦ inl (lives-true id actors p)
  | inr p ↦ elim p [ inl e ↦ inr e | inr q ↦ absurd q ]
]

Has-if : (id : ℤ) (b : Bool) (a : Actor) (some all : List Actor) → (Has id some → Has id all) → Has id (cond b (a ∷ some) some) → Has id (a ∷ all)
Has-if id true a some all k (inl e) = inl e
Has-if id true a some all k (inr h) = inr (k h)
Has-if id false a some all k h = inr (k h)

pub Has-filter : (id : ℤ) (test : Actor → Bool) (actors : List Actor) → Has id (filter test actors) → Has id actors
Has-filter id test [] h = absurd h
Has-filter id test (a ∷ actors) h = Has-if id (test a) a (filter test actors) actors (Has-filter id test actors) h

pub dead-filter : (id : ℤ) (test : Actor → Bool) (actors : List Actor) → lives id actors ≡ false → lives id (filter test actors) ≡ false
dead-filter id test actors h = lives-false id (filter test actors) (λ k. has_not id actors h (Has-filter id test actors k))

tree-falls : (id : ℤ) (actors given left : List Actor) → IsTree actors → Falls id actors given left → IsTree left
tree-falls id actors [] left t f = subst IsTree (sym f.left) t
tree-falls id actors (a ∷ given) left t f =
    let next = f.1 in
    tree-falls id f.0 given left (subst IsTree (sym next.left) (IsTree-without actors id a (post_order id f.0) t next.next)) f.2

-- the actors that do not fall are a tree
pub tree-others : (id : ℤ) (actors : List Actor) → IsTree actors → IsTree (others (post_order id actors) actors)
tree-others id actors t =
    tree-falls id actors (post_order id actors) (others (post_order id actors) actors) t ((gives_subtree id actors (post_order id actors) (others (post_order id actors) actors) t).1 (refl, refl))

-- What keeps actors known

pub known-counted : (protocol : ℕ) (ids : Ids) → AreKnown protocol ids → AreKnown protocol (record ids { sent = ids.sent + 1 })
known-counted protocol ids h = record {
  tree = h.tree;
  top = h.top;
  taken = λ id k. elim (h.taken id k) [
    | inl e ↦ inl e
    | inr t ↦ inr (elim t [ inl own ↦ inl (more_ids ids.side ids.sent (ids.sent + 1) id (omega arith) own) | inr others ↦ inr others ])
  ];
  waiting = h.waiting;
  distinct = h.distinct;
}

-- An id that may be built: it is taken, and no actor that lives or has arrived has it.
abbrev pub IsFresh : Ids → ℤ → Type 0
IsFresh ids id = (IsIdOf ids.side ids.sent id ⊎ IsIdOf (other ids.side) ids.delivered id) × (lives id ids.actors ≡ false) × AllByRecursion (λ x. x ≢ id) ids.waiting

not_top_of : (ids : Ids) (id : ℤ) → IsIdOf ids.side ids.sent id ⊎ IsIdOf (other ids.side) ids.delivered id → id ≢ top_id
not_top_of ids id (inl (k, one, low, is)) e = not_top ids.side k (sym is ∙ e)
not_top_of ids id (inr (k, one, low, is)) e = not_top (other ids.side) k (sym is ∙ e)

-- an actor is built
pub known-built : (protocol : ℕ) (ids : Ids) (a : Actor) → AreKnown protocol ids → IsFresh ids a.id → lives a.manager ids.actors ≡ true → AreKnown protocol (record ids { actors = ids.actors ++ a ∷ [] })
known-built protocol ids a h fresh manager = record {
  tree = IsTree-append ids.actors a h.tree fresh.1 manager;
  top = all-append (IsTopOf protocol) ids.actors (a ∷ []) h.top ((λ e. absurd (not_top_of ids a.id fresh.0 e)), tt);
  taken = λ id k. elim (living-append id ids.actors a k) [
    | inl before ↦ h.taken id before
    | inr e ↦ inr (subst (λ (x : ℤ). IsIdOf ids.side ids.sent x ⊎ IsIdOf (other ids.side) ids.delivered x) e fresh.0)
  ];
  waiting = all-both (IsNew ids) (λ x. x ≢ a.id) (IsNew (record ids { actors = ids.actors ++ a ∷ [] })) ids.waiting (λ id new differs. (new.0, dead-append id ids.actors a new.1 differs)) h.waiting fresh.2;
  distinct = h.distinct;
}

-- the next id of this side, when it is counted
pub fresh-own : (protocol : ℕ) (ids : Ids) → AreKnown protocol ids → IsFresh (record ids { sent = ids.sent + 1 }) (id_of ids.side (ids.sent + 1))
fresh-own protocol ids h =
    let id : ℤ = id_of ids.side (ids.sent + 1) in (
      inl (ids.sent + 1, omega arith, omega arith, refl),
      lives-false id ids.actors (λ k. own_is_free ids (h.taken id (lives-true id ids.actors k))),
      all-map (IsNew ids) (λ x. x ≢ id) ids.waiting (λ x new e. ids_apart ids.side (ids.sent + 1) new.0.0 (sym e ∙ new.0.3)) h.waiting,
    )

-- an id that has arrived, when it has left
pub fresh-arrived : (protocol : ℕ) (ids : Ids) (id : ℤ) (before following : List ℤ) → AreKnown protocol ids → ids.waiting ≡ before ++ id ∷ following → IsFresh (record ids { waiting = before ++ following }) id
fresh-arrived protocol ids id before following h is =
    let new : IsNew ids id = (all-following (IsNew ids) before (id ∷ following) (subst (AllByRecursion (IsNew ids)) is h.waiting)).0 in
    (inr new.0, new.1, distinct-from before id following (subst AreDistinct is h.distinct))

-- some items that have arrived are dropped
pub known-fewer : (protocol : ℕ) (ids : Ids) (some : List ℤ) → AreKnown protocol ids → Sublist some ids.waiting → AreKnown protocol (record ids { waiting = some })
known-fewer protocol ids some h s = record {
  tree = h.tree;
  top = h.top;
  taken = h.taken;
  waiting = all-sublist (IsNew ids) some ids.waiting s h.waiting;
  distinct = distinct-sublist some ids.waiting s h.distinct;
}

-- a constructor of the other side arrives
pub known-arrives : (protocol : ℕ) (ids : Ids) (some : List ℤ) (made : ℤ) → AreKnown protocol ids → Sublist some ids.waiting → made ≡ id_of (other ids.side) (ids.delivered + 1)
    → AreKnown protocol (record ids { delivered = ids.delivered + 1; waiting = some ++ made ∷ [] })
known-arrives protocol ids some made h s is =
    let new : Ids = record ids { delivered = ids.delivered + 1; waiting = some ++ made ∷ [] } in
    let fewer : AllByRecursion (IsNew ids) some = all-sublist (IsNew ids) some ids.waiting s h.waiting in
    let free : lives made ids.actors ≡ false = lives-false made ids.actors (λ k. others_is_free ids (subst (IsTaken ids) is (h.taken made (lives-true made ids.actors k)))) in
    record {
      tree = h.tree;
      top = h.top;
      taken = λ id k. elim (h.taken id k) [
        | inl e ↦ inl e
        | inr t ↦ inr (elim t [ inl own ↦ inl own | inr others ↦ inr (more_ids (other ids.side) ids.delivered (ids.delivered + 1) id (omega arith) others) ])
      ];
      waiting = all-append (IsNew new) some (made ∷ [])
          (all-map (IsNew ids) (IsNew new) some (λ id old. (more_ids (other ids.side) ids.delivered (ids.delivered + 1) id (omega arith) old.0, old.1)) fewer)
          (((ids.delivered + 1, omega arith, omega arith, is), free), tt);
      distinct = distinct-last some made (distinct-sublist some ids.waiting s h.distinct)
          (all-map (IsNew ids) (λ x. x ≢ made) some (λ id old e. others_is_free ids (inr (inr (subst (IsIdOf (other ids.side) ids.delivered) (e ∙ is) old.0)))) fewer);
    }

-- a subtree falls
pub known-fallen : (protocol : ℕ) (ids : Ids) (id : ℤ) → AreKnown protocol ids → AreKnown protocol (record ids { actors = others (post_order id ids.actors) ids.actors })
known-fallen protocol ids id h =
    let test : Actor → Bool = λ a. not (lives a.id (post_order id ids.actors)) in
    record {
      tree = tree-others id ids.actors h.tree;
      top = all-filter (IsTopOf protocol) test ids.actors h.top;
      taken = λ x k. h.taken x (lives-true x ids.actors (Has-filter x test ids.actors (has x (filter test ids.actors) k)));
      waiting = all-map (IsNew ids) (IsNew (record ids { actors = filter test ids.actors })) ids.waiting (λ x new. (new.0, dead-filter x test ids.actors new.1)) h.waiting;
      distinct = h.distinct;
    }
