-- The links represent the living actors and one more, which is the youngest.
use Rattle.std.proofs.Common.{◌≡◌, ◌≢◌, inl, inr, ℕ, ℤ, Bool, true, false, cond, List, [], ◌∷◌, ◌++◌, Option, Some, None, is_some, refl, sym, ap, ◌∙◌, subst, int_eq}
use Rattle.std.specs.Option.{option_map}
use Rattle.actor_tree.specs.declared.actor.Actor.{Actor}
use Rattle.actor_tree.specs.declared.node.Node.{Node}
use Rattle.actor_tree.specs.Tree.{actor_of, IsTree}
use Rattle.actor_tree.specs.Node.{instead_of, attached}
use Rattle.linked_lists.specs.Links.{key_eq}
use Rattle.linked_lists.specs.Neighbours.{is_the, head, last, after, before, IsIn, AreDistinct}
use Rattle.ipdl_base.specs.Sides.{top_id}
use Rattle.actor_tree.specs.Links.{managed_ids, link, node_of, IsLinkedAt, AreLinked}
use Rattle.actor_tree.proofs.Ids.{id_test, same, other, same_or_other, Has, lives-true, lives-false}
use Rattle.actor_tree.proofs.Kept.{IsTree-append}
use Rattle.linked_lists.proofs.KeyTest.{key_test}
use Rattle.linked_lists.proofs.NeighbourLemmas.{other as other_key, before-of-in, last-of-in, is_the-other, head-in, after-in, head-push, last-push, after-push, after-push-new, before-push, before-push-new}
use Rattle.actor_tree.proofs.Managed.{of-same, of-other, of-id, of-has, of-none, of-append-old, of-append-new, under-true, under-other, under-is, managed-append, managed-append-not, managed-has, managed-once, managed-of, tree-once, tree-manager, tree-top}
use Rattle.actor_tree.proofs.LinkLemmas.{Lives, node-at, no_key, has-key, lives-at, at-the, some-link, instead-at, link-same}

pub link-cond : (key_of : ℤ → Option ℕ) (v : Bool) (o p : Option ℤ) → link key_of (cond v o p) ≡ cond v (link key_of o) (link key_of p)
link-cond key_of true o p = refl
link-cond key_of false o p = refl

pub turned : {A : Type 0} (v : Bool) (x y : A) → cond v x y ≡ cond (cond v false true) y x
turned true x y = refl
turned false x y = refl

pub neither : (v : Bool) → cond v false false ≡ false
neither true = refl
neither false = refl

-- nobody is under an id that does not live
managed-nobody : (i : ℤ) (actors : List Actor) → IsTree actors → (Has i actors → ⊥) → managed_ids i actors ≡ []
managed-nobody i actors t n = by (managed_ids i actors) refl
  where
    by : (ks : List ℤ) → managed_ids i actors ≡ ks → managed_ids i actors ≡ []
    by [] e = e
    by (k ∷ ks) e =
        let b = managed-of i k actors (tree-once actors t) (subst (IsIn k) (sym e) (inl refl)) in
        let u = under-is i b.0 b.2 in
        absurd (n (subst (λ v. Has v actors) u.1 (tree-manager actors k b.0 t b.1 u.0)))

module _ (key_of key_of' : ℤ → Option ℕ) (node node' : ℕ → Option Node) (actors : List Actor) (a : Actor) (manager key : ℕ)
    (s : AreLinked key_of node actors)
    (fresh : actor_of a.id actors ≡ None)
    (manager_key : key_of a.manager ≡ Some manager)
    (free : node key ≡ None)
    (p-new : key_of' a.id ≡ Some key)
    (p-old : (i : ℤ) → i ≢ a.id → key_of' i ≡ key_of i) where
  abbrev ours : List ℤ
  ours = managed_ids a.manager actors

  abbrev more : List Actor
  more = actors ++ a ∷ []

  abbrev previous : Option ℕ
  previous = link key_of (last ours)

  has_m : Has a.manager actors
  has_m = let m = lives-at key_of node actors s a.manager manager manager_key in of-has a.manager actors m.0 m.1

  absent : Has a.id actors → ⊥
  absent h = of-none a.id actors fresh h

  not_top : a.id ≢ top_id
  not_top e = absent (subst (λ v. Has v actors) (sym e) (tree-top actors a.manager s.tree has_m))

  not_self : a.manager ≢ a.id
  not_self e = absent (subst (λ v. Has v actors) e has_m)

  once : (m : ℤ) → AreDistinct (managed_ids m actors)
  once m = managed-once m actors (tree-once actors s.tree)

  kept : (j : ℤ) → Has j actors → key_of' j ≡ key_of j
  kept j h = p-old j (λ e. absent (subst (λ v. Has v actors) e h))

  link-kept : (o : Option ℤ) → Lives actors o → link key_of' o ≡ link key_of o
  link-kept o l = link-same key_of key_of' o (λ j e. kept j (l j e))

  managed-ours : (m : ℤ) → a.manager ≡ m → managed_ids m more ≡ managed_ids m actors ++ a.id ∷ []
  managed-ours m e = managed-append m actors a (under-true m a not_top e)

  managed-else : (m : ℤ) → a.manager ≢ m → managed_ids m more ≡ managed_ids m actors
  managed-else m n = managed-append-not m actors a (under-other m a n)

  lives-head : (m : ℤ) → Lives actors (head (managed_ids m actors))
  lives-head m j e = managed-has m j actors (head-in (managed_ids m actors) j e)

  lives-last : (m : ℤ) → Lives actors (last (managed_ids m actors))
  lives-last m j e = managed-has m j actors (last-of-in (managed_ids m actors) j e)

  lives-after : (i m : ℤ) → Lives actors (after int_eq i (managed_ids m actors))
  lives-after i m j e = managed-has m j actors (after-in id_test i (managed_ids m actors) j e)

  lives-before : (i m : ℤ) → Lives actors (before int_eq i (managed_ids m actors))
  lives-before i m j e = managed-has m j actors (before-of-in id_test i (managed_ids m actors) j e)

  -- ---- an actor that lived

  module _ (b : Actor) (here : ℕ) (e : actor_of b.id actors ≡ Some b) (p : key_of b.id ≡ Some here) where
    not_new : b.id ≢ a.id
    not_new f = absent (subst (λ v. Has v actors) f (of-has b.id actors b e))

    at_m : is_the key_eq (Some manager) here ≡ int_eq a.manager b.id
    at_m = ap (λ v. is_the key_eq v here) (sym manager_key) ∙ at-the key_of node actors s (Some a.manager) b.id here (λ j f. subst (λ v. Has v actors) (let g : a.manager ≡ j = cc in g) has_m) p

    at_p : is_the key_eq previous here ≡ is_the int_eq (last ours) b.id
    at_p = at-the key_of node actors s (last ours) b.id here (lives-last a.manager) p

    at_i : is_the key_eq (instead_of previous (Some manager)) here ≡ cond (is_some (last ours)) false (int_eq a.manager b.id)
    at_i = instead-at previous (Some manager) here
        ∙ ap (λ v. cond v false (is_the key_eq (Some manager) here)) (some-link key_of node actors s (last ours) (lives-last a.manager))
        ∙ ap (λ v. cond (is_some (last ours)) false v) at_m

    f-manager : cond (int_eq b.id top_id) None (key_of' b.manager) ≡ cond (int_eq b.id top_id) None (key_of b.manager)
    f-manager = elim (same_or_other b.id top_id) [
      | inl f ↦ ap (λ v. cond v None (key_of' b.manager)) (same b.id top_id f) ∙ ap (λ v. cond v None (key_of b.manager)) (sym (same b.id top_id f))
      | inr n ↦ ap (λ v. cond (int_eq b.id top_id) None v) (kept b.manager (tree-manager actors b.id b s.tree e n))
    ]

    f-first : link key_of' (head (managed_ids b.id more)) ≡ cond (is_the key_eq (instead_of previous (Some manager)) here) (Some key) (link key_of (head (managed_ids b.id actors)))
    f-first = elim (same_or_other a.manager b.id) [
      | inl f ↦ ap (λ v. link key_of' (head v)) (managed-ours b.id f) ∙ ap (link key_of') (head-push (managed_ids b.id actors) a.id)
          ∙ link-cond key_of' (is_some (last (managed_ids b.id actors))) (head (managed_ids b.id actors)) (Some a.id)
          ∙ ap (λ v. cond (is_some (last (managed_ids b.id actors))) v (key_of' a.id)) (link-kept (head (managed_ids b.id actors)) (lives-head b.id))
          ∙ ap (λ v. cond (is_some (last (managed_ids b.id actors))) (link key_of (head (managed_ids b.id actors))) v) p-new
          ∙ ap (λ v. cond (is_some (last (managed_ids v actors))) (link key_of (head (managed_ids b.id actors))) (Some key)) (sym f)
          ∙ turned (is_some (last ours)) (link key_of (head (managed_ids b.id actors))) (Some key)
          ∙ ap (λ v. cond (cond (is_some (last ours)) false v) (Some key) (link key_of (head (managed_ids b.id actors)))) (sym (same a.manager b.id f))
          ∙ ap (λ v. cond v (Some key) (link key_of (head (managed_ids b.id actors)))) (sym at_i)
      | inr n ↦ ap (λ v. link key_of' (head v)) (managed-else b.id n) ∙ link-kept (head (managed_ids b.id actors)) (lives-head b.id)
          ∙ ap (λ v. cond v (Some key) (link key_of (head (managed_ids b.id actors)))) (sym (at_i ∙ ap (λ v. cond (is_some (last ours)) false v) (other a.manager b.id n) ∙ neither (is_some (last ours))))
    ]

    f-last : link key_of' (last (managed_ids b.id more)) ≡ cond (is_the key_eq (Some manager) here) (Some key) (link key_of (last (managed_ids b.id actors)))
    f-last = elim (same_or_other a.manager b.id) [
      | inl f ↦ ap (λ v. link key_of' (last v)) (managed-ours b.id f) ∙ ap (link key_of') (last-push None (managed_ids b.id actors) a.id) ∙ p-new
          ∙ ap (λ v. cond v (Some key) (link key_of (last (managed_ids b.id actors)))) (sym (at_m ∙ same a.manager b.id f))
      | inr n ↦ ap (λ v. link key_of' (last v)) (managed-else b.id n) ∙ link-kept (last (managed_ids b.id actors)) (lives-last b.id)
          ∙ ap (λ v. cond v (Some key) (link key_of (last (managed_ids b.id actors)))) (sym (at_m ∙ other a.manager b.id n))
    ]

    before-more : before int_eq b.id (managed_ids b.manager more) ≡ before int_eq b.id (managed_ids b.manager actors)
    before-more = elim (same_or_other a.manager b.manager) [
      | inl f ↦ ap (before int_eq b.id) (managed-ours b.manager f) ∙ before-push id_test None b.id a.id (managed_ids b.manager actors) not_new
      | inr n ↦ ap (before int_eq b.id) (managed-else b.manager n)
    ]

    f-previous : link key_of' (before int_eq b.id (managed_ids b.manager more)) ≡ link key_of (before int_eq b.id (managed_ids b.manager actors))
    f-previous = ap (link key_of') before-more ∙ link-kept (before int_eq b.id (managed_ids b.manager actors)) (lives-before b.id b.manager)

    -- one of those is under that manager
    not_last : a.manager ≢ b.manager → is_the int_eq (last ours) b.id ≡ false
    not_last n = is_the-other id_test (last ours) b.id (λ f.
        let h : IsIn b.id ours = last-of-in ours b.id f in
        let k = managed-of a.manager b.id actors (tree-once actors s.tree) h in
        let kb : k.0 ≡ b = (let g = sym k.1 ∙ e in cc) in
        n (sym (under-is a.manager k.0 k.2).1 ∙ ap (λ v. v.manager) kb))

    f-next : link key_of' (after int_eq b.id (managed_ids b.manager more)) ≡ cond (is_the key_eq previous here) (Some key) (link key_of (after int_eq b.id (managed_ids b.manager actors)))
    f-next = elim (same_or_other a.manager b.manager) [
      | inl f ↦ ap (λ v. link key_of' (after int_eq b.id v)) (managed-ours b.manager f) ∙ ap (link key_of') (after-push id_test b.id a.id (managed_ids b.manager actors) not_new (once b.manager))
          ∙ link-cond key_of' (is_the int_eq (last (managed_ids b.manager actors)) b.id) (Some a.id) (after int_eq b.id (managed_ids b.manager actors))
          ∙ ap (λ v. cond (is_the int_eq (last (managed_ids b.manager actors)) b.id) v (link key_of' (after int_eq b.id (managed_ids b.manager actors)))) p-new
          ∙ ap (λ v. cond (is_the int_eq (last (managed_ids b.manager actors)) b.id) (Some key) v) (link-kept (after int_eq b.id (managed_ids b.manager actors)) (lives-after b.id b.manager))
          ∙ ap (λ v. cond (is_the int_eq (last (managed_ids v actors)) b.id) (Some key) (link key_of (after int_eq b.id (managed_ids b.manager actors)))) (sym f)
          ∙ ap (λ v. cond v (Some key) (link key_of (after int_eq b.id (managed_ids b.manager actors)))) (sym at_p)
      | inr n ↦ ap (λ v. link key_of' (after int_eq b.id v)) (managed-else b.manager n) ∙ link-kept (after int_eq b.id (managed_ids b.manager actors)) (lives-after b.id b.manager)
          ∙ ap (λ v. cond v (Some key) (link key_of (after int_eq b.id (managed_ids b.manager actors)))) (sym (at_p ∙ not_last n))
    ]

    old_node : node_of key_of' more b ≡ attached manager previous key here (node_of key_of actors b)
    old_node = λ j. record {
      actor = b;
      manager = f-manager j;
      first = f-first j;
      last = f-last j;
      previous = f-previous j;
      next = f-next j;
    }

  -- ---- the new one

  abbrev pub fresh_node : Node
  fresh_node = record { actor = a; manager = Some manager; first = None; last = None; previous = previous; next = None }

  not_key : (k : ℕ) (n : Node) → node k ≡ Some n → k ≢ key
  not_key k n e f = (let g = sym e ∙ ap node f ∙ free in cc)

  m_key : is_the key_eq (Some manager) key ≡ false
  m_key = let m = lives-at key_of node actors s a.manager manager manager_key in other_key key_test manager key (not_key manager _ m.2)

  p_key : (o : Option ℤ) → Lives actors o → is_the key_eq (link key_of o) key ≡ false
  p_key None l = refl
  p_key (Some j) l =
      let k = has-key key_of node actors s j (l j refl) in
      let m = lives-at key_of node actors s j k.0 k.1 in
      ap (λ v. is_the key_eq v key) k.1 ∙ other_key key_test k.0 key (not_key k.0 _ m.2)

  i_key : is_the key_eq (instead_of previous (Some manager)) key ≡ false
  i_key = instead-at previous (Some manager) key ∙ ap (λ v. cond (is_some previous) false v) m_key ∙ neither (is_some previous)

  absent_ours : IsIn a.id ours → ⊥
  absent_ours h = absent (managed-has a.manager a.id actors h)

  managed-none : managed_ids a.id more ≡ []
  managed-none = managed-else a.id not_self ∙ managed-nobody a.id actors s.tree absent

  new_node : node_of key_of' more a ≡ attached manager previous key key fresh_node
  new_node = λ j. record {
    actor = a;
    manager = (ap (λ v. cond v None (key_of' a.manager)) (other a.id top_id not_top) ∙ kept a.manager has_m ∙ manager_key) j;
    first = (ap (λ v. link key_of' (head v)) managed-none ∙ ap (λ v. cond v (Some key) None) (sym i_key)) j;
    last = (ap (λ v. link key_of' (last v)) managed-none ∙ ap (λ v. cond v (Some key) None) (sym m_key)) j;
    previous = (ap (λ v. link key_of' (before int_eq a.id v)) (managed-ours a.manager refl) ∙ ap (link key_of') (before-push-new id_test None a.id ours absent_ours) ∙ link-kept (last ours) (lives-last a.manager)) j;
    next = (ap (λ v. link key_of' (after int_eq a.id v)) (managed-ours a.manager refl) ∙ ap (link key_of') (after-push-new id_test a.id ours absent_ours) ∙ ap (λ v. cond v (Some key) None) (sym (p_key (last ours) (lives-last a.manager)))) j;
  }

  -- ---- all of them

  module _ (n-new : node' key ≡ Some (attached manager previous key key fresh_node)) (n-old : (k : ℕ) → k ≢ key → node' k ≡ option_map (attached manager previous key k) (node k)) where
    stands-old : (i : ℤ) (b : Actor) → actor_of i actors ≡ Some b → IsLinkedAt key_of' node' more i (Some b)
    stands-old i b e =
        let n = node-at key_of node actors s i b e in
        let bi : b.id ≡ i = of-id i actors b e in
        let e' : actor_of b.id actors ≡ Some b = ap (λ v. actor_of v actors) bi ∙ e in
        let p' : key_of b.id ≡ Some n.0 = ap key_of bi ∙ n.1 in (
          n.0,
          kept i (of-has i actors b e) ∙ n.1,
          n-old n.0 (not_key n.0 _ n.2) ∙ ap (option_map (attached manager previous key n.0)) n.2 ∙ ap Some (sym (old_node b n.0 e' p')),
        )

    stands-new : (i : ℤ) → actor_of i actors ≡ None → IsLinkedAt key_of' node' more i (actor_of i (a ∷ []))
    stands-new i e = elim (same_or_other a.id i) [
      | inl f ↦ subst (IsLinkedAt key_of' node' more i) (sym (of-same i a [] f)) (key, ap key_of' (sym f) ∙ p-new, n-new ∙ ap Some (sym new_node))
      | inr n ↦ subst (IsLinkedAt key_of' node' more i) (sym (of-other i a [] n)) (p-old i (λ f. n (sym f)) ∙ no_key key_of node actors s i e)
    ]

    pub added : AreLinked key_of' node' more
    added = record {
      tree = IsTree-append actors a s.tree (lives-false a.id actors absent) (lives-true a.manager actors has_m);
      each = λ i. by i (actor_of i actors) refl;
    }
      where
        by : (i : ℤ) (o : Option Actor) → actor_of i actors ≡ o → IsLinkedAt key_of' node' more i (actor_of i more)
        by i None e = subst (IsLinkedAt key_of' node' more i) (sym (of-append-new i actors a (of-none i actors e))) (stands-new i e)
        by i (Some b) e = subst (IsLinkedAt key_of' node' more i) (sym (of-append-old i actors a b e)) (stands-old i b e)
