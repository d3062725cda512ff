-- The links represent the living actors without one that manages nobody.
use Rattle.std.proofs.Common.{◌≡◌, ◌≢◌, ◌⊎◌, inl, inr, ℕ, ℤ, true, false, cond, List, [], Option, Some, None, is_some, refl, sym, ap, ◌∙◌, subst, int_eq}
use Rattle.std.specs.Option.{option_map}
use Rattle.actor_tree.specs.declared.actor.Actor.{Actor}
use Rattle.actor_tree.specs.declared.node.Node.{Node}
use Rattle.actor_tree.specs.Tree.{actor_of, without, IsTree}
use Rattle.actor_tree.specs.Node.{instead_of, detached}
use Rattle.linked_lists.specs.Links.{key_eq}
use Rattle.linked_lists.specs.Neighbours.{is_the, head, last, after, before, omit, IsIn, AreDistinct}
use Rattle.ipdl_base.specs.Sides.{top_id}
use Rattle.actor_tree.specs.Links.{managed_ids, link, node_of, IsLinkedAt, AreLinked}
use Rattle.actor_tree.proofs.Ids.{id_test, same, other, same_or_other, Has}
use Rattle.linked_lists.proofs.NeighbourLemmas.{before-of-in, last-of-in, is_the-other, head-in, after-in, after-none, before-none, omit-none, head-omit, last-omit, after-omit, before-omit, omit-in}
use Rattle.actor_tree.proofs.Managed.{of-id, of-without-same, of-without-other, under-true, under-is, managed-without, managed-has, managed-once, managed-of, managed-in, tree-once, tree-manager}
use Rattle.actor_tree.proofs.LinkLemmas.{Lives, node-at, no_key, one_id, at-the, some-link, instead-at, link-same}
use Rattle.actor_tree.proofs.Added.{link-cond, turned, neither}

module _ (key_of key_of' : ℤ → Option ℕ) (node node' : ℕ → Option Node) (actors : List Actor) (x : Actor) (key : ℕ)
    (s : AreLinked key_of node actors)
    (lives : actor_of x.id actors ≡ Some x)
    (p-x : key_of x.id ≡ Some key)
    (leaf : managed_ids x.id actors ≡ [])
    (tree : IsTree (without x.id actors))
    (p-gone : key_of' x.id ≡ None)
    (p-old : (i : ℤ) → i ≢ x.id → key_of' i ≡ key_of i)
    (n-old : (k : ℕ) → k ≢ key → node' k ≡ option_map (detached (node_of key_of actors x) k) (node k)) where
  abbrev ours : List ℤ
  ours = managed_ids x.manager actors

  abbrev less : List Actor
  less = without x.id actors

  abbrev gone : Node
  gone = node_of key_of actors x

  once : (m : ℤ) → AreDistinct (managed_ids m actors)
  once m = managed-once m actors (tree-once actors s.tree)

  -- a link to one of what is left
  link-left : (o : Option ℤ) (m : ℤ) → ((j : ℤ) → o ≡ Some j → IsIn j (omit int_eq x.id (managed_ids m actors))) → link key_of' o ≡ link key_of o
  link-left o m h = link-same key_of key_of' o (λ j e. p-old j (omit-in id_test x.id j (managed_ids m actors) (h j e)).1)

  head-left : (m : ℤ) → link key_of' (head (managed_ids m less)) ≡ link key_of (head (omit int_eq x.id (managed_ids m actors)))
  head-left m = ap (λ v. link key_of' (head v)) (managed-without m x.id actors) ∙ link-left _ m (λ j e. head-in _ j e)

  last-left : (m : ℤ) → link key_of' (last (managed_ids m less)) ≡ link key_of (last (omit int_eq x.id (managed_ids m actors)))
  last-left m = ap (λ v. link key_of' (last v)) (managed-without m x.id actors) ∙ link-left _ m (λ j e. last-of-in (omit int_eq x.id (managed_ids m actors)) j e)

  after-left : (i m : ℤ) → link key_of' (after int_eq i (managed_ids m less)) ≡ link key_of (after int_eq i (omit int_eq x.id (managed_ids m actors)))
  after-left i m = ap (λ v. link key_of' (after int_eq i v)) (managed-without m x.id actors) ∙ link-left _ m (λ j e. after-in id_test i _ j e)

  before-left : (i m : ℤ) → link key_of' (before int_eq i (managed_ids m less)) ≡ link key_of (before int_eq i (omit int_eq x.id (managed_ids m actors)))
  before-left i m = ap (λ v. link key_of' (before int_eq i v)) (managed-without m x.id actors) ∙ link-left _ m (λ j e. before-of-in id_test i (omit int_eq x.id (managed_ids m actors)) j e)

  lives-after : Lives actors (after int_eq x.id ours)
  lives-after j e = managed-has x.manager j actors (after-in id_test x.id ours j e)

  lives-before : Lives actors (before int_eq x.id ours)
  lives-before j e = managed-has x.manager j actors (before-of-in id_test x.id ours j e)

  -- the one that left was under m, or is none of those
  where_x : (m : ℤ) → ((x.id ≢ top_id) × (x.manager ≡ m) × IsIn x.id (managed_ids m actors)) ⊎ (IsIn x.id (managed_ids m actors) → ⊥)
  where_x m = elim (same_or_other x.id top_id) [
    | inl t ↦ inr (λ h. let k = managed-of m x.id actors (tree-once actors s.tree) h in
        let kx : k.0 ≡ x = (let g = sym k.1 ∙ lives in cc) in
        (under-is m k.0 k.2).0 (ap (λ v. v.id) kx ∙ t))
    | inr n ↦ elim (same_or_other x.manager m) [
      | inl e ↦ inl (n, e, managed-in m x.id actors x lives (under-true m x n e))
      | inr l ↦ inr (λ h. let k = managed-of m x.id actors (tree-once actors s.tree) h in
          let kx : k.0 ≡ x = (let g = sym k.1 ∙ lives in cc) in
          l (sym (ap (λ v. v.manager) kx) ∙ (under-is m k.0 k.2).1))
    ]
  ]

  -- ---- an actor that stays

  module _ (b : Actor) (here : ℕ) (e : actor_of b.id actors ≡ Some b) (p : key_of b.id ≡ Some here) (not_x : b.id ≢ x.id) where
    f-manager : cond (int_eq b.id top_id) None (key_of' b.manager) ≡ cond (int_eq b.id top_id) None (key_of b.manager)
    f-manager = elim (same_or_other b.id top_id) [
      | inl f ↦ ap (λ v. cond v None (key_of' b.manager)) (same b.id top_id f) ∙ ap (λ v. cond v None (key_of b.manager)) (sym (same b.id top_id f))
      | inr n ↦ ap (λ v. cond (int_eq b.id top_id) None v) (p-old b.manager (λ f. subst (IsIn b.id) leaf (managed-in x.id b.id actors b e (under-true x.id b n f))))
    ]

    at_m : x.id ≢ top_id → is_the key_eq gone.manager here ≡ int_eq x.manager b.id
    at_m n = ap (λ v. is_the key_eq (cond v None (key_of x.manager)) here) (other x.id top_id n)
        ∙ at-the key_of node actors s (Some x.manager) b.id here (λ j f. subst (λ v. Has v actors) (let g : x.manager ≡ j = cc in g) (tree-manager actors x.id x s.tree lives n)) p

    m_true : x.id ≢ top_id → x.manager ≡ b.id → is_the key_eq gone.manager here ≡ true
    m_true n f = at_m n ∙ same x.manager b.id f

    m_false : (IsIn x.id (managed_ids b.id actors) → ⊥) → is_the key_eq gone.manager here ≡ false
    m_false h = elim (same_or_other x.id top_id) [
      | inl t ↦ ap (λ v. is_the key_eq (cond v None (key_of x.manager)) here) (same x.id top_id t)
      | inr n ↦ at_m n ∙ other x.manager b.id (λ f. h (managed-in b.id x.id actors x lives (under-true b.id x n f)))
    ]

    at_first : is_the key_eq (instead_of gone.previous gone.manager) here ≡ cond (is_some (before int_eq x.id ours)) false (is_the key_eq gone.manager here)
    at_first = instead-at gone.previous gone.manager here
        ∙ ap (λ v. cond v false (is_the key_eq gone.manager here)) (some-link key_of node actors s (before int_eq x.id ours) lives-before)

    at_last : is_the key_eq (instead_of gone.next gone.manager) here ≡ cond (is_some (after int_eq x.id ours)) false (is_the key_eq gone.manager here)
    at_last = instead-at gone.next gone.manager here
        ∙ ap (λ v. cond v false (is_the key_eq gone.manager here)) (some-link key_of node actors s (after int_eq x.id ours) lives-after)

    at_next : is_the key_eq gone.next here ≡ is_the int_eq (after int_eq x.id ours) b.id
    at_next = at-the key_of node actors s (after int_eq x.id ours) b.id here lives-after p

    at_previous : is_the key_eq gone.previous here ≡ is_the int_eq (before int_eq x.id ours) b.id
    at_previous = at-the key_of node actors s (before int_eq x.id ours) b.id here lives-before p

    f-first : link key_of' (head (managed_ids b.id less)) ≡ cond (is_the key_eq (instead_of gone.previous gone.manager) here) gone.next (link key_of (head (managed_ids b.id actors)))
    f-first = head-left b.id ∙ elim (where_x b.id) [
      | inl w ↦ ap (link key_of) (head-omit id_test x.id (managed_ids b.id actors) (once b.id) w.2)
          ∙ link-cond key_of (is_some (before int_eq x.id (managed_ids b.id actors))) (head (managed_ids b.id actors)) (after int_eq x.id (managed_ids b.id actors))
          ∙ turned (is_some (before int_eq x.id (managed_ids b.id actors))) (link key_of (head (managed_ids b.id actors))) (link key_of (after int_eq x.id (managed_ids b.id actors)))
          ∙ ap (λ v. cond (cond (is_some (before int_eq x.id (managed_ids v actors))) false true) (link key_of (after int_eq x.id (managed_ids v actors))) (link key_of (head (managed_ids b.id actors)))) (sym w.1)
          ∙ ap (λ v. cond v gone.next (link key_of (head (managed_ids b.id actors)))) (sym (at_first ∙ ap (λ v. cond (is_some (before int_eq x.id ours)) false v) (m_true w.0 w.1)))
      | inr n ↦ ap (λ v. link key_of (head v)) (omit-none id_test x.id (managed_ids b.id actors) n)
          ∙ ap (λ v. cond v gone.next (link key_of (head (managed_ids b.id actors)))) (sym (at_first ∙ ap (λ v. cond (is_some (before int_eq x.id ours)) false v) (m_false n) ∙ neither (is_some (before int_eq x.id ours))))
    ]

    f-last : link key_of' (last (managed_ids b.id less)) ≡ cond (is_the key_eq (instead_of gone.next gone.manager) here) gone.previous (link key_of (last (managed_ids b.id actors)))
    f-last = last-left b.id ∙ elim (where_x b.id) [
      | inl w ↦ ap (link key_of) (last-omit id_test None x.id (managed_ids b.id actors) (once b.id) w.2)
          ∙ link-cond key_of (is_some (after int_eq x.id (managed_ids b.id actors))) (last (managed_ids b.id actors)) (before int_eq x.id (managed_ids b.id actors))
          ∙ turned (is_some (after int_eq x.id (managed_ids b.id actors))) (link key_of (last (managed_ids b.id actors))) (link key_of (before int_eq x.id (managed_ids b.id actors)))
          ∙ ap (λ v. cond (cond (is_some (after int_eq x.id (managed_ids v actors))) false true) (link key_of (before int_eq x.id (managed_ids v actors))) (link key_of (last (managed_ids b.id actors)))) (sym w.1)
          ∙ ap (λ v. cond v gone.previous (link key_of (last (managed_ids b.id actors)))) (sym (at_last ∙ ap (λ v. cond (is_some (after int_eq x.id ours)) false v) (m_true w.0 w.1)))
      | inr n ↦ ap (λ v. link key_of (last v)) (omit-none id_test x.id (managed_ids b.id actors) n)
          ∙ ap (λ v. cond v gone.previous (link key_of (last (managed_ids b.id actors)))) (sym (at_last ∙ ap (λ v. cond (is_some (after int_eq x.id ours)) false v) (m_false n) ∙ neither (is_some (after int_eq x.id ours))))
    ]

    -- b is not next to the one that left, where that one is not among b's siblings
    not_next : (o : Option ℤ) → ((j : ℤ) → o ≡ Some j → IsIn j ours) → ((IsIn x.id ours → ⊥) → o ≡ None) → (IsIn x.id (managed_ids b.manager actors) → ⊥) → is_the int_eq o b.id ≡ false
    not_next o sub none n = elim (same_or_other x.manager b.manager) [
      | inl f ↦ ap (λ v. is_the int_eq v b.id) (none (λ h. n (subst (λ v. IsIn x.id (managed_ids v actors)) f h)))
      | inr l ↦ is_the-other id_test o b.id (λ f.
          let k = managed-of x.manager b.id actors (tree-once actors s.tree) (sub b.id f) in
          let kb : k.0 ≡ b = (let g = sym k.1 ∙ e in cc) in
          l (sym (under-is x.manager k.0 k.2).1 ∙ ap (λ v. v.manager) kb))
    ]

    f-previous : link key_of' (before int_eq b.id (managed_ids b.manager less)) ≡ cond (is_the key_eq gone.next here) gone.previous (link key_of (before int_eq b.id (managed_ids b.manager actors)))
    f-previous = before-left b.id b.manager ∙ elim (where_x b.manager) [
      | inl w ↦ ap (link key_of) (before-omit id_test None b.id x.id (managed_ids b.manager actors) not_x (once b.manager) w.2)
          ∙ link-cond key_of (is_the int_eq (after int_eq x.id (managed_ids b.manager actors)) b.id) (before int_eq x.id (managed_ids b.manager actors)) (before int_eq b.id (managed_ids b.manager actors))
          ∙ ap (λ v. cond (is_the int_eq (after int_eq x.id (managed_ids v actors)) b.id) (link key_of (before int_eq x.id (managed_ids v actors))) (link key_of (before int_eq b.id (managed_ids b.manager actors)))) (sym w.1)
          ∙ ap (λ v. cond v gone.previous (link key_of (before int_eq b.id (managed_ids b.manager actors)))) (sym at_next)
      | inr n ↦ ap (λ v. link key_of (before int_eq b.id v)) (omit-none id_test x.id (managed_ids b.manager actors) n)
          ∙ ap (λ v. cond v gone.previous (link key_of (before int_eq b.id (managed_ids b.manager actors)))) (sym (at_next ∙ not_next (after int_eq x.id ours) (λ j f. after-in id_test x.id ours j f) (λ h. after-none id_test x.id ours h) n))
    ]

    f-next : link key_of' (after int_eq b.id (managed_ids b.manager less)) ≡ cond (is_the key_eq gone.previous here) gone.next (link key_of (after int_eq b.id (managed_ids b.manager actors)))
    f-next = after-left b.id b.manager ∙ elim (where_x b.manager) [
      | inl w ↦ ap (link key_of) (after-omit id_test b.id x.id (managed_ids b.manager actors) not_x (once b.manager) w.2)
          ∙ link-cond key_of (is_the int_eq (before int_eq x.id (managed_ids b.manager actors)) b.id) (after int_eq x.id (managed_ids b.manager actors)) (after int_eq b.id (managed_ids b.manager actors))
          ∙ ap (λ v. cond (is_the int_eq (before int_eq x.id (managed_ids v actors)) b.id) (link key_of (after int_eq x.id (managed_ids v actors))) (link key_of (after int_eq b.id (managed_ids b.manager actors)))) (sym w.1)
          ∙ ap (λ v. cond v gone.next (link key_of (after int_eq b.id (managed_ids b.manager actors)))) (sym at_previous)
      | inr n ↦ ap (λ v. link key_of (after int_eq b.id v)) (omit-none id_test x.id (managed_ids b.manager actors) n)
          ∙ ap (λ v. cond v gone.next (link key_of (after int_eq b.id (managed_ids b.manager actors)))) (sym (at_previous ∙ not_next (before int_eq x.id ours) (λ j f. before-of-in id_test x.id ours j f) (λ h. before-none id_test None x.id ours h) n))
    ]

    stayed_node : node_of key_of' less b ≡ detached gone here (node_of key_of actors b)
    stayed_node = λ j. record {
      actor = b;
      manager = f-manager j;
      first = f-first j;
      last = f-last j;
      previous = f-previous j;
      next = f-next j;
    }

  -- ---- all of them

  stands-stayed : (i : ℤ) (b : Actor) → i ≢ x.id → actor_of i actors ≡ Some b → IsLinkedAt key_of' node' less i (Some b)
  stands-stayed i b n e =
      let at = node-at key_of node actors s i b e in
      let bi : b.id ≡ i = of-id i actors b e in
      let e' : actor_of b.id actors ≡ Some b = ap (λ v. actor_of v actors) bi ∙ e in
      let p' : key_of b.id ≡ Some at.0 = ap key_of bi ∙ at.1 in
      let apart : at.0 ≢ key = λ f. n (one_id key_of node actors s i x.id key (at.1 ∙ ap Some f) p-x) in (
        at.0,
        p-old i n ∙ at.1,
        n-old at.0 apart ∙ ap (option_map (detached gone at.0)) at.2 ∙ ap Some (sym (stayed_node b at.0 e' p' (λ f. n (sym bi ∙ f)))),
      )

  pub removed : AreLinked key_of' node' less
  removed = record {
    tree = tree;
    each = λ i. elim (same_or_other i x.id) [
      | inl e ↦ subst (IsLinkedAt key_of' node' less i) (sym (ap (λ v. actor_of i (without v actors)) (sym e) ∙ of-without-same i actors)) (ap key_of' e ∙ p-gone)
      | inr n ↦ subst (IsLinkedAt key_of' node' less i) (sym (of-without-other i x.id actors n)) (by i n (actor_of i actors) refl)
    ];
  }
    where
      by : (i : ℤ) → i ≢ x.id → (o : Option Actor) → actor_of i actors ≡ o → IsLinkedAt key_of' node' less i (actor_of i actors)
      by i n None e = subst (IsLinkedAt key_of' node' less i) (sym e) (p-old i n ∙ no_key key_of node actors s i e)
      by i n (Some b) e = subst (IsLinkedAt key_of' node' less i) (sym e) (stands-stayed i b n e)
