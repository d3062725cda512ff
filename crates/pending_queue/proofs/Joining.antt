-- The lists once one more item has arrived.
use Rattle.std.proofs.Common.{◌≡◌, ◌≢◌, inl, inr, ℕ, ◌+◌, ◌<◌, Bool, true, false, cond, List, [], ◌∷◌, ◌++◌, Option, Some, None, refl, sym, ap, ◌∙◌, subst, true≢false, arith}
use Rattle.std.specs.Option.{option_map}
use Rattle.linked_lists.specs.declared.link.NodeLink.{NodeLink}
use Rattle.linked_lists.specs.declared.link.Ends.{Ends}
use Rattle.linked_lists.specs.Neighbours.{IsIn, AreDistinct, last}
use Rattle.linked_lists.specs.Chains.{attached, IsChain}
use Rattle.linked_lists.specs.Links.{ends_with, ends_of, no_link}
use Rattle.linked_lists.specs.Chosen.{passes, chosen_keys, items_of}
use Rattle.linked_lists.proofs.ChainLemmas.{chain-kept, attached-keeps, chain-along, chain-attached, chain-beside-attached, ends-push}
use Rattle.linked_lists.proofs.NeighbourLemmas.{distinct-push, same, other, same_or_other, last-push, in-append}
use Rattle.linked_lists.proofs.ChosenLemmas.{chosen-in, chosen-distinct, chosen-push, chosen-push-not, chosen-same, items-same, items-push}
use Rattle.linked_lists.proofs.KeyTest.{key_test}
use Rattle.pending_queue.specs.declared.item.Item.{Item}
use Rattle.pending_queue.specs.declared.node.Node.{Node}
use Rattle.pending_queue.specs.declared.node.Chain.{Chain}
use Rattle.pending_queue.specs.declared.node.Chain.TheVariants.{Arrival, SameClass, Alike}
use Rattle.pending_queue.specs.declared.class.Class.{Class}
use Rattle.pending_queue.specs.declared.class.Likeness.{Likeness}
use Rattle.pending_queue.specs.declared.class.Classes.{Classes}
use Rattle.pending_queue.specs.Nodes.{link_of, with_link}
use Rattle.pending_queue.specs.Classes.{class_of, class_index, is_class, likeness_is, likeness_of, is_likeness, ends_at, with_ends}
use Rattle.pending_queue.specs.Alike.{joined}
use Rattle.pending_queue.specs.Links.{item_at, stamp_of, Rising, AreLinked}
use Rattle.pending_queue.proofs.ClassLemmas.{one_class, ends-set, ends-other, class_once, likeness_same_or_other, likeness-same, likeness_once}

-- ---- lists

pub rising-same : (st st' : ℕ → ℕ) (ks : List ℕ) → ((k : ℕ) → IsIn k ks → st' k ≡ st k) → Rising st ks → Rising st' ks
rising-same st st' [] h r = tt
rising-same st st' (k ∷ ks) h r = (
  (λ j q. let a = h k (inl refl) in let b = h j (inr q) in let c = r.0 j q in omega arith),
  rising-same st st' ks (λ j q. h j (inr q)) r.1,
)

rising-push : (st : ℕ → ℕ) (ks : List ℕ) (k : ℕ) → Rising st ks → ((j : ℕ) → IsIn j ks → st j < st k) → Rising st (ks ++ k ∷ [])
rising-push st [] k r h = ((λ j q. absurd q), tt)
rising-push st (i ∷ ks) k r h = (
  (λ j q. elim (in-append j ks (k ∷ []) q) [ inl p ↦ r.0 j p | inr p ↦ elim p [ inl e ↦ subst (λ v. st i < st v) e (h i (inl refl)) | inr n ↦ absurd n ] ]),
  rising-push st ks k r.1 (λ j q. h j (inr q)),
)

-- ---- nodes

pub map-item : (f : Node → Node) → ((n : Node) → (f n).item ≡ n.item) → (o : Option Node) → option_map (λ (n : Node). n.item) (option_map f o) ≡ option_map (λ (n : Node). n.item) o
map-item f h None = refl
map-item f h (Some n) = ap Some (h n)

pub map-stamp : (f : Node → Node) → ((n : Node) → (f n).stamp ≡ n.stamp) → (o : Option Node) → stamp_of (option_map f o) ≡ stamp_of o
map-stamp f h None = refl
map-stamp f h (Some n) = h n

joined-item : (likeness : Option Likeness) (lasts : Likeness → Option ℕ) (key k : ℕ) (o : Option Node) → option_map (λ (n : Node). n.item) (joined likeness lasts key k o) ≡ option_map (λ (n : Node). n.item) o
joined-item None lasts key k o = refl
joined-item (Some q) lasts key k o = map-item (attached (link_of Alike) (with_link Alike) (lasts q) key k) (λ n. attached-keeps (link_of Alike) (with_link Alike) (λ (m : Node). m.item) (λ l m. refl) (lasts q) key k n) o

joined-stamp : (likeness : Option Likeness) (lasts : Likeness → Option ℕ) (key k : ℕ) (o : Option Node) → stamp_of (joined likeness lasts key k o) ≡ stamp_of o
joined-stamp None lasts key k o = refl
joined-stamp (Some q) lasts key k o = map-stamp (attached (link_of Alike) (with_link Alike) (lasts q) key k) (λ n. attached-keeps (link_of Alike) (with_link Alike) (λ (m : Node). m.stamp) (λ l m. refl) (lasts q) key k n) o

joined-along : (c : Chain) (likeness : Option Likeness) (lasts : Likeness → Option ℕ) (key : ℕ) (node node' : ℕ → Option Node) (ks : List ℕ) → ((l : NodeLink) (n : Node) → link_of c (with_link Alike l n) ≡ link_of c n) → ((k : ℕ) → node' k ≡ joined likeness lasts key k (node k)) → IsChain (link_of c) node ks → IsChain (link_of c) node' ks
joined-along c None lasts key node node' ks m at chain = chain-kept (link_of c) node node' ks (λ k h. at k) chain
joined-along c (Some q) lasts key node node' ks m at chain =
    chain-along (link_of c) node node' ks (attached (link_of Alike) (with_link Alike) (lasts q) key) (λ k n. attached-keeps (link_of Alike) (with_link Alike) (link_of c) m (lasts q) key k n) (λ k h. at k) chain

abbrev pub fresh_node : Item → ℕ → Node
fresh_node x stamp = record { item = x; stamp = stamp; arrival = no_link; class = no_link; alike = no_link }

module _ (node node1 node2 node3 node4 : ℕ → Option Node) (keys : List ℕ) (arrival : Ends) (classes : Classes) (lasts : Likeness → Option ℕ) (stamp key : ℕ) (x : Item)
    (s : AreLinked node keys arrival classes lasts stamp)
    (free : node key ≡ None)
    (at1 : node1 key ≡ Some (fresh_node x stamp))
    (others : (k : ℕ) → k ≢ key → node1 k ≡ node k)
    (at2 : (k : ℕ) → node2 k ≡ option_map (attached (link_of Arrival) (with_link Arrival) arrival.last key k) (node1 k))
    (at3 : (k : ℕ) → node3 k ≡ option_map (attached (link_of SameClass) (with_link SameClass) (ends_at classes (class_of x)).last key k) (node2 k))
    (at4 : (k : ℕ) → node4 k ≡ joined (likeness_of x) lasts key k (node3 k)) where
  new : IsIn key keys → ⊥
  new h = let w = s.arrival_chain key h in let g = sym free ∙ w.1 in cc

  old : (k : ℕ) → IsIn k keys → node1 k ≡ node k
  old k h = others k (λ e. new (subst (λ v. IsIn v keys) e h))

  pub item4 : (k : ℕ) → item_at node4 k ≡ item_at node1 k
  item4 k = ap (option_map (λ (n : Node). n.item)) (at4 k) ∙ joined-item (likeness_of x) lasts key k (node3 k)
      ∙ ap (option_map (λ (n : Node). n.item)) (at3 k) ∙ map-item _ (λ n. attached-keeps (link_of SameClass) (with_link SameClass) (λ (m : Node). m.item) (λ l m. refl) (ends_at classes (class_of x)).last key k n) (node2 k)
      ∙ ap (option_map (λ (n : Node). n.item)) (at2 k) ∙ map-item _ (λ n. attached-keeps (link_of Arrival) (with_link Arrival) (λ (m : Node). m.item) (λ l m. refl) arrival.last key k n) (node1 k)

  stamp4 : (k : ℕ) → stamp_of (node4 k) ≡ stamp_of (node1 k)
  stamp4 k = ap stamp_of (at4 k) ∙ joined-stamp (likeness_of x) lasts key k (node3 k)
      ∙ ap stamp_of (at3 k) ∙ map-stamp _ (λ n. attached-keeps (link_of SameClass) (with_link SameClass) (λ (m : Node). m.stamp) (λ l m. refl) (ends_at classes (class_of x)).last key k n) (node2 k)
      ∙ ap stamp_of (at2 k) ∙ map-stamp _ (λ n. attached-keeps (link_of Arrival) (with_link Arrival) (λ (m : Node). m.stamp) (λ l m. refl) arrival.last key k n) (node1 k)

  pub item-old : (k : ℕ) → IsIn k keys → item_at node4 k ≡ item_at node k
  item-old k h = item4 k ∙ ap (option_map (λ (n : Node). n.item)) (old k h)

  pub item-new : item_at node4 key ≡ Some x
  item-new = item4 key ∙ ap (option_map (λ (n : Node). n.item)) at1

  stamp-old : (k : ℕ) → IsIn k keys → stamp_of (node4 k) ≡ stamp_of (node k)
  stamp-old k h = stamp4 k ∙ ap stamp_of (old k h)

  stamp-new : stamp_of (node4 key) ≡ stamp
  stamp-new = stamp4 key ∙ ap stamp_of at1

  of-old : (t : Item → Bool) → chosen_keys t (item_at node4) keys ≡ chosen_keys t (item_at node) keys
  of-old t = chosen-same t (item_at node) (item_at node4) keys item-old

  abbrev those : (Item → Bool) → List ℕ
  those t = chosen_keys t (item_at node) keys

  those-in : (t : Item → Bool) (k : ℕ) → IsIn k (those t) → IsIn k keys
  those-in t k h = (chosen-in t (item_at node) k keys h).0

  those-not : (t : Item → Bool) → IsIn key (those t) → ⊥
  those-not t h = new (those-in t key h)

  those-once : (t : Item → Bool) → AreDistinct (those t)
  those-once t = chosen-distinct t (item_at node) keys s.distinct

  -- with the new one, or without it
  with_new : (t : Item → Bool) → t x ≡ true → chosen_keys t (item_at node4) (keys ++ key ∷ []) ≡ those t ++ key ∷ []
  with_new t e = chosen-push t (item_at node4) keys key (ap (passes t) item-new ∙ e) ∙ ap (λ v. v ++ key ∷ []) (of-old t)

  without_new : (t : Item → Bool) → t x ≡ false → chosen_keys t (item_at node4) (keys ++ key ∷ []) ≡ those t
  without_new t e = chosen-push-not t (item_at node4) keys key (ap (passes t) item-new ∙ e) ∙ of-old t

  -- ---- arrival

  at2' : (k : ℕ) → node2 k ≡ option_map (attached (link_of Arrival) (with_link Arrival) (last keys) key k) (node1 k)
  at2' k = at2 k ∙ ap (λ (v : Ends). option_map (attached (link_of Arrival) (with_link Arrival) v.last key k) (node1 k)) s.arrival_ends

  arrival4 : IsChain (link_of Arrival) node4 (keys ++ key ∷ [])
  arrival4 = joined-along Arrival (likeness_of x) lasts key node3 node4 _ (λ l n. refl) at4
      (chain-along (link_of Arrival) node2 node3 _ (attached (link_of SameClass) (with_link SameClass) (ends_at classes (class_of x)).last key) (λ k n. attached-keeps (link_of SameClass) (with_link SameClass) (link_of Arrival) (λ l m. refl) (ends_at classes (class_of x)).last key k n) (λ k h. at3 k)
      (chain-attached (link_of Arrival) (with_link Arrival) (λ l m. refl) node1 node2 keys key at2' s.distinct new (chain-kept (link_of Arrival) node node1 keys old s.arrival_chain) (fresh_node x stamp) at1 refl))

  -- ---- classes

  at3' : (k : ℕ) → node3 k ≡ option_map (attached (link_of SameClass) (with_link SameClass) (last (those (is_class (class_of x)))) key k) (node2 k)
  at3' k = at3 k ∙ ap (λ (v : Ends). option_map (attached (link_of SameClass) (with_link SameClass) v.last key k) (node2 k)) (s.class_ends (class_of x))

  class2 : (g : Class) → IsChain (link_of SameClass) node2 (those (is_class g))
  class2 g = chain-along (link_of SameClass) node1 node2 _ (attached (link_of Arrival) (with_link Arrival) arrival.last key) (λ k n. attached-keeps (link_of Arrival) (with_link Arrival) (link_of SameClass) (λ l m. refl) arrival.last key k n) (λ k h. at2 k)
      (chain-kept (link_of SameClass) node node1 _ (λ k h. old k (those-in (is_class g) k h)) (s.class_chains g))

  there2 : node2 key ≡ Some (attached (link_of Arrival) (with_link Arrival) arrival.last key key (fresh_node x stamp))
  there2 = at2 key ∙ ap (option_map (attached (link_of Arrival) (with_link Arrival) arrival.last key key)) at1

  class3 : IsChain (link_of SameClass) node3 (those (is_class (class_of x)) ++ key ∷ [])
  class3 = chain-attached (link_of SameClass) (with_link SameClass) (λ l m. refl) node2 node3 (those (is_class (class_of x))) key at3' (those-once _) (those-not _) (class2 (class_of x)) _ there2
      (ap (λ (l : NodeLink). l.next) (attached-keeps (link_of Arrival) (with_link Arrival) (link_of SameClass) (λ l m. refl) arrival.last key key (fresh_node x stamp)))

  class3-other : (g : Class) → class_index (class_of x) ≢ class_index g → IsChain (link_of SameClass) node3 (those (is_class g))
  class3-other g n = chain-beside-attached (link_of SameClass) (with_link SameClass) (λ l m. refl) node2 node3 (those (is_class (class_of x))) key at3' (those-once _) (those-not _) (those (is_class g)) (λ k h. (
    (λ q. n (class_once (class_of x) g (item_at node k) (chosen-in _ (item_at node) k keys q).1 (chosen-in _ (item_at node) k keys h).1)),
    (λ e. new (subst (λ v. IsIn v keys) e (those-in (is_class g) k h))),
  )) (class2 g)

  in_mine : is_class (class_of x) x ≡ true
  in_mine = same key_test (class_index (class_of x)) (class_index (class_of x)) refl

  class_chains4 : (g : Class) → IsChain (link_of SameClass) node4 (chosen_keys (is_class g) (item_at node4) (keys ++ key ∷ []))
  class_chains4 g = joined-along SameClass (likeness_of x) lasts key node3 node4 _ (λ l n. refl) at4 (elim (same_or_other key_test (class_index (class_of x)) (class_index g)) [
    | inl e ↦ subst (λ v. IsChain (link_of SameClass) node3 (chosen_keys (is_class v) (item_at node4) (keys ++ key ∷ []))) (one_class (class_of x) g e) (subst (IsChain (link_of SameClass) node3) (sym (with_new (is_class (class_of x)) in_mine)) class3)
    | inr n ↦ subst (IsChain (link_of SameClass) node3) (sym (without_new (is_class g) (other key_test _ _ n))) (class3-other g n)
  ])

  abbrev classes4 : Classes
  classes4 = with_ends (class_of x) (ends_with (ends_at classes (class_of x)) key) classes

  class_ends4 : (g : Class) → ends_at classes4 g ≡ ends_of (chosen_keys (is_class g) (item_at node4) (keys ++ key ∷ []))
  class_ends4 g = elim (same_or_other key_test (class_index (class_of x)) (class_index g)) [
    | inl e ↦ subst (λ v. ends_at classes4 v ≡ ends_of (chosen_keys (is_class v) (item_at node4) (keys ++ key ∷ []))) (one_class (class_of x) g e)
        (ends-set (class_of x) _ classes ∙ ap (λ v. ends_with v key) (s.class_ends (class_of x)) ∙ ends-push (those (is_class (class_of x))) key ∙ ap ends_of (sym (with_new (is_class (class_of x)) in_mine)))
    | inr n ↦ ends-other (class_of x) g _ classes n ∙ s.class_ends g ∙ ap ends_of (sym (without_new (is_class g) (other key_test _ _ n)))
  ]

  -- ---- likenesses

  likeness3 : (q : Likeness) → IsChain (link_of Alike) node3 (those (is_likeness q))
  likeness3 q = chain-along (link_of Alike) node2 node3 _ (attached (link_of SameClass) (with_link SameClass) (ends_at classes (class_of x)).last key) (λ k n. attached-keeps (link_of SameClass) (with_link SameClass) (link_of Alike) (λ l m. refl) (ends_at classes (class_of x)).last key k n) (λ k h. at3 k)
      (chain-along (link_of Alike) node1 node2 _ (attached (link_of Arrival) (with_link Arrival) arrival.last key) (λ k n. attached-keeps (link_of Arrival) (with_link Arrival) (link_of Alike) (λ l m. refl) arrival.last key k n) (λ k h. at2 k)
      (chain-kept (link_of Alike) node node1 _ (λ k h. old k (those-in (is_likeness q) k h)) (s.likeness_chains q)))

  there3 : node3 key ≡ Some (attached (link_of SameClass) (with_link SameClass) (ends_at classes (class_of x)).last key key (attached (link_of Arrival) (with_link Arrival) arrival.last key key (fresh_node x stamp)))
  there3 = at3 key ∙ ap (option_map (attached (link_of SameClass) (with_link SameClass) (ends_at classes (class_of x)).last key key)) there2

  end3 : (link_of Alike (attached (link_of SameClass) (with_link SameClass) (ends_at classes (class_of x)).last key key (attached (link_of Arrival) (with_link Arrival) arrival.last key key (fresh_node x stamp)))).next ≡ None
  end3 = ap (λ (l : NodeLink). l.next) (attached-keeps (link_of SameClass) (with_link SameClass) (link_of Alike) (λ l m. refl) (ends_at classes (class_of x)).last key key (attached (link_of Arrival) (with_link Arrival) arrival.last key key (fresh_node x stamp)) ∙ attached-keeps (link_of Arrival) (with_link Arrival) (link_of Alike) (λ l m. refl) arrival.last key key (fresh_node x stamp))

  abbrev Likenesses4 : Likeness → Type 0
  Likenesses4 q =
      IsChain (link_of Alike) node4 (chosen_keys (is_likeness q) (item_at node4) (keys ++ key ∷ []))
      × (cond (likeness_is (likeness_of x) q) (Some key) (lasts q) ≡ last (chosen_keys (is_likeness q) (item_at node4) (keys ++ key ∷ [])))

  likenesses-none : likeness_of x ≡ None → (q : Likeness) → Likenesses4 q
  likenesses-none e q =
      let no : is_likeness q x ≡ false = ap (λ v. likeness_is v q) e in (
        subst (IsChain (link_of Alike) node4) (sym (without_new (is_likeness q) no)) (chain-kept (link_of Alike) node3 node4 _ (λ k h. at4 k ∙ ap (λ v. joined v lasts key k (node3 k)) e) (likeness3 q)),
        ap (λ v. cond v (Some key) (lasts q)) no ∙ s.likeness_lasts q ∙ ap last (sym (without_new (is_likeness q) no)),
      )

  likenesses-some : (p : Likeness) → likeness_of x ≡ Some p → (q : Likeness) → Likenesses4 q
  likenesses-some p e q =
      let at4' : (k : ℕ) → node4 k ≡ option_map (attached (link_of Alike) (with_link Alike) (last (those (is_likeness p))) key k) (node3 k) = λ k. at4 k ∙ ap (λ v. joined v lasts key k (node3 k)) e ∙ ap (λ v. option_map (attached (link_of Alike) (with_link Alike) v key k) (node3 k)) (s.likeness_lasts p) in
      elim (likeness_same_or_other p q) [
        | inl f ↦ (let yes : is_likeness p x ≡ true = ap (λ v. likeness_is v p) e ∙ likeness-same p p refl in
            subst Likenesses4 f (
              subst (IsChain (link_of Alike) node4) (sym (with_new (is_likeness p) yes)) (chain-attached (link_of Alike) (with_link Alike) (λ l m. refl) node3 node4 (those (is_likeness p)) key at4' (those-once _) (those-not _) (likeness3 p) _ there3 end3),
              ap (λ v. cond v (Some key) (lasts p)) yes ∙ sym (last-push None (those (is_likeness p)) key) ∙ ap last (sym (with_new (is_likeness p) yes)),
            ))
        | inr n ↦ (let no : is_likeness q x ≡ false = ap (λ v. likeness_is v q) e ∙ n in (
          subst (IsChain (link_of Alike) node4) (sym (without_new (is_likeness q) no)) (chain-beside-attached (link_of Alike) (with_link Alike) (λ l m. refl) node3 node4 (those (is_likeness p)) key at4' (those-once _) (those-not _) (those (is_likeness q)) (λ k h. (
            (λ r. true≢false (sym (likeness-same p q (likeness_once p q (item_at node k) (chosen-in _ (item_at node) k keys r).1 (chosen-in _ (item_at node) k keys h).1)) ∙ n)),
            (λ f. new (subst (λ v. IsIn v keys) f (those-in (is_likeness q) k h))),
          )) (likeness3 q)),
          ap (λ v. cond v (Some key) (lasts q)) no ∙ s.likeness_lasts q ∙ ap last (sym (without_new (is_likeness q) no)),
        ))
      ]

  likenesses4 : (q : Likeness) → Likenesses4 q
  likenesses4 q = by (likeness_of x) refl
    where
      by : (o : Option Likeness) → likeness_of x ≡ o → Likenesses4 q
      by None e = likenesses-none e q
      by (Some p) e = likenesses-some p e q

  -- ---- all

  pub joins : AreLinked node4 (keys ++ key ∷ []) (ends_with arrival key) classes4 (λ q. cond (likeness_is (likeness_of x) q) (Some key) (lasts q)) (stamp + 1)
  joins = record {
    distinct = distinct-push keys key s.distinct new;
    arrival_chain = arrival4;
    arrival_ends = ap (λ v. ends_with v key) s.arrival_ends ∙ ends-push keys key;
    class_chains = class_chains4;
    class_ends = class_ends4;
    likeness_chains = λ q. (likenesses4 q).0;
    likeness_lasts = λ q. (likenesses4 q).1;
    rising = rising-push (λ k. stamp_of (node4 k)) keys key (rising-same (λ k. stamp_of (node k)) (λ k. stamp_of (node4 k)) keys stamp-old s.rising) (λ j h. let a = stamp-old j h in let b = s.below j h in let c = stamp-new in omega arith);
    below = λ k h. elim (in-append k keys (key ∷ []) h) [
      | inl q ↦ (let a = stamp-old k q in let b = s.below k q in omega arith)
      | inr q ↦ elim q [ inl e ↦ (let a : stamp_of (node4 k) ≡ stamp = ap (λ v. stamp_of (node4 v)) (sym e) ∙ stamp-new in omega arith) | inr r ↦ absurd r ]
    ];
  }

  pub joined_items : items_of (item_at node4) (keys ++ key ∷ []) ≡ items_of (item_at node) keys ++ x ∷ []
  joined_items = items-push (item_at node4) keys key x item-new ∙ ap (λ v. v ++ x ∷ []) (items-same (item_at node) (item_at node4) keys item-old)
