-- The lists once an item has gone.
use Rattle.std.proofs.Common.{◌≡◌, ◌≢◌, inl, inr, ℕ, Bool, true, false, cond, List, [], ◌∷◌, Option, Some, None, refl, sym, ap, ◌∙◌, subst, true≢false, arith}
use Rattle.std.specs.Option.{option_map}
use Rattle.linked_lists.specs.declared.link.NodeLink.{NodeLink}
use Rattle.linked_lists.specs.declared.link.Ends.{Ends}
use Rattle.linked_lists.specs.Neighbours.{IsIn, AreDistinct, last, before, after, omit}
use Rattle.linked_lists.specs.Chains.{detached, IsChain}
use Rattle.linked_lists.specs.Links.{ends_without, ends_of, key_eq, link_in}
use Rattle.linked_lists.specs.Chosen.{passes, chosen_keys, items_of}
use Rattle.linked_lists.proofs.ChainLemmas.{chain-kept, detached-keeps, chain-along, chain-detached, chain-beside-detached, ends-omit}
use Rattle.linked_lists.proofs.NeighbourLemmas.{distinct-omit, same, other, same_or_other, omit-same, omit-other, omit-none, last-omit, omit-in}
use Rattle.linked_lists.proofs.ChosenLemmas.{chosen-in, in-chosen, chosen-distinct, chosen-omit, chosen-same, items-same}
use Rattle.linked_lists.proofs.KeyTest.{key_test}
use Rattle.pending_queue.specs.declared.item.Item.{Item}
use Rattle.pending_queue.specs.declared.node.Node.{Node}
use Rattle.pending_queue.specs.declared.node.Chain.{Chain}
use Rattle.pending_queue.specs.declared.node.Chain.TheVariants.{Arrival, SameClass, Alike}
use Rattle.pending_queue.specs.declared.class.Class.{Class}
use Rattle.pending_queue.specs.declared.class.Likeness.{Likeness}
use Rattle.pending_queue.specs.declared.class.Classes.{Classes}
use Rattle.pending_queue.specs.Classes.{class_of, class_index, is_class, likeness_is, likeness_of, is_likeness, ends_at, with_ends}
use Rattle.pending_queue.specs.Alike.{left, last_without}
use Rattle.pending_queue.specs.Links.{item_at, stamp_of, Rising, AreLinked}
use Rattle.pending_queue.proofs.ClassLemmas.{one_class, ends-set, ends-other, class_once, likeness_same_or_other, likeness-same, likeness_once}
use Rattle.pending_queue.proofs.Joining.{rising-same, map-item, map-stamp}
use Rattle.pending_queue.specs.Nodes.{link_of, with_link}

-- ---- lists

rising-rem : (st : ℕ → ℕ) (k : ℕ) (ks : List ℕ) → Rising st ks → Rising st (omit key_eq k ks)
rising-rem st k [] r = tt
rising-rem st k (j ∷ ks) r =
    elim (same_or_other key_test j k) [
      | inl e ↦ subst (Rising st) (sym (omit-same key_test k j ks e)) (rising-rem st k ks r.1)
      | inr n ↦ subst (Rising st) (sym (omit-other key_test k j ks n)) (λ i h. r.0 i (omit-in key_test k i ks h).0, rising-rem st k ks r.1)
    ]

-- ---- nodes

left-item : (likeness : Option Likeness) (gone : NodeLink) (k : ℕ) (o : Option Node) → option_map (λ (n : Node). n.item) (left likeness gone k o) ≡ option_map (λ (n : Node). n.item) o
left-item None gone k o = refl
left-item (Some q) gone k o = map-item (detached (link_of Alike) (with_link Alike) gone k) (λ n. detached-keeps (link_of Alike) (with_link Alike) (λ (m : Node). m.item) (λ l m. refl) gone k n) o

left-stamp : (likeness : Option Likeness) (gone : NodeLink) (k : ℕ) (o : Option Node) → stamp_of (left likeness gone k o) ≡ stamp_of o
left-stamp None gone k o = refl
left-stamp (Some q) gone k o = map-stamp (detached (link_of Alike) (with_link Alike) gone k) (λ n. detached-keeps (link_of Alike) (with_link Alike) (λ (m : Node). m.stamp) (λ l m. refl) gone k n) o

left-along : (c : Chain) (likeness : Option Likeness) (gone : NodeLink) (node node' : ℕ → Option Node) (ks : List ℕ) → ((l : NodeLink) (m : Node) → link_of c (with_link Alike l m) ≡ link_of c m) → ((k : ℕ) → node' k ≡ left likeness gone k (node k)) → IsChain (link_of c) node ks → IsChain (link_of c) node' ks
left-along c None gone node node' ks m at chain = chain-kept (link_of c) node node' ks (λ k h. at k) chain
left-along c (Some q) gone node node' ks m at chain =
    chain-along (link_of c) node node' ks (detached (link_of Alike) (with_link Alike) gone) (λ k n. detached-keeps (link_of Alike) (with_link Alike) (link_of c) m gone k n) (λ k h. at k) chain

module _ (node node1 node2 node3 node4 : ℕ → Option Node) (keys : List ℕ) (arrival : Ends) (classes : Classes) (lasts : Likeness → Option ℕ) (stamp key : ℕ) (n : Node)
    (s : AreLinked node keys arrival classes lasts stamp)
    (among : IsIn key keys)
    (was : node key ≡ Some n)
    (others : (k : ℕ) → k ≢ key → node1 k ≡ node k)
    (at2 : (k : ℕ) → node2 k ≡ option_map (detached (link_of Arrival) (with_link Arrival) n.arrival k) (node1 k))
    (at3 : (k : ℕ) → node3 k ≡ option_map (detached (link_of SameClass) (with_link SameClass) n.class k) (node2 k))
    (at4 : (k : ℕ) → node4 k ≡ left (likeness_of n.item) n.alike k (node3 k)) where
  abbrev rest : List ℕ
  rest = omit key_eq key keys

  item4 : (k : ℕ) → item_at node4 k ≡ item_at node1 k
  item4 k = ap (option_map (λ (m : Node). m.item)) (at4 k) ∙ left-item (likeness_of n.item) n.alike k (node3 k)
      ∙ ap (option_map (λ (m : Node). m.item)) (at3 k) ∙ map-item (detached (link_of SameClass) (with_link SameClass) n.class k) (λ m. detached-keeps (link_of SameClass) (with_link SameClass) (λ (m : Node). m.item) (λ l m. refl) n.class k m) (node2 k)
      ∙ ap (option_map (λ (m : Node). m.item)) (at2 k) ∙ map-item (detached (link_of Arrival) (with_link Arrival) n.arrival k) (λ m. detached-keeps (link_of Arrival) (with_link Arrival) (λ (m : Node). m.item) (λ l m. refl) n.arrival k m) (node1 k)

  stamp4 : (k : ℕ) → stamp_of (node4 k) ≡ stamp_of (node1 k)
  stamp4 k = ap stamp_of (at4 k) ∙ left-stamp (likeness_of n.item) n.alike k (node3 k)
      ∙ ap stamp_of (at3 k) ∙ map-stamp (detached (link_of SameClass) (with_link SameClass) n.class k) (λ m. detached-keeps (link_of SameClass) (with_link SameClass) (λ (m : Node). m.stamp) (λ l m. refl) n.class k m) (node2 k)
      ∙ ap stamp_of (at2 k) ∙ map-stamp (detached (link_of Arrival) (with_link Arrival) n.arrival k) (λ m. detached-keeps (link_of Arrival) (with_link Arrival) (λ (m : Node). m.stamp) (λ l m. refl) n.arrival k m) (node1 k)

  pub item-kept : (k : ℕ) → IsIn k rest → item_at node4 k ≡ item_at node k
  item-kept k h = item4 k ∙ ap (option_map (λ (m : Node). m.item)) (others k (omit-in key_test key k keys h).1)

  stamp-kept : (k : ℕ) → IsIn k rest → stamp_of (node4 k) ≡ stamp_of (node k)
  stamp-kept k h = stamp4 k ∙ ap stamp_of (others k (omit-in key_test key k keys h).1)

  abbrev those : (Item → Bool) → List ℕ
  those t = chosen_keys t (item_at node) keys

  those-once : (t : Item → Bool) → AreDistinct (those t)
  those-once t = chosen-distinct t (item_at node) keys s.distinct

  item-was : item_at node key ≡ Some n.item
  item-was = ap (option_map (λ (m : Node). m.item)) was

  yes-in : (t : Item → Bool) → t n.item ≡ true → IsIn key (those t)
  yes-in t e = in-chosen t (item_at node) key keys among (ap (passes t) item-was ∙ e)

  not-in : (t : Item → Bool) → t n.item ≡ false → IsIn key (those t) → ⊥
  not-in t e h = true≢false (sym (chosen-in t (item_at node) key keys h).1 ∙ ap (passes t) item-was ∙ e)

  left_of : (t : Item → Bool) → chosen_keys t (item_at node4) rest ≡ omit key_eq key (those t)
  left_of t = chosen-same t (item_at node) (item_at node4) rest item-kept ∙ chosen-omit t (item_at node) key keys

  all_of : (t : Item → Bool) → t n.item ≡ false → chosen_keys t (item_at node4) rest ≡ those t
  all_of t e = left_of t ∙ omit-none key_test key (those t) (not-in t e)

  -- the nodes with the one that goes
  abbrev nodeX : ℕ → Option Node
  nodeX k = option_map (detached (link_of Arrival) (with_link Arrival) n.arrival k) (node k)

  abbrev nodeY : ℕ → Option Node
  nodeY k = option_map (detached (link_of SameClass) (with_link SameClass) n.class k) (nodeX k)

  at2' : (k : ℕ) → k ≢ key → node2 k ≡ nodeX k
  at2' k m = at2 k ∙ ap (option_map (detached (link_of Arrival) (with_link Arrival) n.arrival k)) (others k m)

  at3' : (k : ℕ) → k ≢ key → node3 k ≡ nodeY k
  at3' k m = at3 k ∙ ap (option_map (detached (link_of SameClass) (with_link SameClass) n.class k)) (at2' k m)

  -- ---- arrival

  link-arrival : n.arrival ≡ link_in key keys
  link-arrival =
      let w = s.arrival_chain key among in
      let e : n ≡ w.0 = (let g = sym was ∙ w.1 in cc) in
      ap (λ (m : Node). m.arrival) e ∙ w.2

  arrival4 : IsChain (link_of Arrival) node4 rest
  arrival4 = left-along Arrival (likeness_of n.item) n.alike node3 node4 rest (λ l m. refl) at4
      (chain-along (link_of Arrival) node2 node3 rest (detached (link_of SameClass) (with_link SameClass) n.class) (λ k m. detached-keeps (link_of SameClass) (with_link SameClass) (link_of Arrival) (λ l m. refl) n.class k m) (λ k h. at3 k)
      (chain-detached (link_of Arrival) (with_link Arrival) (λ l m. refl) node node2 keys key (λ k m. at2' k m ∙ ap (λ v. option_map (detached (link_of Arrival) (with_link Arrival) v k) (node k)) link-arrival) s.distinct among s.arrival_chain))

  -- ---- classes

  in_mine : is_class (class_of n.item) n.item ≡ true
  in_mine = same key_test (class_index (class_of n.item)) (class_index (class_of n.item)) refl

  mine-in : IsIn key (those (is_class (class_of n.item)))
  mine-in = yes-in (is_class (class_of n.item)) in_mine

  link-class : n.class ≡ record { previous = before key_eq key (those (is_class (class_of n.item))); next = after key_eq key (those (is_class (class_of n.item))) }
  link-class =
      let w = s.class_chains (class_of n.item) key mine-in in
      let e : n ≡ w.0 = (let g = sym was ∙ w.1 in cc) in
      ap (λ (m : Node). m.class) e ∙ w.2

  classX : (g : Class) → IsChain (link_of SameClass) nodeX (those (is_class g))
  classX g =
      chain-along (link_of SameClass) node nodeX _ (detached (link_of Arrival) (with_link Arrival) n.arrival) (λ k m. detached-keeps (link_of Arrival) (with_link Arrival) (link_of SameClass) (λ l m. refl) n.arrival k m) (λ k h. refl) (s.class_chains g)

  at3'' : (k : ℕ) → k ≢ key → node3 k ≡ option_map (detached (link_of SameClass) (with_link SameClass) (record { previous = before key_eq key (those (is_class (class_of n.item))); next = after key_eq key (those (is_class (class_of n.item))) }) k) (nodeX k)
  at3'' k m = at3' k m ∙ ap (λ v. option_map (detached (link_of SameClass) (with_link SameClass) v k) (nodeX k)) link-class

  class_chains4 : (g : Class) → IsChain (link_of SameClass) node4 (chosen_keys (is_class g) (item_at node4) rest)
  class_chains4 g = left-along SameClass (likeness_of n.item) n.alike node3 node4 _ (λ l m. refl) at4 (elim (same_or_other key_test (class_index (class_of n.item)) (class_index g)) [
    | inl e ↦ subst (λ v. IsChain (link_of SameClass) node3 (chosen_keys (is_class v) (item_at node4) rest)) (one_class (class_of n.item) g e)
        (subst (IsChain (link_of SameClass) node3) (sym (left_of (is_class (class_of n.item)))) (chain-detached (link_of SameClass) (with_link SameClass) (λ l m. refl) nodeX node3 (those (is_class (class_of n.item))) key at3'' (those-once _) mine-in (classX (class_of n.item))))
    | inr m ↦ subst (IsChain (link_of SameClass) node3) (sym (all_of (is_class g) (other key_test _ _ m)))
        (chain-beside-detached (link_of SameClass) (with_link SameClass) (λ l m. refl) nodeX node3 (those (is_class (class_of n.item))) key at3'' (those-once _) mine-in (those (is_class g))
        (λ k h q. m (class_once (class_of n.item) g (item_at node k) (chosen-in _ (item_at node) k keys q).1 (chosen-in _ (item_at node) k keys h).1)) (classX g))
  ])

  abbrev classes4 : Classes
  classes4 = with_ends (class_of n.item) (ends_without (ends_at classes (class_of n.item)) n.class) classes

  class_ends4 : (g : Class) → ends_at classes4 g ≡ ends_of (chosen_keys (is_class g) (item_at node4) rest)
  class_ends4 g = elim (same_or_other key_test (class_index (class_of n.item)) (class_index g)) [
    | inl e ↦ subst (λ v. ends_at classes4 v ≡ ends_of (chosen_keys (is_class v) (item_at node4) rest)) (one_class (class_of n.item) g e)
        (ends-set (class_of n.item) _ classes ∙ ap (λ v. ends_without v n.class) (s.class_ends (class_of n.item))
        ∙ ap (ends_without (ends_of (those (is_class (class_of n.item))))) link-class
        ∙ ends-omit (those (is_class (class_of n.item))) key (those-once _) mine-in ∙ ap ends_of (sym (left_of (is_class (class_of n.item)))))
    | inr m ↦ ends-other (class_of n.item) g _ classes m ∙ s.class_ends g ∙ ap ends_of (sym (all_of (is_class g) (other key_test _ _ m)))
  ]

  -- ---- likenesses

  likenessY : (q : Likeness) → IsChain (link_of Alike) nodeY (those (is_likeness q))
  likenessY q = chain-along (link_of Alike) nodeX nodeY _ (detached (link_of SameClass) (with_link SameClass) n.class) (λ k m. detached-keeps (link_of SameClass) (with_link SameClass) (link_of Alike) (λ l m. refl) n.class k m) (λ k h. refl)
      (chain-along (link_of Alike) node nodeX _ (detached (link_of Arrival) (with_link Arrival) n.arrival) (λ k m. detached-keeps (link_of Arrival) (with_link Arrival) (link_of Alike) (λ l m. refl) n.arrival k m) (λ k h. refl) (s.likeness_chains q))

  abbrev Likenesses4 : Likeness → Type 0
  Likenesses4 q =
      IsChain (link_of Alike) node4 (chosen_keys (is_likeness q) (item_at node4) rest)
      × (cond (likeness_is (likeness_of n.item) q) (last_without n.alike (lasts q)) (lasts q) ≡ last (chosen_keys (is_likeness q) (item_at node4) rest))

  likenesses-none : likeness_of n.item ≡ None → (q : Likeness) → Likenesses4 q
  likenesses-none e q =
      let no : is_likeness q n.item ≡ false = ap (λ v. likeness_is v q) e in (
        subst (IsChain (link_of Alike) node4) (sym (all_of (is_likeness q) no)) (chain-kept (link_of Alike) nodeY node4 _ (λ k h.
            let m : k ≢ key = λ f. not-in (is_likeness q) no (subst (λ v. IsIn v (those (is_likeness q))) f h) in
            at4 k ∙ ap (λ v. left v n.alike k (node3 k)) e ∙ at3' k m) (likenessY q)),
        ap (λ v. cond v (last_without n.alike (lasts q)) (lasts q)) no ∙ s.likeness_lasts q ∙ ap last (sym (all_of (is_likeness q) no)),
      )

  likenesses-some : (p : Likeness) → likeness_of n.item ≡ Some p → (q : Likeness) → Likenesses4 q
  likenesses-some p e q =
      let yes : is_likeness p n.item ≡ true = ap (λ v. likeness_is v p) e ∙ likeness-same p p refl in
      let here = yes-in (is_likeness p) yes in
      let L = those (is_likeness p) in
      let w = s.likeness_chains p key here in
      let nw : n ≡ w.0 = (let g = sym was ∙ w.1 in cc) in
      let link : n.alike ≡ link_in key L = ap (λ (m : Node). m.alike) nw ∙ w.2 in
      let at4' : (k : ℕ) → k ≢ key → node4 k ≡ option_map (detached (link_of Alike) (with_link Alike) (link_in key L) k) (nodeY k) =
      λ k m. at4 k ∙ ap (λ v. left v n.alike k (node3 k)) e ∙ ap (option_map (detached (link_of Alike) (with_link Alike) n.alike k)) (at3' k m) ∙ ap (λ v. option_map (detached (link_of Alike) (with_link Alike) v k) (nodeY k)) link in
      elim (likeness_same_or_other p q) [
        | inl f ↦ subst Likenesses4 f (
          subst (IsChain (link_of Alike) node4) (sym (left_of (is_likeness p))) (chain-detached (link_of Alike) (with_link Alike) (λ l m. refl) nodeY node4 L key at4' (those-once _) here (likenessY p)),
          ap (λ v. cond v (last_without n.alike (lasts p)) (lasts p)) yes
              ∙ ap (last_without n.alike) (s.likeness_lasts p)
              ∙ ap (λ v. last_without v (last L)) link
              ∙ sym (last-omit key_test None key L (those-once _) here)
              ∙ ap last (sym (left_of (is_likeness p))),
        )
        | inr m ↦ (let no : is_likeness q n.item ≡ false = ap (λ v. likeness_is v q) e ∙ m in (
          subst (IsChain (link_of Alike) node4) (sym (all_of (is_likeness q) no)) (chain-beside-detached (link_of Alike) (with_link Alike) (λ l m. refl) nodeY node4 L key at4' (those-once _) here (those (is_likeness q))
              (λ k h r. true≢false (sym (likeness-same p q (likeness_once p q (item_at node k) (chosen-in _ (item_at node) k keys r).1 (chosen-in _ (item_at node) k keys h).1)) ∙ m)) (likenessY q)),
          ap (λ v. cond v (last_without n.alike (lasts q)) (lasts q)) no ∙ s.likeness_lasts q ∙ ap last (sym (all_of (is_likeness q) no)),
        ))
      ]

  likenesses4 : (q : Likeness) → Likenesses4 q
  likenesses4 q = by (likeness_of n.item) refl
    where
      by : (o : Option Likeness) → likeness_of n.item ≡ o → Likenesses4 q
      by None e = likenesses-none e q
      by (Some p) e = likenesses-some p e q

  -- ---- all

  pub leaves : AreLinked node4 rest (ends_without arrival n.arrival) classes4 (λ q. cond (likeness_is (likeness_of n.item) q) (last_without n.alike (lasts q)) (lasts q)) stamp
  leaves = record {
    distinct = distinct-omit key_test key keys s.distinct;
    arrival_chain = arrival4;
    arrival_ends = ap (λ v. ends_without v n.arrival) s.arrival_ends ∙ ap (ends_without (ends_of keys)) link-arrival ∙ ends-omit keys key s.distinct among;
    class_chains = class_chains4;
    class_ends = class_ends4;
    likeness_chains = λ q. (likenesses4 q).0;
    likeness_lasts = λ q. (likenesses4 q).1;
    rising = rising-same (λ k. stamp_of (node k)) (λ k. stamp_of (node4 k)) rest stamp-kept (rising-rem (λ k. stamp_of (node k)) key keys s.rising);
    below = λ k h. (let a = stamp-kept k h in let b = s.below k (omit-in key_test key k keys h).0 in omega arith);
  }

  pub left_items : items_of (item_at node4) rest ≡ items_of (item_at node) rest
  left_items = items-same (item_at node) (item_at node4) rest item-kept
