-- What the queue is after its calls.
use Rattle.std.proofs.Common.{◌≡◌, inl, inr, ℕ, suc, length, ◌+◌, ◌≤◌, Bool, true, cond, List, [], ◌∷◌, ◌++◌, Option, Some, None, is_some, refl, sym, ap, ◌∙◌, subst, MatchOption, find, arith}
use Rattle.std.specs.Bool.{⊤}
use Rattle.std.specs.Option.{option_map}
use Rattle.std.specs.Map.{lookup}
use Rattle.slab.specs.Slab.{Slab, get, slab_len, Updates}
use Rattle.indexmap.specs.IndexMap.{IndexMap}
use Rattle.linked_lists.specs.declared.link.Ends.{Ends}
use Rattle.linked_lists.specs.Neighbours.{IsIn, head, last, omit}
use Rattle.linked_lists.specs.Chains.{attached, detached}
use Rattle.linked_lists.specs.Links.{ends_with, ends_without, key_eq}
use Rattle.linked_lists.specs.Chosen.{passes, chosen_keys, cons_some, items_of, item_of, omit_some}
use Rattle.linked_lists.proofs.ChosenLemmas.{Full, chosen-in, in-chosen, first-item}
use Rattle.linked_lists.proofs.NeighbourLemmas.{last-some, head-in}
use Rattle.pending_queue.specs.declared.item.Item.{Item}
use Rattle.pending_queue.specs.declared.node.Node.{Node}
use Rattle.pending_queue.specs.declared.node.Chain.TheVariants.{Arrival, SameClass}
use Rattle.pending_queue.specs.declared.class.Class.{Class}
use Rattle.pending_queue.specs.declared.class.Classes.{Classes}
use Rattle.pending_queue.specs.declared.class.Likeness.{Likeness}
use Rattle.pending_queue.specs.declared.queue.Queue.{Queue}
use Rattle.pending_queue.specs.Nodes.{room, link_of, with_link}
use Rattle.pending_queue.specs.Classes.{class_of, likeness_eq, likeness_is, likeness_of, is_likeness, ends_at, with_ends}
use Rattle.pending_queue.specs.Alike.{last_at, joined, left, last_without}
use Rattle.pending_queue.specs.Links.{AreLinked}
use Rattle.pending_queue.specs.DeferralContext.{without_first}
use Rattle.pending_queue.specs.Queue.{node_at, last_of_likeness, keys_of, queue_item, items_in, IsQueue}
use Rattle.pending_queue.proofs.ClassLemmas.{likeness-same}
use Rattle.pending_queue.proofs.ItemLemmas.{first-without}
use Rattle.pending_queue.proofs.Joining.{fresh_node, joins, joined_items}
use Rattle.pending_queue.proofs.Leaving.{leaves, left_items}

-- nodes on lists are on the same lists by other names
moved : (node : ℕ → Option Node) (keys keys' : List ℕ) (arrival arrival' : Ends) (classes classes' : Classes) (lasts lasts' : Likeness → Option ℕ) (stamp stamp' : ℕ) → keys' ≡ keys → arrival' ≡ arrival → classes' ≡ classes → ((q : Likeness) → lasts' q ≡ lasts q) → stamp' ≡ stamp → AreLinked node keys arrival classes lasts stamp → AreLinked node keys' arrival' classes' lasts' stamp'
moved node keys keys' arrival arrival' classes classes' lasts lasts' stamp stamp' k a g l n s =
    let l' : lasts ≡ lasts' = λ j q. sym (l q) j in
    subst (λ v. AreLinked node v arrival' classes' lasts' stamp') (sym k)
    (subst (λ v. AreLinked node keys v classes' lasts' stamp') (sym a)
    (subst (λ v. AreLinked node keys arrival v lasts' stamp') (sym g)
    (subst (λ v. AreLinked node keys arrival classes v stamp') l'
    (subst (λ v. AreLinked node keys arrival classes lasts v) (sym n) s))))

-- the nodes represent these items
pub record Holds (q : Queue) (items : List Item) : Type 0 where
  pub linked : AreLinked (node_at q) (keys_of q) q.arrival q.classes (last_of_likeness q) q.stamp
  pub items_are : items_in q ≡ items

pub put : (q q' : Queue) (n1 n2 n3 : Slab Node) (key : ℕ) (x : Item) (class : Class) (likeness : Option Likeness) (ends : Ends)
    → IsQueue q → class ≡ class_of x → likeness ≡ likeness_of x → ends ≡ ends_at q.classes class
    → get q.nodes key ≡ None
    → Updates q.nodes n1 key (Some (fresh_node x q.stamp))
    → ((k : ℕ) → get n2 k ≡ option_map (attached (link_of Arrival) (with_link Arrival) q.arrival.last key k) (get n1 k))
    → ((k : ℕ) → get n3 k ≡ option_map (attached (link_of SameClass) (with_link SameClass) ends.last key k) (get n2 k))
    → ((k : ℕ) → node_at q' k ≡ joined likeness (last_of_likeness q) key k (get n3 k))
    → q'.arrival ≡ ends_with q.arrival key
    → q'.classes ≡ with_ends class (ends_with ends key) q.classes
    → ((p : Likeness) → last_of_likeness q' p ≡ cond (likeness_is likeness p) (Some key) (last_of_likeness q p))
    → keys_of q' ≡ keys_of q ++ key ∷ []
    → q'.stamp ≡ q.stamp + 1
    → Holds q' (items_in q ++ x ∷ [])
put q q' n1 n2 n3 key x class likeness ends s eg ek ee free up at2 at3 at4 ea egs el ks es =
    let ends_is : ends ≡ ends_at q.classes (class_of x) = ee ∙ ap (ends_at q.classes) eg in
    let at3' : (k : ℕ) → get n3 k ≡ option_map (attached (link_of SameClass) (with_link SameClass) (ends_at q.classes (class_of x)).last key k) (get n2 k) = λ k. at3 k ∙ ap (λ (v : Ends). option_map (attached (link_of SameClass) (with_link SameClass) v.last key k) (get n2 k)) ends_is in
    let at4' : (k : ℕ) → node_at q' k ≡ joined (likeness_of x) (last_of_likeness q) key k (get n3 k) = λ k. at4 k ∙ ap (λ v. joined v (last_of_likeness q) key k (get n3 k)) ek in
    record {
      linked = moved (node_at q') (keys_of q ++ key ∷ []) (keys_of q') (ends_with q.arrival key) q'.arrival (with_ends (class_of x) (ends_with (ends_at q.classes (class_of x)) key) q.classes) q'.classes (λ p. cond (likeness_is (likeness_of x) p) (Some key) (last_of_likeness q p)) (last_of_likeness q') (q.stamp + 1) q'.stamp
          ks ea (egs ∙ ap (λ v. with_ends v (ends_with ends key) q.classes) eg ∙ ap (λ v. with_ends (class_of x) (ends_with v key) q.classes) ends_is) (λ p. el p ∙ ap (λ v. cond (likeness_is v p) (Some key) (last_of_likeness q p)) ek) es
          (joins (node_at q) (get n1) (get n2) (get n3) (node_at q') (keys_of q) q.arrival q.classes (last_of_likeness q) q.stamp key x s.linked free up.changed (λ k m. up.others k m) at2 at3' at4');
      items_are = ap (items_of (queue_item q')) ks
          ∙ joined_items (node_at q) (get n1) (get n2) (get n3) (node_at q') (keys_of q) q.arrival q.classes (last_of_likeness q) q.stamp key x s.linked free up.changed (λ k m. up.others k m) at2 at3' at4';
    }

pub take : (q q' : Queue) (n1 n2 n3 : Slab Node) (key : ℕ) (n : Node) (class : Class) (likeness : Option Likeness) (ends : Ends)
    → IsQueue q → IsIn key (keys_of q) → get q.nodes key ≡ Some n → class ≡ class_of n.item → likeness ≡ likeness_of n.item → ends ≡ ends_at q.classes class
    → Updates q.nodes n1 key None
    → ((k : ℕ) → get n2 k ≡ option_map (detached (link_of Arrival) (with_link Arrival) n.arrival k) (get n1 k))
    → ((k : ℕ) → get n3 k ≡ option_map (detached (link_of SameClass) (with_link SameClass) n.class k) (get n2 k))
    → ((k : ℕ) → node_at q' k ≡ left likeness n.alike k (get n3 k))
    → q'.arrival ≡ ends_without q.arrival n.arrival
    → q'.classes ≡ with_ends class (ends_without ends n.class) q.classes
    → ((p : Likeness) → last_of_likeness q' p ≡ cond (likeness_is likeness p) (last_without n.alike (last_of_likeness q p)) (last_of_likeness q p))
    → keys_of q' ≡ omit key_eq key (keys_of q)
    → q'.stamp ≡ q.stamp
    → Holds q' (items_of (queue_item q) (omit key_eq key (keys_of q)))
take q q' n1 n2 n3 key n class likeness ends s among was eg ek ee up at2 at3 at4 ea egs el ks es =
    let ends_is : ends ≡ ends_at q.classes (class_of n.item) = ee ∙ ap (ends_at q.classes) eg in
    let at4' : (k : ℕ) → node_at q' k ≡ left (likeness_of n.item) n.alike k (get n3 k) = λ k. at4 k ∙ ap (λ v. left v n.alike k (get n3 k)) ek in
    record {
      linked = moved (node_at q') (omit key_eq key (keys_of q)) (keys_of q') (ends_without q.arrival n.arrival) q'.arrival (with_ends (class_of n.item) (ends_without (ends_at q.classes (class_of n.item)) n.class) q.classes) q'.classes (λ p. cond (likeness_is (likeness_of n.item) p) (last_without n.alike (last_of_likeness q p)) (last_of_likeness q p)) (last_of_likeness q') q.stamp q'.stamp
          ks ea (egs ∙ ap (λ v. with_ends v (ends_without ends n.class) q.classes) eg ∙ ap (λ v. with_ends (class_of n.item) (ends_without v n.class) q.classes) ends_is) (λ p. el p ∙ ap (λ v. cond (likeness_is v p) (last_without n.alike (last_of_likeness q p)) (last_of_likeness q p)) ek) es
          (leaves (node_at q) (get n1) (get n2) (get n3) (node_at q') (keys_of q) q.arrival q.classes (last_of_likeness q) q.stamp key n s.linked among was (λ k m. up.others k m) at2 at3 at4');
      items_are = ap (items_of (queue_item q')) ks
          ∙ left_items (node_at q) (get n1) (get n2) (get n3) (node_at q') (keys_of q) q.arrival q.classes (last_of_likeness q) q.stamp key n s.linked among was (λ k m. up.others k m) at2 at3 at4';
    }

-- a key of the list has a node
pub has_node : (q : Queue) (key : ℕ) → IsQueue q → IsIn key (keys_of q) → is_some (get q.nodes key) ≡ true
has_node q key s h = ap is_some (s.linked.arrival_chain key h).1

-- and an item
pub has_item : (q : Queue) → IsQueue q → (k : ℕ) → IsIn k (keys_of q) → (x : Item) × (queue_item q k ≡ Some x)
has_item q s k h = let w = s.linked.arrival_chain k h in (w.0.item, ap (option_map (λ (n : Node). n.item)) w.1)

-- a likeness of which there is an item has a last one
last-some-in : (k : ℕ) (ks : List ℕ) → IsIn k ks → is_some (last ks) ≡ true
last-some-in k [] h = absurd h
last-some-in k (j ∷ ks) h = last-some j ks

pub has_last : (q : Queue) (key : ℕ) (x : Item) (likeness : Option Likeness) → IsQueue q → IsIn key (keys_of q) → queue_item q key ≡ Some x → likeness ≡ likeness_of x → MatchOption likeness ⊤ (λ p. is_some (last_of_likeness q p) ≡ true)
has_last q key x None s h w e = tt
has_last q key x (Some p) s h w e =
    ap is_some (s.linked.likeness_lasts p) ∙ last-some-in key _ (in-chosen (is_likeness p) (queue_item q) key (keys_of q) h (ap (passes (is_likeness p)) w ∙ ap (λ v. likeness_is v p) (sym e) ∙ likeness-same p p refl))

-- ---- room

-- what stands stays where only room is made
pub reserved : {S : Type 0} (nodes nodes' : Slab Node) (lasts lasts' : IndexMap Likeness ℕ S) (keys : List ℕ) (arrival : Ends) (classes : Classes) (stamp : ℕ) → nodes' ≡ record nodes { capacity = nodes'.capacity } → lasts'.entries ≡ lasts.entries → AreLinked (λ k. get nodes k) keys arrival classes (λ p. last_at lasts p) stamp → AreLinked (λ k. get nodes' k) keys arrival classes (λ p. last_at lasts' p) stamp
reserved nodes nodes' lasts lasts' keys arrival classes stamp n l s =
    let n' : (λ (k : ℕ). get nodes k) ≡ (λ (k : ℕ). get nodes' k) = λ j k. get (sym n j) k in
    let l' : (λ (p : Likeness). last_at lasts p) ≡ (λ (p : Likeness). last_at lasts' p) = λ j p. lookup (likeness_eq p) (sym l j) in
    subst (λ v. AreLinked v keys arrival classes (λ p. last_at lasts' p) stamp) n' (subst (λ v. AreLinked (λ k. get nodes k) keys arrival classes v stamp) l' s)

pub room_grows : (nodes nodes' : Slab Node) → nodes' ≡ record nodes { capacity = nodes'.capacity } → nodes.capacity ≤ nodes'.capacity → room nodes ≤ room nodes'
room_grows nodes nodes' n c =
    let e : slab_len nodes' ≡ slab_len nodes = ap slab_len n in
    omega arith

-- ---- length

length-items : (item : ℕ → Option Item) (ks : List ℕ) → Full item ks → length (items_of item ks) ≡ length ks
length-items item [] full = refl
length-items item (k ∷ ks) full =
    let w = full k (inl refl) in
    ap (λ v. length (cons_some v (items_of item ks))) w.1 ∙ ap suc (length-items item ks (λ j q. full j (inr q)))

pub queue_length : (q : Queue) → IsQueue q → slab_len q.nodes ≡ length (items_in q)
queue_length q s = s.len ∙ sym (length-items (queue_item q) (keys_of q) (has_item q s))

-- ---- the first that passes

-- where no key is chosen, no item passes
pub free_none : (q : Queue) (t : Item → Bool) → IsQueue q → None ≡ head (chosen_keys t (queue_item q) (keys_of q)) → (None ≡ find t (items_in q)) × (items_in q ≡ without_first t (items_in q))
free_none q t s e = (
  ap (item_of (queue_item q)) e ∙ sym (first-item t (queue_item q) (keys_of q) (has_item q s)),
  ap (λ v. items_of (queue_item q) (omit_some v (keys_of q))) e ∙ sym (first-without t (queue_item q) (keys_of q) (has_item q s) s.linked.distinct),
)

-- the first key that is chosen is that of the first item that passes
pub free_some : (q : Queue) (t : Item → Bool) (k : ℕ) → IsQueue q → Some k ≡ head (chosen_keys t (queue_item q) (keys_of q)) → IsIn k (keys_of q) × (queue_item q k ≡ find t (items_in q)) × (items_of (queue_item q) (omit key_eq k (keys_of q)) ≡ without_first t (items_in q))
free_some q t k s e = (
  (chosen-in t (queue_item q) k (keys_of q) (head-in (chosen_keys t (queue_item q) (keys_of q)) k (sym e))).0,
  ap (item_of (queue_item q)) e ∙ sym (first-item t (queue_item q) (keys_of q) (has_item q s)),
  ap (λ v. items_of (queue_item q) (omit_some v (keys_of q))) e ∙ sym (first-without t (queue_item q) (keys_of q) (has_item q s) s.linked.distinct),
)
