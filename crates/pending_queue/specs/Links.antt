-- The lists that the nodes of the arrived items are on.
use Rattle.std.specs.Prelude.{◌≡◌, ℕ, ◌<◌, List, [], ◌∷◌, Option, Some, None}
use Rattle.std.specs.Option.{option_map}
use Rattle.linked_lists.specs.declared.link.Ends.{Ends}
use Rattle.linked_lists.specs.Neighbours.{IsIn, AreDistinct, last}
use Rattle.linked_lists.specs.Chains.{IsChain}
use Rattle.linked_lists.specs.Chosen.{chosen_keys}
use Rattle.linked_lists.specs.Links.{ends_of}
use Rattle.pending_queue.specs.declared.item.Item.{Item}
use Rattle.pending_queue.specs.declared.node.Node.{Node}
use Rattle.pending_queue.specs.declared.node.Chain.TheVariants.{Arrival, SameClass, Alike}
use Rattle.pending_queue.specs.declared.class.Class.{Class}
use Rattle.pending_queue.specs.declared.class.Likeness.{Likeness}
use Rattle.pending_queue.specs.declared.class.Classes.{Classes}
use Rattle.pending_queue.specs.Classes.{is_class, is_likeness, ends_at}
use Rattle.pending_queue.specs.Nodes.{link_of}

-- the item of the node at a key
abbrev pub item_at : (ℕ → Option Node) → ℕ → Option Item
item_at node k = option_map (λ n. n.item) (node k)

-- the stamp of a node that may be there
abbrev pub stamp_of : Option Node → ℕ
stamp_of None = 0
stamp_of (Some n) = n.stamp

-- the numbers of the keys rise
abbrev pub Rising : (ℕ → ℕ) → List ℕ → Type 0
Rising stamp [] = Unit {0}
Rising stamp (k ∷ ks) = ((j : ℕ) → IsIn j ks → stamp k < stamp j) × Rising stamp ks

-- the nodes of these keys are on a list of all, on one of each class and on one of each likeness
pub record AreLinked (node : ℕ → Option Node) (keys : List ℕ) (arrival : Ends) (classes : Classes) (lasts : Likeness → Option ℕ) (stamp : ℕ) : Type 0 where
  pub distinct : AreDistinct keys
  pub arrival_chain : IsChain (link_of Arrival) node keys
  pub arrival_ends : arrival ≡ ends_of keys
  pub class_chains : (g : Class) → IsChain (link_of SameClass) node (chosen_keys (is_class g) (item_at node) keys)
  pub class_ends : (g : Class) → ends_at classes g ≡ ends_of (chosen_keys (is_class g) (item_at node) keys)
  pub likeness_chains : (q : Likeness) → IsChain (link_of Alike) node (chosen_keys (is_likeness q) (item_at node) keys)
  pub likeness_lasts : (q : Likeness) → lasts q ≡ last (chosen_keys (is_likeness q) (item_at node) keys)
  pub rising : Rising (λ k. stamp_of (node k)) keys
  pub below : (k : ℕ) → IsIn k keys → stamp_of (node k) < stamp
