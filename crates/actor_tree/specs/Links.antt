-- The links of the living actors, as they represent the list of them in order of making.
use Rattle.std.specs.Prelude.{◌≡◌, ℕ, ℤ, pos, Bool, not, ◌&&◌, List, [], ◌∷◌, Option, Some, None, if◌then◌else◌}
use Rattle.std.specs.Ordering.{int_eq}
use Rattle.linked_lists.specs.Neighbours.{head, last, after, before}
use Rattle.actor_tree.specs.declared.actor.Actor.{Actor}
use Rattle.actor_tree.specs.declared.node.Node.{Node}
use Rattle.ipdl_base.specs.Sides.{top_id}
use Rattle.actor_tree.specs.Tree.{actor_of, IsTree}

-- whether the actor of an id manages that actor
abbrev pub is_under : ℤ → Actor → Bool
is_under id a = not (int_eq a.id top_id) && int_eq a.manager id

-- the ids of those that an actor manages, oldest first
abbrev pub managed_ids : ℤ → List Actor → List ℤ
managed_ids id [] = []
managed_ids id (a ∷ actors) = if is_under id a then a.id ∷ managed_ids id actors else managed_ids id actors

-- the key of the node of an id, where there is an id
abbrev pub link : (ℤ → Option ℕ) → Option ℤ → Option ℕ
link key_of None = None
link key_of (Some i) = key_of i

-- the node of an actor among the living ones
abbrev pub node_of : (ℤ → Option ℕ) → List Actor → Actor → Node
node_of key_of actors a = record {
  actor = a;
  manager = if int_eq a.id top_id then None else key_of a.manager;
  first = link key_of (head (managed_ids a.id actors));
  last = link key_of (last (managed_ids a.id actors));
  previous = link key_of (before int_eq a.id (managed_ids a.manager actors));
  next = link key_of (after int_eq a.id (managed_ids a.manager actors));
}

-- an id that does not live has no key, and one that does the key of its actor's node
abbrev pub IsLinkedAt : (ℤ → Option ℕ) → (ℕ → Option Node) → List Actor → ℤ → Option Actor → Type 0
IsLinkedAt key_of node actors i None = key_of i ≡ None
IsLinkedAt key_of node actors i (Some a) = (key : ℕ) × (key_of i ≡ Some key) × (node key ≡ Some (node_of key_of actors a))

-- the links represent the living actors
pub record AreLinked (key_of : ℤ → Option ℕ) (node : ℕ → Option Node) (actors : List Actor) : Type 0 where
  pub tree : IsTree actors
  pub each : (i : ℤ) → IsLinkedAt key_of node actors i (actor_of i actors)
