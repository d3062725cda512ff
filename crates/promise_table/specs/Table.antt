-- The nodes of the promises, and what they represent.
use Rattle.std.specs.Prelude.{◌≡◌, ℕ, ℤ, true, List, Option, Some, None}
use Rattle.std.specs.Ordering.{int_eq}
use Rattle.linked_lists.specs.declared.link.Ends.{Ends}
use Rattle.linked_lists.specs.Chosen.{items_of, passes}
use Rattle.linked_lists.specs.Neighbours.{IsIn}
use Rattle.linked_lists.specs.declared.link.NodeLink.{NodeLink}
use Rattle.linked_lists.specs.Links.{no_ends}
use Rattle.promise_table.specs.declared.promise.Promise.{Promise}
use Rattle.promise_table.specs.declared.node.Node.{Node}
use Rattle.promise_table.specs.declared.table.Table.{Table}
use Rattle.promise_table.specs.Links.{item_at, AreLinked}
use Rattle.promise_table.specs.Promises.{is_pending}
use Rattle.promise_table.specs.declared.promise.Outcome.{Outcome}
use Rattle.slab.specs.Slab as slab
use Rattle.indexmap.specs.IndexMap as map

-- the ends, or those of an empty list
abbrev pub ends_or : Option Ends → Ends
ends_or None = no_ends
ends_or (Some ends) = ends

-- the ends of the list of an actor
abbrev pub own_at : {S : Type 0} → map.IndexMap ℤ Ends S → ℤ → Ends
own_at m a = ends_or (map.get int_eq m a)

-- the node at a key
abbrev pub node_at : Table → ℕ → Option Node
node_at t k = slab.get t.nodes k

-- the ends of the list of an actor
abbrev pub own_of : Table → ℤ → Ends
own_of t a = own_at t.actors a

-- the key of a number
abbrev pub id_of : Table → ℤ → Option ℕ
id_of t n = map.get int_eq t.ids n

-- the keys of the promises in order of making
abbrev pub keys_of : Table → List ℕ
keys_of t = t.keys.keys

-- the promises in order of making
abbrev pub promises_in : Table → List Promise
promises_in t = items_of (item_at (node_at t)) (keys_of t)

-- the nodes represent the promises
abbrev pub IsTable : Table → Type 0
IsTable t = AreLinked (node_at t) (keys_of t) t.pending (own_of t) (id_of t)

-- the promise of a key
abbrev pub promise_at : Table → ℕ → Option Promise
promise_at t = item_at (node_at t)

-- the links of a promise and the actor that it is of
abbrev pub links_of : Node → NodeLink × NodeLink × ℤ
links_of n = (n.all, n.own, n.promise.actor)

-- the node, once its promise has that outcome
abbrev pub with_outcome : Outcome → Node → Node
with_outcome outcome n = record n { promise = record n.promise { outcome = Some outcome } }

-- the number of a promise
abbrev pub seq_of : Promise → ℤ
seq_of p = p.seq

-- a promise with that outcome
abbrev pub outcome_set : Outcome → Promise → Promise
outcome_set outcome p = record p { outcome = Some outcome }

-- the key has a promise that is pending
pub record IsPendingAt (t : Table) (key : ℕ) : Type 0 where
  pub among : IsIn key (keys_of t)
  pub pends : passes is_pending (promise_at t key) ≡ true
