-- The nodes of the arrived items, and what they represent.
use Rattle.std.specs.Prelude.{◌≡◌, ℕ, ◌+◌, ◌<◌, ◌≤◌, ◌^◌, nat_lt, Bool, List, length, Option, Some, None, if◌then◌else◌}
use Rattle.ipdl_base.specs.declared.kinds.Compress.{Compress}
use Rattle.linked_lists.specs.Neighbours.{IsIn}
use Rattle.linked_lists.specs.Chosen.{passes, item_of, items_of, omit_some}
use Rattle.pending_queue.specs.declared.item.Item.{Item}
use Rattle.pending_queue.specs.declared.node.Node.{Node}
use Rattle.pending_queue.specs.declared.class.Likeness.{Likeness}
use Rattle.pending_queue.specs.declared.queue.Queue.{Queue}
use Rattle.pending_queue.specs.Nodes.{room}
use Rattle.pending_queue.specs.Alike.{last_at}
use Rattle.pending_queue.specs.Compression.{replaced, staying}
use Rattle.pending_queue.specs.Links.{item_at, stamp_of, AreLinked}
use Rattle.slab.specs.Slab as slab
use Rattle.indexmap.specs.IndexMap as map

-- the node at a key
abbrev pub node_at : Queue → ℕ → Option Node
node_at q k = slab.get q.nodes k

-- the key of the last item of a likeness
abbrev pub last_of_likeness : Queue → Likeness → Option ℕ
last_of_likeness q likeness = last_at q.lasts likeness

-- the keys of the nodes in order of arrival
abbrev pub keys_of : Queue → List ℕ
keys_of q = q.keys.keys

-- the item of a key
abbrev pub queue_item : Queue → ℕ → Option Item
queue_item q = item_at (node_at q)

-- the items in order of arrival
abbrev pub items_in : Queue → List Item
items_in q = items_of (queue_item q) (keys_of q)

-- the nodes represent the items, and there is room for as many more as it promises
pub record IsQueue (q : Queue) : Type 0 where
  pub linked : AreLinked (node_at q) (keys_of q) q.arrival q.classes (last_of_likeness q) q.stamp
  pub len : slab.slab_len q.nodes ≡ length (keys_of q)
  pub nodes : q.spare ≤ room q.nodes
  pub lasts : q.spare ≤ map.spare q.lasts
  pub stamps : q.spare + q.stamp < 2 ^ 64

-- the one of two keys that arrived earlier
abbrev pub earlier_of : (ℕ → Option Node) → Option ℕ → Option ℕ → Option ℕ
earlier_of node None b = b
earlier_of node (Some i) None = Some i
earlier_of node (Some i) (Some j) = if nat_lt (stamp_of (node j)) (stamp_of (node i)) then Some j else Some i

-- the key, where its item passes
abbrev pub last_if : (Item → Bool) → (ℕ → Option Item) → Option ℕ → Option ℕ
last_if test item None = None
last_if test item (Some k) = if passes test (item k) then Some k else None

-- the key of the last of a likeness that may be there
abbrev pub last_of_its_likeness : Queue → Option Likeness → Option ℕ
last_of_its_likeness q None = None
last_of_its_likeness q (Some likeness) = last_of_likeness q likeness

-- a new item replaces that of the key that may be there
pub record Replaces (q : Queue) (compress : Compress) (new : Item) (key : Option ℕ) : Type 0 where
  pub replaces : replaced compress new (items_in q) ≡ item_of (queue_item q) key
  pub stay : staying compress new (items_in q) ≡ items_of (queue_item q) (omit_some key (keys_of q))
  pub among : (k : ℕ) → key ≡ Some k → IsIn k (keys_of q)
