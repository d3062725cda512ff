-- The last of each likeness, and the nodes, once a node joins those of its likeness or leaves them.
use Rattle.std.specs.Prelude.{ℕ, Option, Some, None, is_some, if◌then◌else◌}
use Rattle.std.specs.Option.{option_map}
use Rattle.linked_lists.specs.declared.link.NodeLink.{NodeLink}
use Rattle.linked_lists.specs.Chains.{attached, detached}
use Rattle.pending_queue.specs.declared.node.Node.{Node}
use Rattle.pending_queue.specs.declared.node.Chain.TheVariants.{Alike}
use Rattle.pending_queue.specs.declared.class.Likeness.{Likeness}
use Rattle.pending_queue.specs.Classes.{likeness_eq}
use Rattle.pending_queue.specs.Nodes.{link_of, with_link}
use Rattle.indexmap.specs.IndexMap as map

-- the key of the last of a likeness
abbrev pub last_at : {S : Type 0} → map.IndexMap Likeness ℕ S → Likeness → Option ℕ
last_at m q = map.get likeness_eq m q

-- what is at k, once the node at `key` is after the last of its likeness, if it has one
abbrev pub joined : Option Likeness → (Likeness → Option ℕ) → ℕ → ℕ → Option Node → Option Node
joined None last key k o = o
joined (Some likeness) last key k o = option_map (attached (link_of Alike) (with_link Alike) (last likeness) key k) o

-- what is at k, once a node with that link has left those of its likeness, if it has one
abbrev pub left : Option Likeness → NodeLink → ℕ → Option Node → Option Node
left None gone k o = o
left (Some likeness) gone k o = option_map (detached (link_of Alike) (with_link Alike) gone k) o

-- the last of a likeness once one with that link has left
abbrev pub last_without : NodeLink → Option ℕ → Option ℕ
last_without gone last = if is_some gone.next then last else gone.previous
