-- The links of a node on the lists that it is on.
use Rattle.std.specs.Prelude.{◌≡◌, refl, ℕ, ◌-◌}
use Rattle.slab.specs.Slab.{Slab, slab_len}
use Rattle.linked_lists.specs.declared.link.NodeLink.{NodeLink}
use Rattle.pending_queue.specs.declared.node.Node.{Node}
use Rattle.pending_queue.specs.declared.node.Chain.{Chain}
use Rattle.pending_queue.specs.declared.node.Chain.TheVariants.{Arrival, SameClass, Alike}

-- the link of a node on one of its lists
abbrev pub link_of : Chain → Node → NodeLink
link_of Arrival n = n.arrival
link_of SameClass n = n.class
link_of Alike n = n.alike

-- the node with that link on one of its lists
abbrev pub with_link : Chain → NodeLink → Node → Node
with_link Arrival link n = record n { arrival = link }
with_link SameClass link n = record n { class = link }
with_link Alike link n = record n { alike = link }

-- the link that was set is read back
pub reads_back : (chain : Chain) (link : NodeLink) (n : Node) → link_of chain (with_link chain link n) ≡ link
reads_back Arrival link n = refl
reads_back SameClass link n = refl
reads_back Alike link n = refl

-- the number of further nodes that fit
abbrev pub room : Slab Node → ℕ
room s = s.capacity - slab_len s
