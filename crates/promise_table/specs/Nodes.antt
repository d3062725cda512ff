-- The links of a node on the lists of the pending promises.
use Rattle.std.specs.Prelude.{◌≡◌, refl}
use Rattle.linked_lists.specs.declared.link.NodeLink.{NodeLink}
use Rattle.promise_table.specs.declared.node.Node.{Node}
use Rattle.promise_table.specs.declared.node.Chain.{Chain}
use Rattle.promise_table.specs.declared.node.Chain.TheVariants.{All, Own}

-- the link of a node on one of its lists
abbrev pub link_of : Chain → Node → NodeLink
link_of All n = n.all
link_of Own n = n.own

-- the node with that link on one of its lists
abbrev pub with_link : Chain → NodeLink → Node → Node
with_link All link n = record n { all = link }
with_link Own link n = record n { own = link }

-- the link that was set is read back
pub reads_back : (chain : Chain) (link : NodeLink) (n : Node) → link_of chain (with_link chain link n) ≡ link
reads_back All link n = refl
reads_back Own link n = refl
