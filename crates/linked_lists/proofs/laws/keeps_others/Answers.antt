use Rattle.linked_lists.proofs.ChainLemmas.{chain-beside-attached, chain-beside-detached}
use Rattle.linked_lists.proofs.laws.keeps_others.Goals as goal

pub returns : goal.returns
returns g c = record {
  attaching = λ chain before after keys others key distinct new apart at is_chain.
      chain-beside-attached (g.N.LinkedNode.link_of chain) (g.N.LinkedNode.with_link chain) (g.met.N.LinkedNode.reads_back chain) before after keys key at distinct new others apart is_chain;
  detaching = λ chain before after keys others key distinct there apart at is_chain.
      chain-beside-detached (g.N.LinkedNode.link_of chain) (g.N.LinkedNode.with_link chain) (g.met.N.LinkedNode.reads_back chain) before after keys key at distinct there others apart is_chain;
}
