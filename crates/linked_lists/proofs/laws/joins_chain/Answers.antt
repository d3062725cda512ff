use Rattle.linked_lists.proofs.ChainLemmas.{chain-attached}
use Rattle.linked_lists.proofs.laws.joins_chain.Goals as goal

pub returns : goal.returns
returns g c chain before after keys key node distinct new there alone at is_chain =
    chain-attached (g.N.LinkedNode.link_of chain) (g.N.LinkedNode.with_link chain) (g.met.N.LinkedNode.reads_back chain) before after keys key at distinct new is_chain node there alone
