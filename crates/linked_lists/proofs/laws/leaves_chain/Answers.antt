use Rattle.linked_lists.proofs.ChainLemmas.{chain-detached}
use Rattle.linked_lists.proofs.laws.leaves_chain.Goals as goal

pub returns : goal.returns
returns g c chain before after keys key distinct there at is_chain =
    chain-detached (g.N.LinkedNode.link_of chain) (g.N.LinkedNode.with_link chain) (g.met.N.LinkedNode.reads_back chain) before after keys key at distinct there is_chain
