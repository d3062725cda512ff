use Rattle.include_graph.proofs.OneReach as law
use Rattle.include_graph.proofs.laws.one_reach.Goals as goal

pub returns : goal.returns
returns c = law.one_reach (record { tokens = c.one_answer.ensures.tokens; tree = c.one_tree.ensures })
