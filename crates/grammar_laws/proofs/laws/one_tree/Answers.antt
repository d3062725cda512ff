use Rattle.grammar_laws.proofs.Files as files
use Rattle.grammar_laws.proofs.laws.one_tree.Goals as goal

pub returns : goal.returns
returns c = files.one_tree
