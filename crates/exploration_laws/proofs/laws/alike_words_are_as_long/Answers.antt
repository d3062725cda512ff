use Rattle.exploration_laws.proofs.Lengths as law
use Rattle.exploration_laws.proofs.laws.alike_words_are_as_long.Goals as goal

pub returns : goal.returns
returns c = law.alike_words_are_as_long
