use Rattle.grammar_laws.proofs.ClaimedFiles as law
use Rattle.grammar_laws.proofs.laws.names_hold.Goals as goal

pub returns : goal.returns
returns c = law.names_hold
