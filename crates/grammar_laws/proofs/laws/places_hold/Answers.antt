use Rattle.grammar_laws.proofs.ClaimedFiles as law
use Rattle.grammar_laws.proofs.laws.places_hold.Goals as goal

pub returns : goal.returns
returns c = law.places_hold
