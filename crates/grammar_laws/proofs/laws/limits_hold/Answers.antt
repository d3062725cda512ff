use Rattle.grammar_laws.proofs.Limits as law
use Rattle.grammar_laws.proofs.laws.limits_hold.Goals as goal

pub returns : goal.returns
returns c = law.limits_hold
