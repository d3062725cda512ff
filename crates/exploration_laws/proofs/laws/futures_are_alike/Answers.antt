use Rattle.exploration_laws.proofs.Futures as law
use Rattle.exploration_laws.proofs.laws.futures_are_alike.Goals as goal

pub returns : goal.returns
returns c = law.futures_are_alike
