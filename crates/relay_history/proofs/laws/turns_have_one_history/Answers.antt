use Rattle.relay_history.proofs.OneHistory as law
use Rattle.relay_history.proofs.laws.turns_have_one_history.Goals as goal

pub returns : goal.returns
returns c = law.turns_have_one_history
