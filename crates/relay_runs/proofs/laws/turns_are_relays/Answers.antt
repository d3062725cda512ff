use Rattle.relay_runs.proofs.TurnSteps as law
use Rattle.relay_runs.proofs.laws.turns_are_relays.Goals as goal

pub returns : goal.returns
returns c = law.turns_are_relays
