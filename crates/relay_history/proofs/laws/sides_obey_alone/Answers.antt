use Rattle.relay_history.proofs.SidesAlone as law
use Rattle.relay_history.proofs.laws.sides_obey_alone.Goals as goal

pub returns : goal.returns
returns c = law.sides_obey_alone
