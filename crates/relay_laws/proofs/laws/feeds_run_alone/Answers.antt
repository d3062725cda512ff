use Rattle.relay_laws.proofs.HalvesAlone as law
use Rattle.relay_laws.proofs.laws.feeds_run_alone.Goals as goal

pub returns : goal.returns
returns c = law.feeds_run_alone
