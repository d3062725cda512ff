use Rattle.relay_laws.proofs.HalvesAlone as law
use Rattle.relay_laws.proofs.laws.half_runs_run_alone.Goals as goal

pub returns : goal.returns
returns c = law.half_runs_run_alone
