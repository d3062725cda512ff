use Rattle.channel_laws.proofs.FittingRuns as law
use Rattle.channel_laws.proofs.two_end_laws.worlds_fit_in_runs.Goals as goal

pub returns : goal.returns
returns c = law.worlds_fit_in_runs
