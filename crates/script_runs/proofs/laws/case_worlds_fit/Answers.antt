use Rattle.script_runs.proofs.CaseRuns as law
use Rattle.script_runs.proofs.laws.case_worlds_fit.Goals as goal

pub returns : goal.returns
returns c = law.case_worlds_fit
