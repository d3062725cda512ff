use Rattle.script_runs.proofs.CaseRuns as law
use Rattle.script_runs.proofs.laws.case_histories_obey_all_laws.Goals as goal

pub returns : goal.returns
returns c = law.case_histories_obey_all_laws
