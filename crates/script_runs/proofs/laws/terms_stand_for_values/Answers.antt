use Rattle.script_runs.proofs.Terms as law
use Rattle.script_runs.proofs.laws.terms_stand_for_values.Goals as goal

pub returns : goal.returns
returns c = law.terms_stand_for_values
