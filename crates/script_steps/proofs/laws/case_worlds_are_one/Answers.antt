use Rattle.script_steps.proofs.Choosing as law
use Rattle.script_steps.proofs.laws.case_worlds_are_one.Goals as goal

pub returns : goal.returns
returns c = law.case_worlds_are_one
