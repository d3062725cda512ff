use Rattle.script_steps.proofs.Choosing as law
use Rattle.script_steps.proofs.laws.choices_are_read.Goals as goal

pub returns : goal.returns
returns c = law.choices_are_read
