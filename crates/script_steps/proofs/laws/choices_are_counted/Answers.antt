use Rattle.script_steps.proofs.Counting as law
use Rattle.script_steps.proofs.laws.choices_are_counted.Goals as goal

pub returns : goal.returns
returns c = law.choices_are_counted
