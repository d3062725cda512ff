use Rattle.script_steps.proofs.Playing as law
use Rattle.script_steps.proofs.laws.choices_are_runs.Goals as goal

pub returns : goal.returns
returns c = law.choices_are_runs
