use Rattle.script_steps.proofs.TurnChoices as law
use Rattle.script_steps.proofs.laws.turns_are_choices.Goals as goal

pub returns : goal.returns
returns c = law.turns_are_choices
