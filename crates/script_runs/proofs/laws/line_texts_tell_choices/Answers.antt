use Rattle.script_runs.proofs.Tells as law
use Rattle.script_runs.proofs.laws.line_texts_tell_choices.Goals as goal

pub returns : goal.returns
returns c = law.line_texts_tell_choices
