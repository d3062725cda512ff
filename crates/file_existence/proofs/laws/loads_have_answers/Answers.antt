use Rattle.file_existence.proofs.Loads as law
use Rattle.file_existence.proofs.laws.loads_have_answers.Goals as goal

pub returns : goal.returns
returns c = law.loads_have_answers
