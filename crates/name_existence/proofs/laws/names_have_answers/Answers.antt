use Rattle.name_existence.proofs.Names as law
use Rattle.name_existence.proofs.laws.names_have_answers.Goals as goal

pub returns : goal.returns
returns c = law.names_have_answers
