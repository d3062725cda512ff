use Rattle.name_existence.proofs.Names as law
use Rattle.name_existence.proofs.laws.protocol_names_have_answers.Goals as goal

pub returns : goal.returns
returns c = law.protocol_names_have_answers
