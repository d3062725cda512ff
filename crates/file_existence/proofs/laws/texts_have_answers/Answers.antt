use Rattle.file_existence.proofs.Texts as law
use Rattle.file_existence.proofs.laws.texts_have_answers.Goals as goal

pub returns : goal.returns
returns c = law.texts_have_answers
