use Rattle.file_existence.proofs.Trees as law
use Rattle.file_existence.proofs.laws.files_have_answers.Goals as goal

pub returns : goal.returns
returns c = law.files_have_answers
