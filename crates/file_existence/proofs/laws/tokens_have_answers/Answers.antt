use Rattle.file_existence.proofs.Trees as law
use Rattle.file_existence.proofs.laws.tokens_have_answers.Goals as goal

pub returns : goal.returns
returns c = law.tokens_have_answers
