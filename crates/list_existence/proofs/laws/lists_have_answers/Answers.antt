use Rattle.list_existence.proofs.Lists as law
use Rattle.list_existence.proofs.laws.lists_have_answers.Goals as goal

pub returns : goal.returns
returns c = law.lists_have_answers
