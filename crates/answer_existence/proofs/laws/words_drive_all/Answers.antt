use Rattle.answer_existence.proofs.Words as law
use Rattle.answer_existence.proofs.laws.words_drive_all.Goals as goal

pub returns : goal.returns
returns c = law.words_drive_all c.words_have_runs.ensures c.rest_of_cases_is_still.ensures
