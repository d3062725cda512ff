use Rattle.run_existence.proofs.Words as law
use Rattle.run_existence.proofs.laws.words_have_runs.Goals as goal

pub returns : goal.returns
returns c = law.words_have_runs
