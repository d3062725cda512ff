use Rattle.run_existence.proofs.Audits as law
use Rattle.run_existence.proofs.laws.texts_are_decided.Goals as goal

pub returns : goal.returns
returns c = law.texts_are_decided
