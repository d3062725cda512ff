use Rattle.name_existence.proofs.Derivations as law
use Rattle.name_existence.proofs.laws.derivations_are_decided.Goals as goal

pub returns : goal.returns
returns c = law.derivations_are_decided
