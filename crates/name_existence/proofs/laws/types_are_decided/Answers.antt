use Rattle.name_existence.proofs.Defined as law
use Rattle.name_existence.proofs.laws.types_are_decided.Goals as goal

pub returns : goal.returns
returns c = law.types_are_decided
