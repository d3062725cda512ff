use Rattle.name_existence.proofs.Sights as law
use Rattle.name_existence.proofs.laws.sights_are_listed.Goals as goal

pub returns : goal.returns
returns c = law.sights_are_listed
