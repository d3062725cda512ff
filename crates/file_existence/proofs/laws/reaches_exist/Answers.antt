use Rattle.file_existence.proofs.Reaches as law
use Rattle.file_existence.proofs.laws.reaches_exist.Goals as goal

pub returns : goal.returns
returns c = law.reaches_exist
