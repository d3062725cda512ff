use Rattle.answer_laws.proofs.Schemas as law
use Rattle.answer_laws.proofs.programs.schemas_alike.Goals as goal

pub returns : goal.returns
returns c = law.schemas_alike
