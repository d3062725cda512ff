use Rattle.schema_laws.proofs.TextsAlike as law
use Rattle.schema_laws.proofs.runs.texts_alike.Goals as goal

pub returns : goal.returns
returns c = law.texts_alike
