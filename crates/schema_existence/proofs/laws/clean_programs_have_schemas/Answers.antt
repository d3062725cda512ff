use Rattle.schema_existence.proofs.Schema as law
use Rattle.schema_existence.proofs.laws.clean_programs_have_schemas.Goals as goal

pub returns : goal.returns
returns c = law.clean_programs_have_schemas
