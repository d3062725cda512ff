use Rattle.program_schema.proofs.OneSchema as law
use Rattle.program_schema.proofs.laws.one_schema.Goals as goal

pub returns : goal.returns
returns c = law.one_schema
