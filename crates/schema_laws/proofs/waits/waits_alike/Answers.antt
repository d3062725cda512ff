use Rattle.schema_laws.proofs.WaitsAlike.{waits_alike}
use Rattle.schema_laws.proofs.waits.waits_alike.Goals as goal

pub returns : goal.returns
returns c = waits_alike
