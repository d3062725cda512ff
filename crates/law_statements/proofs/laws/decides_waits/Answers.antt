use Rattle.law_statements.proofs.WaitsLaw.{waits-from, waits-to}
use Rattle.law_statements.proofs.laws.decides_waits.Goals as goal

pub returns : goal.returns
returns c = λ schema lines readable. (waits-to schema lines readable, waits-from schema lines readable)
