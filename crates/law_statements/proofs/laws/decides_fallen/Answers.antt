use Rattle.law_statements.proofs.FallenLaw.{fallen-from, fallen-to}
use Rattle.law_statements.proofs.laws.decides_fallen.Goals as goal

pub returns : goal.returns
returns c = λ schema lines readable. (fallen-to schema lines readable, fallen-from schema lines readable)
