use Rattle.law_statements.proofs.SettledLaw.{settled-from, settled-to}
use Rattle.law_statements.proofs.laws.decides_settled.Goals as goal

pub returns : goal.returns
returns c = λ schema lines readable. (settled-to schema lines, settled-from schema lines readable)
