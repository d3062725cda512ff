use Rattle.law_statements.proofs.LivingLaw.{living-from, living-to}
use Rattle.law_statements.proofs.laws.decides_living.Goals as goal

pub returns : goal.returns
returns c = λ schema lines readable. (living-to schema lines, living-from schema lines readable)
