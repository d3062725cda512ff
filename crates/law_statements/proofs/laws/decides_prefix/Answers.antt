use Rattle.law_statements.proofs.PrefixLaw.{prefix-from, prefix-to}
use Rattle.law_statements.proofs.laws.decides_prefix.Goals as goal

pub returns : goal.returns
returns c = λ schema lines readable. (prefix-to schema lines, prefix-from schema lines readable)
