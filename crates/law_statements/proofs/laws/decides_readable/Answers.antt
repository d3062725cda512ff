use Rattle.law_statements.proofs.ReadableLines.{readable-from, readable-to}
use Rattle.law_statements.proofs.laws.decides_readable.Goals as goal

pub returns : goal.returns
returns c = λ schema lines. (readable-to schema lines, readable-from schema lines)
