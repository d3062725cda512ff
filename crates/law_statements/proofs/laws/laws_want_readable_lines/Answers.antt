use Rattle.law_statements.proofs.Along.{holds-readable}
use Rattle.law_statements.proofs.ReadableLines.{readable-to}
use Rattle.law_statements.proofs.laws.laws_want_readable_lines.Goals as goal

pub returns : goal.returns
returns c = λ l schema lines holds. readable-to schema lines (holds-readable l schema lines holds)
