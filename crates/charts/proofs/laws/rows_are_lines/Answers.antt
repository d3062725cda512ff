use Rattle.charts.proofs.RowLines as law
use Rattle.charts.proofs.laws.rows_are_lines.Goals as goal

pub returns : goal.returns
returns c = law.rows_are_lines
