use Rattle.charts.proofs.WellFormed as law
use Rattle.charts.proofs.laws.charts_are_well_formed.Goals as goal

pub returns : goal.returns
returns c = law.charts_are_well_formed
