use Rattle.std.proofs.Common.{refl}
use Rattle.charts.proofs.rows.SideRows.none.Goals as goal

pub returns : goal.returns
returns c schema row side = refl
