use Rattle.ipdl_base.specs.declared.kinds.Side.TheVariants as side
use Rattle.charts.proofs.chart.Pen.new.Goals as goal

pub returns : goal.returns
returns c = record { written = c.new.ensures; parent = c.none.ensures side.Parent; child = c.none-2.ensures side.Child }
