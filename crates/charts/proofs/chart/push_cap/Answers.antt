use Rattle.std.proofs.Common.{◌∙◌, ◌+◌, ◌-◌, ℕ, ap}
use Rattle.charts.specs.Chart.{cap, life_style}
use Rattle.charts.specs.Strokes.{lane, stroke}
use Rattle.charts.proofs.Pieces.{same}
use Rattle.charts.proofs.chart.push_cap.Goals as goal

pub returns : goal.returns
returns c =
    let y = c.height-y.result in
    same c.push_stroke.result c.args.out.now.items c.push_stroke.new.out.items (stroke life_style (c.lane-x.result - 12) y (c.lane-x.result + 12) y) (cap c.args.side c.args.row)
    (ap (λ (x : ℕ). stroke life_style (x - 12) y (x + 12) y) c.lane-x.ensures ∙ ap (λ (h : ℕ). stroke life_style (lane c.args.side - 12) h (lane c.args.side + 12) h) c.height-y.ensures) c.push_stroke.ensures
