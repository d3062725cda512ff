use Rattle.std.proofs.Common.{◌∙◌, ap}
use Rattle.charts.specs.Rows.{bottom}
use Rattle.charts.specs.declared.rows.SideRows.{SideRows}
use Rattle.charts.proofs.RowLemmas.{side_is_noted}
use Rattle.charts.proofs.marks.bottom_at.Goals as goal

pub returns : goal.returns
returns c = c.bottom.ensures ∙ ap (λ (s : SideRows). bottom s c.args.place.count) (c.of_side.ensures ∙ side_is_noted c.args.rows.now c.args.place.side)
