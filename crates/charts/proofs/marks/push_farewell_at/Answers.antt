use Rattle.std.proofs.Common.{◌≡◌, ◌∙◌, rules, [], Bool, true, if◌then◌else◌, sym, ap}
use Rattle.ipdl_base.specs.Sides.{other}
use Rattle.charts.specs.Marks.{arrow_at, farewell_at, is_closing}
use Rattle.charts.specs.Noted.{noted, side_noted}
use Rattle.charts.specs.Rows.{rows_of}
use Rattle.charts.specs.declared.rows.SideRows.{SideRows}
use Rattle.charts.specs.declared.strokes.Arrow.TheVariants.{Farewell}
use Rattle.charts.proofs.Pieces.{same}
use Rattle.charts.proofs.RowLemmas.{side_is_noted}
use Rattle.charts.proofs.marks.push_farewell_at.Goals as goal

pub returns : goal.returns
returns c =
    let rows = c.args.rows.now in
    let place = c.args.place in
    let to : c.of_side-to.result.farewell ≡ (rows_of (noted rows) (other place.side)).farewell =
    ap (λ (r : SideRows). r.farewell) (c.of_side-to.ensures ∙ (ap (side_noted rows) c.other.ensures ∙ side_is_noted rows (other place.side))) in
    let closes : is_closing (noted rows) place ≡ true = sym c.is_closing.ensures ∙ (let closes_here : c.is_closing.result ≡ true = search rules in closes_here) in
    same c.push_arrow_at.result c.args.out.now.items c.push_arrow_at.new.out.items (arrow_at Farewell place c.of_side-to.result.farewell) (farewell_at (noted rows) place)
    (ap (arrow_at Farewell place) to ∙ ap (λ (closing : Bool). if closing then arrow_at Farewell place (rows_of (noted rows) (other place.side)).farewell else []) (sym closes)) c.push_arrow_at.ensures
