use Rattle.std.proofs.Common.{◌≡◌, ◌∙◌, ℕ, ap}
use Rattle.std.specs.Prelude.{unwrap_or}
use Rattle.charts.specs.Marks.{bottom_at, down, item_at, item_place, item_style}
use Rattle.charts.specs.Noted.{noted}
use Rattle.charts.proofs.Pieces.{same}
use Rattle.charts.proofs.marks.push_item_at.Goals as goal

pub returns : goal.returns
returns c =
    let rows = c.args.rows.now in
    let place = c.args.place in
    let to : c.unwrap_or.result ≡ unwrap_or c.args.to (bottom_at (noted rows) place) = c.unwrap_or.ensures ∙ ap (unwrap_or c.args.to) c.bottom_at.ensures in
    same c.push_down.result c.args.out.now.items c.push_down.new.out.items (down item_style place c.item_place-x.result c.unwrap_or.result) (item_at (noted rows) place c.args.to)
    (ap (λ (x : ℕ). down item_style place x c.unwrap_or.result) c.item_place-x.ensures ∙ ap (down item_style place (item_place place.side place.brought)) to) c.push_down.ensures
