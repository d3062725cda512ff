use Rattle.std.proofs.Common.{◌≡◌, ◌∙◌, ◌++◌, ℕ, Option, List, rules, ap}
use Rattle.std.specs.HashMap.{get}
use Rattle.std.specs.Ordering.{int_eq}
use Rattle.charts.specs.Marks.{bottom_at, down, outbox_place, outbox_style}
use Rattle.charts.specs.Strokes.{arrow_text}
use Rattle.charts.specs.declared.strokes.Arrow.TheVariants.{Async}
use Rattle.charts.specs.Noted.{noted}
use Rattle.charts.proofs.Pieces.{after, same}
use Rattle.charts.proofs.marks.push_lazy_at.Goals as goal

pub returns-in-None : goal.returns-in-None
returns-in-None c =
    let rows = c.args.rows.now in
    let place = c.args.place in
    rw c.in-None.is (same c.push_down.result c.args.out.now.items c.push_down.new.out.items (down outbox_style place c.outbox_place-x.result c.bottom_at.result) (down outbox_style place (outbox_place place.side) (bottom_at (noted rows) place))
    (ap (λ (x : ℕ). down outbox_style place x c.bottom_at.result) c.outbox_place-x.ensures ∙ ap (down outbox_style place (outbox_place place.side)) c.bottom_at.ensures) c.push_down.ensures)

pub returns-in_ok-push_down-in-Some : goal.returns-in_ok-push_down-in-Some
returns-in_ok-push_down-in-Some c =
    let rows = c.args.rows.now in
    let place = c.args.place in
    let left = c.in-Some.left in
    let waits : List ℕ = down outbox_style place (outbox_place place.side) left in
    let arrives : c.copied-to.result ≡ get int_eq rows.arrivals c.args.number = search rules in
    rw c.in-Some.is (after c.push_arrow.result c.args.out.now.items waits (arrow_text Async place.side left (get int_eq rows.arrivals c.args.number) place.count) c.push_down-in-Some.new.out.items c.push_arrow.new.out.items
    (c.in_ok-push_down-in-Some.ensures ∙ ap (λ (x : ℕ). c.args.out.now.items ++ down outbox_style place x left) c.outbox_place-x.ensures)
    (same c.push_arrow.result c.push_down-in-Some.new.out.items c.push_arrow.new.out.items (arrow_text Async place.side left c.copied-to.result place.count) (arrow_text Async place.side left (get int_eq rows.arrivals c.args.number) place.count)
    (ap (λ (to : Option ℕ). arrow_text Async place.side left to place.count) arrives) c.push_arrow.ensures))
