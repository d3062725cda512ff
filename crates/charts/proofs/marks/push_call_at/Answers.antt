use Rattle.std.proofs.Common.{◌≡◌, ◌++◌, rules, ℕ, Option, subst}
use Rattle.std.specs.Prelude.{OnOk}
use Rattle.std.specs.HashMap.{get}
use Rattle.std.specs.Ordering.{int_eq}
use Rattle.charts.specs.Marks.{arrow_at, bar_at, wait_style}
use Rattle.charts.specs.Noted.{noted}
use Rattle.charts.specs.declared.strokes.Arrow.TheVariants.{Sync}
use Rattle.charts.proofs.Pieces.{after}
use Rattle.charts.proofs.marks.push_call_at.Goals as goal

pub returns : goal.returns
returns c =
    let rows = c.args.rows.now in
    let place = c.args.place in
    let n = c.args.number in
    let resumes : c.copied-resumes.result ≡ get int_eq rows.reply_departures n = search rules in
    let arrives : c.copied.result ≡ get int_eq rows.arrivals n = search rules in
    after c.push_arrow_at.result c.args.out.now.items (bar_at (noted rows) place wait_style (get int_eq rows.reply_departures n)) (arrow_at Sync place (get int_eq rows.arrivals n)) c.push_bar_at.new.out.items c.push_arrow_at.new.out.items
    (subst (λ (to : Option ℕ). c.push_bar_at.new.out.items ≡ c.args.out.now.items ++ bar_at (noted rows) place wait_style to) resumes c.in_ok-push_bar_at.ensures)
    (subst (λ (to : Option ℕ). OnOk c.push_arrow_at.result (c.push_arrow_at.new.out.items ≡ c.push_bar_at.new.out.items ++ arrow_at Sync place to)) arrives c.push_arrow_at.ensures)
