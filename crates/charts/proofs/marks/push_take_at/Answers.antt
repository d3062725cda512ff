use Rattle.std.proofs.Common.{◌≡◌, ◌++◌, rules, ℕ, Option, subst}
use Rattle.std.specs.Prelude.{OnOk}
use Rattle.std.specs.HashMap.{get}
use Rattle.std.specs.Ordering.{int_eq}
use Rattle.charts.specs.Marks.{bar_at, dispatch_style}
use Rattle.charts.specs.Noted.{noted}
use Rattle.charts.proofs.marks.push_take_at.Goals as goal

pub returns : goal.returns
returns c =
    let rows = c.args.rows.now in
    let returned : c.copied.result ≡ get int_eq rows.returns c.args.number = search rules in
    subst (λ (to : Option ℕ). OnOk c.push_bar_at.result (c.push_bar_at.new.out.items ≡ c.args.out.now.items ++ bar_at (noted rows) c.args.place dispatch_style to)) returned c.push_bar_at.ensures
