use Rattle.std.proofs.Common.{◌≡◌, ◌∙◌, rules, true, false, sym, ap}
use Rattle.ipdl_base.specs.Lines.{same_side}
use Rattle.charts.proofs.RowLemmas.{other_line, own_line, with_own}
use Rattle.charts.proofs.rows.SideRows.with.Goals as goal

pub returns-then-ne : goal.returns-then-ne
returns-then-ne c rest is =
    let other : same_side c.args.line.now.side c.args.side ≡ false = search rules in
    is ∙ sym (other_line c.args.schema.now c.args.row c.args.side c.args.line.now rest other)

pub returns : goal.returns
returns c rest is =
    let own : same_side c.args.line.now.side c.args.side ≡ true = search rules in
    let by_own : record { last = c.first_row.result; ended = c.if-is_end.result; farewell = c.first_row-2.result; closing = c.first_row-3.result; leave = c.leave_row.result } ≡ with_own c.args.schema.now c.args.row c.args.line.now.what c.args.self = search rules in
    by_own ∙ (ap (with_own c.args.schema.now c.args.row c.args.line.now.what) is ∙ own_line c.args.schema.now c.args.row c.args.side c.args.line.now rest own)
