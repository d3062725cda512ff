use Rattle.std.proofs.Common.{◌≡◌, ◌∙◌, ◌+◌, ◌<◌, ◌∷◌, ◌++◌, [], ℕ, List, length, take, sym, ap, subst, arith, rules}
use Rattle.std.proofs.lemmas.List.{length-take-le, take_more}
use Rattle.ipdl_base.specs.declared.kinds.Side.TheVariants as side
use Rattle.ipdl_base.specs.declared.line.Line.{Line}
use Rattle.charts.specs.Chart.{rows_text}
use Rattle.charts.specs.Noted.{noted}
use Rattle.charts.specs.Tallies.{KnowsLines}
use Rattle.charts.proofs.Tallied.{below, rows_more}
use Rattle.charts.proofs.chart.Pen.push_rows.Goals as goal

pub loop-line-preserved : goal.loop-line-preserved
loop-line-preserved c =
    let lines = c.args.lines.now in
    let i = c.loop-line.line-index in
    let line = c.line-item.result in
    let before = c.loop-line.invariant in
    let taken : take (i + 1) lines ≡ take i lines ++ line ∷ [] = take_more lines i line (omega arith) ∙ ap (λ (l : Line). take i lines ++ l ∷ []) (sym c.line-item.is) in
    let at : c.loop-line.row ≡ length (take i lines) = before.row ∙ sym (length-take-le i lines (omega arith)) in
    record {
      row = ap (λ (r : ℕ). r + 1) before.row;
      knows = subst (λ (t : List Line). KnowsLines t c.push_row.new.self) (sym taken) (c.in_ok-push_row.ensures.knows (take i lines) before.knows);
      text = rows_more c.args.schema.now (noted c.args.rows.now) (length lines) lines i line c.loop-line.out.items c.push_row.new.out.items
          (c.args.out.now.items ++ rows_text c.args.schema.now (noted c.args.rows.now) (length lines) [] lines) (omega arith) c.line-item.is (c.in_ok-push_row.ensures.text (take i lines) before.knows at) before.text;
    }

pub push_row-requires-clause-known : goal.push_row-requires-clause-known
push_row-requires-clause-known c = (take c.loop-line.line-index c.args.lines.now, c.loop-line.invariant.knows)

pub push_row-requires-clause-parent : goal.push_row-requires-clause-parent
push_row-requires-clause-parent c =
    let lines = c.args.lines.now in
    let i = c.loop-line.line-index in
    let so_far : length (take i lines) ≡ i = length-take-le i lines (omega arith) in
    let short : length (take i lines) < 18446744073709551615 = search rules in
    below side.Parent (take i lines) 18446744073709551615 c.loop-line.self.parent c.loop-line.invariant.knows.parent short

pub push_row-requires-clause-child : goal.push_row-requires-clause-child
push_row-requires-clause-child c =
    let lines = c.args.lines.now in
    let i = c.loop-line.line-index in
    let so_far : length (take i lines) ≡ i = length-take-le i lines (omega arith) in
    let short : length (take i lines) < 18446744073709551615 = search rules in
    below side.Child (take i lines) 18446744073709551615 c.loop-line.self.child c.loop-line.invariant.knows.child short
