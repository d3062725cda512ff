use Rattle.std.proofs.Common.{◌∙◌, ◌++◌, ap, ℕ, List}
use Rattle.charts.specs.Chart.{chart_by}
use Rattle.charts.specs.Rows.{HistoryRows}
use Rattle.charts.specs.Noted.{noted}
use Rattle.charts.proofs.Known.{rows_known}
use Rattle.charts.proofs.chart.chart_text.Goals as goal

pub returns : goal.returns
returns c =
    let schema = c.args.schema.now in
    let lines = c.args.lines.now in
    c.in_ok-push_chart.ensures ∙ (ap (λ (t : List ℕ). t ++ chart_by schema (noted c.in_ok-rows.rows) lines c.args.spent) c.new-out.ensures.items
    ∙ ap (λ (rows : HistoryRows). chart_by schema rows lines c.args.spent) (rows_known schema 0 lines c.in_ok-rows.rows c.in_ok-rows.ensures))
