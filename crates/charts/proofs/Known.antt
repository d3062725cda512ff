-- The rows that are noted are those of the history.
use Rattle.std.proofs.Common.{◌≡◌, ◌∙◌, ℕ, ℤ, List, Option, ap}
use Rattle.std.proofs.Math.Path.{fun_ext}
use Rattle.ipdl_base.specs.declared.line.Line.{Line}
use Rattle.ipdl_base.specs.declared.schema.Schema.{Schema}
use Rattle.charts.specs.Noted.{Knows, noted}
use Rattle.charts.specs.Rows.{HistoryRows, rows_from}
use Rattle.charts.specs.declared.rows.Rows.{Rows}
use Rattle.charts.specs.declared.rows.SideRows.{SideRows}

-- if all that is noted is that of the lines, the rows that are noted are theirs
pub rows_known : (schema : Schema) (row : ℕ) (lines : List Line) (rows : Rows) → Knows schema row lines rows → noted rows ≡ rows_from schema row lines
rows_known schema row lines rows knows =
    let whole : HistoryRows = rows_from schema row lines in
    ap (λ (f : ℤ → Option ℕ). record (noted rows) { arrivals = f }) (fun_ext knows.arrivals)
    ∙ (ap (λ (f : ℤ → Option ℕ). record (noted rows) { arrivals = whole.arrivals; reply_arrivals = f }) (fun_ext knows.reply_arrivals)
    ∙ (ap (λ (f : ℤ → Option ℕ). record (noted rows) { arrivals = whole.arrivals; reply_arrivals = whole.reply_arrivals; departures = f }) (fun_ext knows.departures)
    ∙ (ap (λ (f : ℤ → Option ℕ). record (noted rows) { arrivals = whole.arrivals; reply_arrivals = whole.reply_arrivals; departures = whole.departures; reply_departures = f }) (fun_ext knows.reply_departures)
    ∙ (ap (λ (f : ℤ → Option ℕ). record whole { returns = f; leaves = (noted rows).leaves; parent = rows.parent; child = rows.child }) (fun_ext knows.returns)
    ∙ (ap (λ (f : ℤ → Option (Option ℕ)). record whole { leaves = f; parent = rows.parent; child = rows.child }) (fun_ext knows.leaves)
    ∙ (ap (λ (s : SideRows). record whole { parent = s; child = rows.child }) knows.parent
    ∙ ap (λ (s : SideRows). record whole { child = s }) knows.child))))))
