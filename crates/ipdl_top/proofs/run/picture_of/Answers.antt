use Rattle.std.proofs.Common.{◌∙◌, List, sym, ap}
use Rattle.std.proofs.lemmas.Result.{IfOk-weaker}
use Rattle.charts.specs.Chart.{chart_text}
use Rattle.ipdl_base.specs.declared.line.Line.{Line}
use Rattle.ipdl_top.proofs.Charted.{charted_plain}
use Rattle.ipdl_top.proofs.run.picture_of.Goals as goal

pub returns : goal.returns
returns c =
    let schema = c.args.schema.now in
    IfOk-weaker c.chart_text.result _ _
    (λ text drawn. drawn ∙ ap (λ (lines : List Line). chart_text schema lines c.args.spent) c.lines.ensures ∙ sym (charted_plain c.boxes_say_nothing.ensures schema c.args.history.now.lines c.args.spent)) c.chart_text.ensures
