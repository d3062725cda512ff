use Rattle.std.proofs.Common.{◌≡◌, List, ◌++◌, map, ap, subst, ◌∙◌}
use Rattle.std.specs.Prelude.{IfOk}
use Rattle.end_parts.specs.PlainLines.{plain_line}
use Rattle.ipdl_base.specs.declared.line.Line.{Line}
use Rattle.ipdl_base.specs.declared.schema.Schema.{Schema}
use Rattle.world_core.specs.WorldView.{WorldView}
use Rattle.transcripts.specs.Compared.{HasCompared, HasPassed}
use Rattle.world_core.proofs.PlainComparing.{newest-found}
use Rattle.world_core.proofs.world.World.compare.Goals as goal

pub returns : goal.returns
returns c =
    let w = c.args.self.now in
    let old = c.args.comparison.now in
    let new = c.compare.new.self in
    subst (λ (schema : Schema). IfOk c.compare.result (λ found. (before more : List Line) → w.state.lines ≡ before ++ more → HasPassed before old → HasCompared schema before more old found new)) (ap (λ (v : WorldView). v.setting.schema) c.self.view_is)
    (newest-found c.boxes_say_nothing.ensures c.self.inside.schema.now c.lines-lines.result.now c.split_at.result.1.now w.state.lines c.lines.result old new c.compare.result
    (ap (map plain_line) c.lines-lines.ensures ∙ c.history.ensures.lines) c.lines.ensures c.split_at.ensures.back c.compare.ensures)
