use Rattle.std.proofs.Common.{◌≡◌, ◌∙◌, ◌++◌, ℕ, List, sym, ap, subst}
use Rattle.std.specs.Prelude.{IfOk}
use Rattle.std.proofs.lemmas.Result.{IfOk-weaker}
use Rattle.charts.specs.Chart.{chart_text}
use Rattle.ipdl_base.specs.declared.line.Line.{Line}
use Rattle.ipdl_base.specs.declared.schema.Schema.{Schema}
use Rattle.generated_case.specs.Counts.{counts_of}
use Rattle.generated_case.specs.Summary.{summary_text}
use Rattle.generated_case.specs.declared.counts.Counts.{Counts}
use Rattle.history.specs.Text.{transcript_text}
use Rattle.script_runs.specs.Endings.{ending_line}
use Rattle.ipdl_top.specs.declared.rendering.Rendering.{Rendering}
use Rattle.ipdl_top.specs.declared.rendering.Rendering.TheVariants.{Chart, Summary, Transcript}
use Rattle.ipdl_top.specs.Ended.{ending_by, spent_side}
use Rattle.ipdl_top.specs.Run.{rendered}
use Rattle.ipdl_top.proofs.EndedAnswers.{same_side}
use Rattle.ipdl_top.proofs.Summed.{summed_plain}
use Rattle.ipdl_top.proofs.run.text_of_history.Goals as goal

pub returns-in_ok-transcript-in-Transcript : goal.returns-in_ok-transcript-in-Transcript
returns-in_ok-transcript-in-Transcript c =
    let schema = c.args.schema.now in
    let lines : List Line = c.args.world.now.state.lines in
    let line = ending_line (ending_by c.args.spent) in
    let told = c.in-Transcript.is in
    let is : Transcript ≡ c.args.rendering = cc in
    subst (λ (shown : Rendering). IfOk c.with_ending.result (λ text. text.items ≡ rendered shown schema lines (ending_by c.args.spent))) is
    (IfOk-weaker c.with_ending.result _ (λ text. text.items ≡ transcript_text schema lines ++ line)
    (λ text printed. printed ∙ ap (λ (transcript : List ℕ). transcript ++ line) (c.in_ok-transcript-in-Transcript.ensures ∙ ap (λ (s : Schema). transcript_text s lines) c.requires.about)) c.with_ending.ensures)

pub returns-in_ok-summary-in-Summary : goal.returns-in_ok-summary-in-Summary
returns-in_ok-summary-in-Summary c =
    let schema = c.args.schema.now in
    let lines : List Line = c.args.world.now.state.lines in
    let line = ending_line (ending_by c.args.spent) in
    let told = c.in-Summary.is in
    let is : Summary c.in-Summary.rounds c.in-Summary.actors ≡ c.args.rendering = cc in
    subst (λ (shown : Rendering). IfOk c.with_ending-in-Summary.result (λ text. text.items ≡ rendered shown schema lines (ending_by c.args.spent))) is
    (IfOk-weaker c.with_ending-in-Summary.result _ (λ text. text.items ≡ summary_text c.in-Summary.rounds c.in-Summary.actors (counts_of lines) ++ line)
    (λ text printed. printed ∙ ap (λ (summary : List ℕ). summary ++ line) (c.in_ok-summary-in-Summary.ensures ∙ ap (λ (counts : Counts). summary_text c.in-Summary.rounds c.in-Summary.actors counts)
    (c.of.ensures ∙ sym (summed_plain c.history.result.now.lines) ∙ ap (λ (plain : List Line). counts_of plain) c.history.ensures.lines))) c.with_ending-in-Summary.ensures)

pub returns-in-Chart : goal.returns-in-Chart
returns-in-Chart c =
    let schema = c.args.schema.now in
    let lines : List Line = c.args.world.now.state.lines in
    let spent = c.args.spent in
    let told = c.in-Chart.is in
    let is : Chart ≡ c.args.rendering = cc in
    subst (λ (shown : Rendering). IfOk c.picture_of.result (λ text. text.items ≡ rendered shown schema lines (ending_by spent))) is
    (IfOk-weaker c.picture_of.result _ (λ text. text.items ≡ chart_text schema lines (spent_side (ending_by spent)))
    (λ text drawn. drawn ∙ ap (λ (ls : List Line). chart_text schema ls spent) c.history-in-Chart.ensures.lines ∙ ap (chart_text schema lines) (same_side spent)) c.picture_of.ensures)
