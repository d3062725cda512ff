use Rattle.std.proofs.Common.{◌≡◌, List, true, drop, ◌+◌, ◌∙◌, sym, ap, arith}
use Rattle.std.proofs.lemmas.List.{take_rest}
use Rattle.ipdl_base.specs.declared.line.Line.{Line}
use Rattle.history_reading.specs.Holds.{passes}
use Rattle.history_reading.specs.Reading.{Reading, read}
use Rattle.history_reading.specs.Readings.{reading_view}
use Rattle.reading_checks.proofs.Loops.{each_goes_on, read_more}
use Rattle.law_checks.proofs.verdict.all_pass.Goals as goal

pub loop-index-preserved : goal.loop-index-preserved
loop-index-preserved c =
    let lines = c.args.lines.now in
    let schema = c.args.schema.now in
    let i = c.loop-index.index in
    let line = c.index-lines-index.result in
    let following = drop (i + 1) lines in
    let passed : passes c.args.law schema (reading_view c.loop-index.reading) line following ≡ true =
    ap (λ (b : List Line). passes c.args.law schema (reading_view c.loop-index.reading) line b) (sym (take_rest lines (i + 1))) ∙ sym c.passes.ensures ∙ c.if-not-passes.false
    in
    record {
      reads = read_more schema lines i line (reading_view c.loop-index.reading) (reading_view c.note.new.self) (omega arith) c.index-lines-index.is c.loop-index.invariant.reads c.in_ok-note.ensures;
      pass =
          each_goes_on (λ before line following. passes c.args.law schema (read schema before) line following) lines i line _ (omega arith) c.index-lines-index.is c.loop-index.invariant.pass
          (ap (λ (r : Reading). passes c.args.law schema r line following) (sym c.loop-index.invariant.reads) ∙ passed);
    }
