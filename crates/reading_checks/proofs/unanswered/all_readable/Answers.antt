use Rattle.std.proofs.Common.{◌∙◌, sym, ap, arith}
use Rattle.history_reading.specs.Holds.{is_readable}
use Rattle.history_reading.specs.Reading.{Reading, read}
use Rattle.history_reading.specs.Readings.{reading_view}
use Rattle.reading_checks.proofs.Loops.{each_goes_on, read_more}
use Rattle.reading_checks.proofs.unanswered.all_readable.Goals as goal

pub loop-line-preserved : goal.loop-line-preserved
loop-line-preserved c =
    let lines = c.args.lines.now in
    let schema = c.args.schema.now in
    let i = c.loop-line.line-index in
    let line = c.line-item.result in
    record {
      reads = read_more schema lines i line (reading_view c.loop-line.reading) (reading_view c.note.new.self) (omega arith) c.line-item.is c.loop-line.invariant.reads c.in_ok-note.ensures;
      pass =
          each_goes_on (λ before line following. is_readable schema (read schema before) line) lines i line _ (omega arith) c.line-item.is c.loop-line.invariant.pass
          (ap (λ (r : Reading). is_readable schema r line) (sym c.loop-line.invariant.reads) ∙ (sym c.is_readable.ensures ∙ c.if-not-is_readable.false));
    }
