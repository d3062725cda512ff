use Rattle.std.proofs.Common.{◌≡◌, [], take, drop}
use Rattle.history_reading.specs.Holds.{each_line, is_readable}
use Rattle.history_reading.specs.Reading.{read}
use Rattle.history_reading.specs.Readings.{reading_view}
use Rattle.reading_checks.proofs.unanswered.all_readable.Given as goal

-- the reading is that of the lines so far, and they can be read
abbrev pub invariant-loop-line : goal.invariant-loop-line
invariant-loop-line l = record {
  reads : reading_view l.reading ≡ read l.schema (take l.line-index l.lines);
  pass :
      each_line (λ before line following. is_readable l.schema (read l.schema before) line) (take l.line-index l.lines) (drop l.line-index l.lines)
      ≡ each_line (λ before line following. is_readable l.schema (read l.schema before) line) [] l.lines;
}
