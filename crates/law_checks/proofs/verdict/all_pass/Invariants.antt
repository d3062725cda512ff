use Rattle.std.proofs.Common.{◌≡◌, [], take, drop}
use Rattle.history_reading.specs.Holds.{each_line, passes}
use Rattle.history_reading.specs.Reading.{read}
use Rattle.history_reading.specs.Readings.{reading_view}
use Rattle.law_checks.proofs.verdict.all_pass.Given as goal

-- the reading is that of the lines so far, and they pass
abbrev pub invariant-loop-index : goal.invariant-loop-index
invariant-loop-index l = record {
  reads : reading_view l.reading ≡ read l.schema (take l.index l.lines);
  pass :
      each_line (λ before line following. passes l.law l.schema (read l.schema before) line following) (take l.index l.lines) (drop l.index l.lines)
      ≡ each_line (λ before line following. passes l.law l.schema (read l.schema before) line following) [] l.lines;
}
