use Rattle.std.proofs.Common.{◌≡◌, take}
use Rattle.history_reading.specs.Reading.{read}
use Rattle.history_reading.specs.Readings.{reading_view}
use Rattle.reading_checks.proofs.unanswered.read_lines.Given as goal

-- the reading is that of the lines so far
abbrev pub invariant-loop-line : goal.invariant-loop-line
invariant-loop-line l = reading_view l.reading ≡ read l.schema (take l.line-index l.lines)
