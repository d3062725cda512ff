use Rattle.std.proofs.Common.{◌≡◌, ◌++◌, drop}
use Rattle.history_reading.specs.Chain.{held_from}
use Rattle.history_reading.specs.Readings.{reading_view}
use Rattle.reading_checks.proofs.unanswered.held_calls.Given as goal

-- the calls so far are followed by those of the lines that are left
abbrev pub invariant-loop-place : goal.invariant-loop-place
invariant-loop-place l = l.calls.items ++ held_from l.schema (reading_view l.reading) l.place (drop l.place l.lines) ≡ held_from l.schema (reading_view l.reading) 0 l.lines
