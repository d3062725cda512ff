use Rattle.std.proofs.Common.{◌≡◌, [], take, drop}
use Rattle.history_reading.specs.Holds.{each_line}
use Rattle.history_reading.specs.Reading.{read}
use Rattle.history_reading.specs.Readings.{reading_view}
use Rattle.order_checks.specs.Answered.{AreAnswered}
use Rattle.order_checks.specs.Waiting.{AreWaiting}
use Rattle.order_checks.specs.Walk.{passes}
use Rattle.order_checks.proofs.walk.all_pass.Given as goal

-- the reading, the numbers and the packets are those of the lines so far, and these pass
abbrev pub invariant-loop-index : goal.invariant-loop-index
invariant-loop-index l = record {
  reads : reading_view l.reading ≡ read l.schema (take l.index l.lines);
  answers : AreAnswered (take l.index l.lines) l.answered;
  waits : AreWaiting l.schema (take l.index l.lines) l.waiting;
  pass : each_line (passes l.statement l.schema) (take l.index l.lines) (drop l.index l.lines) ≡ each_line (passes l.statement l.schema) [] l.lines;
}
