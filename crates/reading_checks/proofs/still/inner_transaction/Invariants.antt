use Rattle.std.proofs.Common.{◌≡◌, take, reverse}
use Rattle.history_reading.specs.EndReadings.{end_view}
use Rattle.history_reading.specs.Still.{inner_transaction}
use Rattle.reading_checks.proofs.still.inner_transaction.Given as goal

-- no frame so far is of such a message
abbrev pub invariant-loop-index : goal.invariant-loop-index
invariant-loop-index l = inner_transaction l.schema (end_view l.other) (reverse (take l.index l.frames)) ≡ inner_transaction l.schema (end_view l.other) (reverse l.frames)
