use Rattle.std.proofs.Common.{◌≡◌, drop}
use Rattle.history_reading.specs.Settled.{falls_next}
use Rattle.law_checks.proofs.settled.falls_next.Given as goal

-- the lines so far settle
abbrev pub invariant-loop-line : goal.invariant-loop-line
invariant-loop-line l = falls_next l.side l.id (drop l.line-index l.following) ≡ falls_next l.side l.id l.following
