use Rattle.std.proofs.Common.{◌≡◌, ◌≤◌, ℕ, List, ◌++◌, length}
use Rattle.ipdl_base.specs.Outside.{Appends}
use Rattle.ipdl_top.proofs.write.write_all.Given as goal

-- what was written so far, and the rest, are the text
abbrev pub invariant-pieces : goal.invariant-pieces
invariant-pieces g l =
    (front : List ℕ) × (l.text ≡ front ++ l.rest) × Appends (g.S.Sink.written l.initial.sink) (g.S.Sink.written l.sink) front
    × (g.S.Sink.faults l.initial.sink ≤ g.S.Sink.faults l.sink)

abbrev pub decreases-pieces : goal.decreases-pieces
decreases-pieces g l = length l.rest
