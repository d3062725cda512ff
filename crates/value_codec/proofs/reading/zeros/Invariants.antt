use Rattle.std.proofs.Common.{◌≡◌}
use Rattle.value_codec.specs.Reading as reading
use Rattle.value_codec.proofs.reading.zeros.Given as goal

-- the zeros that are left to take, from the bytes that are left
abbrev pub invariant-loop-left : goal.invariant-loop-left
invariant-loop-left l = reading.zeros l.left l.rest ≡ reading.zeros l.count l.bytes

abbrev pub decreases-loop-left : goal.decreases-loop-left
decreases-loop-left l = l.left
