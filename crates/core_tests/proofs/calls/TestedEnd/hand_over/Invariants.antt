use Rattle.std.proofs.Common.{length}
use Rattle.core_tests.proofs.calls.TestedEnd.hand_over.Given as goal

abbrev pub decreases-loop-packet : goal.decreases-loop-packet
decreases-loop-packet l = length l.self-inside.end.packets
