use Rattle.std.proofs.Common.{◌≤◌}
use Rattle.delivery_tests.proofs.deliveries.deliver_words.Given as goal

abbrev pub invariant-loop-round : goal.invariant-loop-round
invariant-loop-round l = l.end.end.delivered ≤ l.round
