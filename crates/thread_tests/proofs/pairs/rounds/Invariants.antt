use Rattle.thread_link.specs.Work.{HasWorked}
use Rattle.thread_tests.proofs.pairs.rounds.Given as goal

abbrev pub invariant-loop : goal.invariant-loop
invariant-loop g l = HasWorked l.exchange l.fn.pass l.pass l.half
