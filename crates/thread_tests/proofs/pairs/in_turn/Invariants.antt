use Rattle.thread_link.specs.Work.{HasWorked}
use Rattle.thread_tests.proofs.pairs.in_turn.Given as goal

abbrev pub invariant-loop : goal.invariant-loop
invariant-loop g l = HasWorked l.exchange l.fn.one l.one l.parent × HasWorked l.exchange l.fn.two l.two l.child
