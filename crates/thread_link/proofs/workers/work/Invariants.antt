use Rattle.thread_link.proofs.workers.work.Given as goal
use Rattle.thread_link.specs.Passes.{about, place_of}
use Rattle.thread_link.specs.Work.{IsAtWork}

abbrev pub ghost-go_on : goal.ghost-go_on
ghost-go_on g a = place_of a.pass.now

abbrev pub ghost-turn : goal.ghost-turn
ghost-turn g a = (about a.self.now, a.pass.now.side)

abbrev pub invariant-loop : goal.invariant-loop
invariant-loop g l = (goal.iterator-loop g).can_next l.iterator' × (goal.iterator-loop g).is_finite l.iterator' × IsAtWork l.exchange l.fn.pass l.pass l.half
