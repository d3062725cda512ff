use Rattle.thread_link.proofs.pass.Exchange.meet.Given as goal
use Rattle.thread_link.specs.Passes.{about}

abbrev pub ghost-turn : goal.ghost-turn
ghost-turn g a = (about a.self.now, a.pass.now.side)
