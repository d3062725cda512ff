use Rattle.queue_link.proofs.Hands.{own-gives}
use Rattle.queue_link.proofs.steps.go_on.Goals as goal

pub returns : goal.returns
returns g c pushed popped work =
    own-gives g.at.0 g.at.1 pushed popped c.args.half.now c.go_on.new.self work c.go_on.result (c.go_on.ensures g.at.0 g.at.1 work.state work.state.sent work.goes)
