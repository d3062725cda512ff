use Rattle.thread_link.proofs.pass.Exchange.turn.Given as goal

abbrev pub ghost-meet : goal.ghost-meet
ghost-meet g a = g.at
