use Rattle.explorer.proofs.Keys.{has-so}
use Rattle.explorer.proofs.states.States.has.Goals as goal

pub returns : goal.returns
returns c = has-so c.args.self.now.met.keys c.args.key c.contains.result c.contains.ensures
