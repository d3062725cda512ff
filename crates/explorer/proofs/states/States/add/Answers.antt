use Rattle.explorer.proofs.Keys.{added-so}
use Rattle.explorer.proofs.states.States.add.Goals as goal

pub returns-in-Ok-clause-added : goal.returns-in-Ok-clause-added
returns-in-Ok-clause-added c = added-so c.args.self.now.met.keys c.insert.new.self.keys c.args.key c.requires c.in-Ok.ensures.keys
