use Rattle.world_core.proofs.SplitHalves.{may-go-on-following, own-fits}
use Rattle.world_core.proofs.half.Half.own.Goals as goal

pub own_step-requires : goal.own_step-requires
own_step-requires g c = may-go-on-following g.at.0 g.at.1 g.at.2 c.args.self.now c.requires

pub returns-clause-fits : goal.returns-clause-fits
returns-clause-fits g c = own-fits g.at.0 g.at.1 g.at.2 c.args.self.now c.own_step.new.self c.own_step.result c.requires c.own_step.ensures
