use Rattle.world_core.proofs.FeedFrames.{mark-accepted, mark-steps}
use Rattle.world_core.proofs.half.Half.break_off.Goals as goal

pub deliver-requires : goal.deliver-requires
deliver-requires g c = (c.requires.0, (c.requires.1.0, (c.requires.1.1.0, (c.requires.1.1.1, mark-accepted c.args.self.now.end))))

pub returns-in-Did : goal.returns-in-Did
returns-in-Did g c = mark-steps c.args.self.now g.progress c.deliver.new.self c.in-Did.ensures
