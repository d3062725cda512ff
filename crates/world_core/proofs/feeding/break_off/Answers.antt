use Rattle.world_core.proofs.FeedFrames.{break-gives, mark-accepted}
use Rattle.world_core.proofs.feeding.break_off.Goals as goal

pub deliver-requires : goal.deliver-requires
deliver-requires g c = (c.requires.counted, (c.requires.open_is, (c.requires.few, (c.requires.within, mark-accepted c.args.half.now.end))))

pub returns-in-Did : goal.returns-in-Did
returns-in-Did g c = break-gives c.args.half.now g.progress c.deliver.new.self c.store.new.half c.args.trace.now c.store.new.trace c.store.result c.in-Did.ensures c.store.ensures
