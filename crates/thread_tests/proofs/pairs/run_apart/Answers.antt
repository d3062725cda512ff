use Rattle.world_core.proofs.SplitHalves.{split-own}
use Rattle.world_core.specs.HalfView.{setting_of}
use Rattle.thread_tests.proofs.pairs.run_apart.Goals as goal

pub over_exchange-link-requires : goal.over_exchange-link-requires
over_exchange-link-requires g c = (c.type_bounds.sync-R, split-own c.args.world.setting c.split-parent.result.0 c.split-parent.result.1 c.split-parent.result.2 c.split-parent.ensures.apart)

pub join-requires : goal.join-requires
join-requires g c = split-own (setting_of c.split-parent.result.0) c.over_exchange-link.new.parent c.over_exchange-link.new.child c.over_exchange-link.result.0 c.over_exchange-link.ensures
