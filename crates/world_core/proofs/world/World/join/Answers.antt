use Rattle.world_core.proofs.Apart.{joined-is-world}
use Rattle.world_core.proofs.world.World.join.Goals as goal

pub invariant_of-result : goal.invariant_of-result
invariant_of-result c =
    joined-is-world (record { schema = c.schema.result.now; script = c.script.result.now; stop = c.stop.result; limit = c.limit.result }) c.args.parent c.args.child c.args.link c.schema.ensures c.script.ensures c.stop.ensures c.limit.ensures c.requires
