use Rattle.std.proofs.Common.{arith, reverse}
use Rattle.end_parts.proofs.StackLemmas.{length-frames, length-items}
use Rattle.end_parts.proofs.stack_entries.StackEntries.push_wait.Goals as goal

pub push_spare-requires : goal.push_spare-requires
push_spare-requires c =
    omega (arith, length-items c.self.inside.frames c.self.inside.details.items c.args.self.now c.self.invariant.0 c.self.view_is, c.requires, c.self.invariant.1, c.self.inside.details.ok.0)

pub push_wait-requires : goal.push_wait-requires
push_wait-requires c = omega (arith, length-frames c.self.inside.frames (reverse c.self.inside.details.items) c.args.self.now c.self.invariant.0 c.self.view_is, c.requires)
