use Rattle.ipdl_base.specs.declared.kinds.Side.TheVariants as sides
use Rattle.script_steps.specs.Choices.{Setting}
use Rattle.world_core.proofs.KeptHalves.{world-apart}
use Rattle.world_core.proofs.world.World.into_halves.Goals as goal
use Rattle.world_core.specs.WorldView.{state_of}

pub returns-clause-parent : goal.returns-clause-parent
returns-clause-parent c =
    let w = c.self.inside in
    let setting : Setting = record { schema = w.schema.now; script = w.script.now; stop = w.stop; limit = w.limit } in
    world-apart setting (state_of setting w.link.lines) sides.Parent w.link w.parent c.set_out.new.self c.args.self c.self.invariant.run c.self.invariant.parent_is c.self.view_is c.requires c.set_out.ensures

pub returns-clause-child : goal.returns-clause-child
returns-clause-child c =
    let w = c.self.inside in
    let setting : Setting = record { schema = w.schema.now; script = w.script.now; stop = w.stop; limit = w.limit } in
    world-apart setting (state_of setting w.link.lines) sides.Child w.link w.child c.set_out-2.new.self c.args.self c.self.invariant.run c.self.invariant.child_is c.self.view_is c.requires c.set_out-2.ensures
