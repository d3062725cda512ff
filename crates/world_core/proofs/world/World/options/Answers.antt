use Rattle.world_core.proofs.Optioning.{options-so}
use Rattle.world_core.proofs.world.World.options.Goals as goal
use Rattle.script_steps.specs.Choices.{Setting}

pub returns-in-Parent : goal.returns-in-Parent
returns-in-Parent c =
    let w = c.self.inside in
    let setting : Setting = record { schema = w.schema.now; script = w.script.now; stop = w.stop; limit = w.limit } in
    options-so setting c.args.side w.parent w.link c.args.self.now c.options_of.result c.self.invariant.parent_is.about c.self.view_is c.options_of.ensures

pub returns-in-Child : goal.returns-in-Child
returns-in-Child c =
    let w = c.self.inside in
    let setting : Setting = record { schema = w.schema.now; script = w.script.now; stop = w.stop; limit = w.limit } in
    options-so setting c.args.side w.child w.link c.args.self.now c.options_of-in-Child.result c.self.invariant.child_is.about c.self.view_is c.options_of-in-Child.ensures
