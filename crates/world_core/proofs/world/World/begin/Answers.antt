use Rattle.script_steps.specs.Choices.{Setting}
use Rattle.world_core.proofs.Beginning.{opens-so, world-begins}
use Rattle.world_core.proofs.world.World.begin.Goals as goal

pub invariant_of-world : goal.invariant_of-world
invariant_of-world c =
    let a = c.args in
    let r = c.requires in
    let setting : Setting = record { schema = a.schema.now; script = a.script.now; stop = a.stop; limit = a.limit } in
    world-begins setting a.halves.0 a.halves.1 a.link r.sound r.valid r.small r.parent r.child r.link

pub returns-clause-opened : goal.returns-clause-opened
returns-clause-opened c =
    let a = c.args in
    let r = c.requires in
    let setting : Setting = record { schema = a.schema.now; script = a.script.now; stop = a.stop; limit = a.limit } in
    opens-so setting a.halves.0 a.halves.1 a.link r.sound r.valid r.small r.parent r.child r.link
