use Rattle.world_core.proofs.KeptHalves.{roomy-apart, roomy-each, roomy-gives}
use Rattle.world_core.proofs.half.Half.go_on.Goals as goal
use Rattle.world_core.specs.Relaying.{GoingGives}

pub returns-in-Err : goal.returns-in-Err
returns-in-Err c = roomy-each c.args.self.now c.make_room.new.self c.make_room.ensures.same

pub step_on-requires : goal.step_on-requires
step_on-requires c = record { apart = roomy-apart c.args.self.now c.make_room.new.self c.make_room.ensures.same c.requires; room = c.in-Ok.ensures.room }

pub returns-in-Ok : goal.returns-in-Ok
returns-in-Ok c =
    roomy-gives (λ setting side state handed. GoingGives setting side state handed c.step_on.result c.step_on.new.self) c.args.self.now c.make_room.new.self c.make_room.ensures.same c.step_on.ensures
