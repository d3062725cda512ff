use Rattle.world_core.proofs.RelayLoop.{facing-goes, own-each, rested-each, rested-faces, rested-rests}
use Rattle.world_core.proofs.relay.relay_turn.Goals as goal
use Rattle.world_core.specs.Relaying.{RelayTurnGives}

pub go_on-requires : goal.go_on-requires
go_on-requires c = facing-goes c.args.half.now c.args.facing.now c.requires

pub receive-requires : goal.receive-requires
receive-requires c = record {
  facing = rested-faces c.args.half.now c.go_on.new.self c.args.facing.now c.in-Nothing.ensures c.requires;
  rests = rested-rests c.args.half.now c.go_on.new.self c.args.facing.now c.in-Nothing.ensures c.requires;
}

pub returns-in-Nothing : goal.returns-in-Nothing
returns-in-Nothing c =
    rested-each (λ setting side state. RelayTurnGives setting side state c.receive.result c.receive.new.half c.receive.new.facing) c.args.half.now c.go_on.new.self c.args.facing.now c.in-Nothing.ensures c.receive.ensures

pub returns-in_default : goal.returns-in_default
returns-in_default c = own-each c.args.half.now c.go_on.new.self c.args.facing.now c.go_on.result c.in_default.not-Nothing c.go_on.ensures
