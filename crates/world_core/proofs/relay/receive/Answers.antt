use Rattle.std.proofs.Common.{◌∙◌, subst, sym}
use Rattle.world_core.proofs.RelayLoop.{closed-each, empty-each, facing-goes, packet-each}
use Rattle.world_core.proofs.relay.receive.Goals as goal
use Rattle.world_core.specs.declared.answers.StepAnswer.{StepAnswer}
use Rattle.world_core.specs.Relaying.{FacingEach, RelayTurnGives}

pub returns-then-not-is_open : goal.returns-then-not-is_open
returns-then-not-is_open c = closed-each c.args.half.now c.args.facing.now c.requires.rests (sym c.is_open.ensures ∙ c.if-not-is_open.true)

pub accept-requires : goal.accept-requires
accept-requires c = record { apart = facing-goes c.args.half.now c.args.facing.now c.requires.facing; rests = c.requires.rests }

pub returns-in-None : goal.returns-in-None
returns-in-None c = empty-each c.args.half.now c.args.facing.now c.requires.rests (sym c.is_open.ensures ∙ c.if-not-is_open.false) c.put.new.self c.in-None.ensures

pub returns-in-Some : goal.returns-in-Some
returns-in-Some c =
    subst (λ (told : StepAnswer). FacingEach c.args.half.now c.args.facing.now (λ setting side state. RelayTurnGives setting side state told c.accept.new.self c.put.new.self)) (sym c.turn_answer.ensures)
    (packet-each c.args.half.now c.args.facing.now c.requires.rests (sym c.is_open.ensures ∙ c.if-not-is_open.false) c.in-Some.packet c.put.new.self c.in-Some.ensures c.accept.result c.accept.new.self c.accept.ensures.gives c.accept.ensures.reads)
