use Rattle.world_core.proofs.KeptHalves.{step-gives, step-may, step-room}
use Rattle.world_core.proofs.half.Half.step_on.Goals as goal

pub own_step-answer-requires : goal.own_step-answer-requires
own_step-answer-requires c = step-may c.args.self.now c.requires.apart

pub take_over-requires : goal.take_over-requires
take_over-requires c = step-room c.args.self.now c.requires.apart c.requires.room c.own_step-answer.result c.own_step-answer.new.self c.own_step-answer.ensures

pub returns : goal.returns
returns c = step-gives c.args.self.now c.own_step-answer.result c.own_step-answer.new.self c.take_over.new.self c.own_step-answer.ensures c.take_over.ensures
