use Rattle.world_core.proofs.KeptHalves.{apart-counted, apart-few, take-gives, take-room}
use Rattle.world_core.proofs.half.Half.take_in.Goals as goal

pub deliver_for-answer-requires : goal.deliver_for-answer-requires
deliver_for-answer-requires c = (apart-counted c.args.self.now c.requires.apart, (c.requires.opened, (apart-few c.args.self.now c.requires.apart, c.requires.within)))

pub take_over-requires : goal.take_over-requires
take_over-requires c =
    take-room c.args.self.now c.args.packet.now c.holds_bytes.ensures c.requires.opened c.requires.within c.requires.apart c.requires.room c.deliver_for-answer.result c.deliver_for-answer.new.self c.deliver_for-answer.ensures

pub returns : goal.returns
returns c =
    take-gives c.args.self.now c.args.packet.now c.holds_bytes.ensures c.requires.opened c.requires.within c.requires.rests c.deliver_for-answer.result c.deliver_for-answer.new.self c.take_over.new.self c.deliver_for-answer.ensures c.take_over.ensures
