use Rattle.world_core.proofs.Meetings.{handed-stands, has-met}
use Rattle.world_core.proofs.half.Half.meet.Goals as goal

pub deliver_all-requires : goal.deliver_all-requires
deliver_all-requires g c =
    handed-stands g.at.0 g.at.1 c.args.self.now c.args.link.now c.requires.0 c.requires.1 c.hand_in.new.link c.hand_in.ensures.appends c.hand_in.new.self c.hand_in.ensures.half

pub returns-in-Did-clause-met : goal.returns-in-Did-clause-met
returns-in-Did-clause-met g c =
    has-met g.at.0 g.at.1 c.args.self.now c.args.link.now c.requires.0 c.requires.1 c.hand_in.new.link c.hand_in.ensures.appends c.deliver_all.new.self c.deliver_all.new.link c.deliver_all.ensures.stands c.deliver_all.ensures.delivers

pub returns-in-Spent-clause-met : goal.returns-in-Spent-clause-met
returns-in-Spent-clause-met g c =
    has-met g.at.0 g.at.1 c.args.self.now c.args.link.now c.requires.0 c.requires.1 c.hand_in.new.link c.hand_in.ensures.appends c.deliver_all.new.self c.deliver_all.new.link c.deliver_all.ensures.stands c.deliver_all.ensures.delivers

pub returns-in-NoMemory-clause-met : goal.returns-in-NoMemory-clause-met
returns-in-NoMemory-clause-met g c =
    has-met g.at.0 g.at.1 c.args.self.now c.args.link.now c.requires.0 c.requires.1 c.hand_in.new.link c.hand_in.ensures.appends c.deliver_all.new.self c.deliver_all.new.link c.deliver_all.ensures.stands c.deliver_all.ensures.delivers
