use Rattle.std.proofs.Common.{rules, sym, subst, List}
use Rattle.ordered_queue.specs.Passes.{view_of}
use Rattle.queue_link.specs.declared.packets.StampedPacket.{StampedPacket}
use Rattle.queue_link.specs.Work.{DeliveryGives}
use Rattle.queue_link.proofs.Hands.{did-hand, done-take, other-take}
use Rattle.queue_link.proofs.steps.deliver.Goals as goal

pub hand_over-requires : goal.hand_over-requires
hand_over-requires g c κs within =
    let rest = c.requires.1.1.0 in
    let pushed = (view_of c.args.pushing.now).pushed in
    let gives = subst (λ (popped : List StampedPacket). DeliveryGives g.at.0 g.at.1 pushed popped c.accept.result c.accept.new.half) (sym rest.1) (c.accept.ensures pushed rest.0 rest.2) in
    (search rules, (c.requires.1.0, did-hand g.at.0 g.at.1 pushed (view_of c.args.popping.now).popped c.accept.new.half c.accept.result c.in-Did.is gives))

pub returns-in-Did-clause-gives : goal.returns-in-Did-clause-gives
returns-in-Did-clause-gives g c =
    done-take g.at.0 g.at.1 (view_of c.hand_over.new.pushing).pushed (view_of c.args.popping.now).popped c.hand_over.new.half c.hand_over.result c.done.result c.done.ensures c.hand_over.ensures.work

pub returns-in_default-clause-gives : goal.returns-in_default-clause-gives
returns-in_default-clause-gives g c =
    let rest = c.requires.1.1.0 in
    let pushed = (view_of c.args.pushing.now).pushed in
    other-take g.at.0 g.at.1 pushed (view_of c.args.popping.now).popped c.accept.new.half c.accept.result c.in_default.not-Did
    (subst (λ (popped : List StampedPacket). DeliveryGives g.at.0 g.at.1 pushed popped c.accept.result c.accept.new.half) (sym rest.1) (c.accept.ensures pushed rest.0 rest.2))
