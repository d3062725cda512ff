use Rattle.std.proofs.Common.{sym, ap, subst, List, Some}
use Rattle.end_parts.specs.declared.packet.Packet.{Packet}
use Rattle.ordered_queue.specs.Passes.{view_of}
use Rattle.queue_link.specs.declared.packets.StampedPacket.{StampedPacket}
use Rattle.queue_link.specs.Work.{HandsOver, PacketView}
use Rattle.queue_link.proofs.Hands.{put-none, put-some}
use Rattle.queue_link.proofs.steps.push_next.Goals as goal
use Rattle.world_core.specs.Relaying.{PutGives}

pub returns-in_default-clause-hands : goal.returns-in_default-clause-hands
returns-in_default-clause-hands g c =
    let h = c.requires.1.1 in
    put-none g.at.0 g.at.1 (view_of c.args.pushing.now).pushed (view_of c.args.popping.now).popped c.args.half.now c.put.new.self h (c.in_default.ensures g.at.0 g.at.1 h.state h.handed h.goes)

pub returns-clause-hands : goal.returns-clause-hands
returns-clause-hands g c =
    let h = c.requires.1.1 in
    let popped = (view_of c.args.popping.now).popped in
    subst (λ (values : List StampedPacket). HandsOver g.at.0 g.at.1 values popped c.put.new.self) (sym (ap (λ (v : PacketView). v.pushed) {x = view_of c.push.new.pass} c.in_ok-push.ensures.pushed))
    (put-some g.at.0 g.at.1 (view_of c.args.pushing.now).pushed popped c.args.half.now c.put.new.self h c.stamped.result c.stamped.ensures.stamp
    (subst (λ (packet : Packet). PutGives g.at.0 g.at.1 h.state h.handed (Some packet) c.put.new.self) (sym c.stamped.ensures.packet) (c.in-Some.ensures g.at.0 g.at.1 h.state h.handed h.goes)))
