-- The passes of a side may go to another thread, and the queues of a run and its gate may be shared by threads.
use denote.Param.Send.{IsSend, IsSync, sendable}
use Rattle.std.proofs.Crossing.{crosses}
use Rattle.atomic_blocks.proofs.web.Seat.TheSendSync as seat
use Rattle.atomic_blocks.proofs.web.Web.TheSendSync as web
use Rattle.crossbeam_queue.proofs.seg_queue.Chained.TheSendSync as chained
use Rattle.crossbeam_queue.proofs.seg_queue.Ends.TheSendSync as ends
use Rattle.schedules.specs.contracts.gate.Gate as gate
use Rattle.queue_link.proofs.packets.StampedPacket.TheSendSync as stamped
use Rattle.queue_link.specs.contracts.packets.Queues as both_queues
use Rattle.queue_link.specs.contracts.packets.SidePasses as side_passes

ruleset given = (sendable, crosses, stamped.the_send)

pub queues_sync : IsSync both_queues.the_field.row
queues_sync = search (given, chained.the_sync, web.the_sync, ends.the_sync) depth 30

pub side_passes_send : IsSend side_passes.the_field.row
side_passes_send = search (given, seat.the_send) depth 20

pub gate_sync : IsSync gate.the_row
gate_sync = search given depth 20
