use denote.Param.Send.{sendable}
use Rattle.queue_link.proofs.Sent.{gate_sync, queues_sync, side_passes_send}
use Rattle.queue_link.proofs.workers.work_both.Goals as goal
use Rattle.world_core.proofs.SentHalves.{half_send}

pub join_mut-first-requires-send-F : goal.join_mut-first-requires-send-F
join_mut-first-requires-send-F g c κs within = search (sendable, gate_sync, queues_sync, side_passes_send, half_send) depth 20
