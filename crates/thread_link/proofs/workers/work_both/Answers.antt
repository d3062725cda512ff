use denote.Param.Send.{sendable}
use Rattle.thread_link.proofs.Sent.{exchange_sync, gate_sync, pass_send}
use Rattle.world_core.proofs.SentHalves.{half_send}
use Rattle.thread_link.proofs.workers.work_both.Goals as goal

pub join_mut-first-requires-send-F : goal.join_mut-first-requires-send-F
join_mut-first-requires-send-F g c κs within = search (sendable, exchange_sync, gate_sync, pass_send, half_send) depth 20
