-- Passes may go to another thread, and an exchange and a gate may be shared by threads.
use denote.Ref.{NamedLft}
use denote.Param.Send.{IsSend, IsSync, sendable}
use Rattle.std.proofs.Crossing.{crosses}
use Rattle.atomic_table.proofs.send_lease.SendLease.TheSendSync as lease
use Rattle.atomic_table.proofs.shared.Seat.TheSendSync as seat
use Rattle.atomic_table.proofs.shared.Shared.TheSendSync as shared
use Rattle.schedules.specs.contracts.gate.Gate as gates
use Rattle.thread_link.specs.contracts.parts.SharedLink as shared_links
use Rattle.thread_link.specs.contracts.pass.Pass as passes
use Rattle.thread_link.specs.contracts.pass.Exchange as exchanges
use Rattle.world_core.proofs.SentHalves.{link_send}

ruleset given = (sendable, crosses)

shared_link_send : IsSend shared_links.the_row
shared_link_send = search (given, link_send) depth 20

pub pass_send : IsSend passes.the_field.row
pass_send = search (given, seat.the_send, shared_link_send) depth 20

pub exchange_sync : (κ : NamedLft) → IsSync (exchanges.the_field κ).row
exchange_sync κ = search (given, shared.the_sync, lease.the_sync, shared_link_send) depth 20

pub gate_sync : IsSync gates.the_row
gate_sync = search given depth 20
