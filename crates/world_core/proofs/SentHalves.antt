-- Halves and links may go to another thread.
use denote.Ref.{NamedLft}
use denote.Param.Send.{IsSend, sendable}
use Rattle.std.proofs.Crossing.{crosses}
use Rattle.channel_core.proofs.resolver.Resolver.TheSendSync as resolver
use Rattle.end_parts.proofs.packet.Packet.TheSendSync as packet
use Rattle.history.specs.contracts.history.History as histories
use Rattle.schedules.proofs.stop.Stop.TheSendSync as stop
use Rattle.script_parts.specs.contracts.blocks.BlockTable as block_tables
use Rattle.script_parts.proofs.blocks.MessageBlocks.TheSendSync as message_blocks
use Rattle.world_core.proofs.SentContainers.{containers}
use Rattle.world_core.proofs.SentEnds.{end_send, line_send, values_field_send}
use Rattle.world_core.proofs.SharedScripts.{schema_sync, script_sync}
use Rattle.world_core.specs.contracts.counts.ScriptCounts as counts
use Rattle.world_core.specs.contracts.counts.RunningRequest as running_requests
use Rattle.world_core.specs.contracts.half.Half as halves
use Rattle.world_core.specs.contracts.link.Link as links

ruleset given = (sendable, crosses, containers)

block_table_send : IsSend block_tables.the_field.row
block_table_send = search (given, message_blocks.the_send) depth 20

running_request_send : IsSend running_requests.the_field.row
running_request_send = search (given, values_field_send, resolver.the_send) depth 20

counts_send : IsSend counts.the_field.row
counts_send = search (given, block_table_send, running_request_send) depth 20

history_send : IsSend histories.the_field.row
history_send = search (given, line_send) depth 20

pub half_send : (κ : NamedLft) → IsSend (halves.the_field κ).row
half_send κ = search (given, schema_sync, script_sync, end_send, stop.the_send, counts_send, history_send) depth 20

pub link_send : IsSend links.the_field.row
link_send = search (given, history_send, packet.the_send) depth 20
