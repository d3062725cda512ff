-- An end may go to another thread. Each lemma is on a type as a field; a search that goes down through all of them runs out of steps.
use denote.Enum.Declared.{Declared, shape}
use denote.Ref.{NamedLft}
use denote.Param.Send.{EachSend, IsSend, enum_send, sendable}
use Rattle.std.proofs.Crossing.{crosses}
use Rattle.actor_tree.proofs.links.Resume.TheSendSync as resume
use Rattle.actor_tree.proofs.node.Node.TheSendSync as tree_node
use Rattle.actor_tree.specs.contracts.links.Links as tree_links
use Rattle.actor_tree.specs.contracts.tree.Tree as trees
use Rattle.channel_core.specs.contracts.end.End as ends
use Rattle.end_parts.proofs.name_entries.NameEntries.TheSendSync as names
use Rattle.end_parts.proofs.packet.Packet.TheSendSync as packet
use Rattle.end_parts.specs.contracts.end_output.EndOutput as outputs
use Rattle.end_parts.specs.contracts.end_output.LazyRequest as lazies
use Rattle.end_parts.specs.contracts.promise_entries.PromiseEntries as promise_entries
use Rattle.end_parts.specs.contracts.reply.RequestKey as request_keys
use Rattle.end_parts.specs.contracts.stack_entries.EntryDetail as details
use Rattle.end_parts.specs.contracts.stack_entries.StackEntries as stack_entries
use Rattle.ipdl_base.proofs.items.Items.TheSendSync as list
use Rattle.ipdl_base.proofs.kinds.Destroy.TheSendSync as destroy
use Rattle.ipdl_base.proofs.kinds.Reason.TheSendSync as reason
use Rattle.ipdl_base.proofs.kinds.SendRefusal.TheSendSync as refusal
use Rattle.ipdl_base.proofs.kinds.Side.TheSendSync as side
use Rattle.ipdl_base.proofs.name.Name.TheSendSync as name
use Rattle.ipdl_base.proofs.value.Value.TheLaws.TheKnot as value
use Rattle.ipdl_base.specs.contracts.line.Line as lines
use Rattle.ipdl_base.specs.contracts.line.What as whats
use Rattle.ipdl_base.specs.contracts.message.Body as bodies
use Rattle.ipdl_base.specs.contracts.message.Message as messages
use Rattle.ipdl_base.specs.contracts.value.Values as values
use Rattle.linked_lists.proofs.link.Ends.TheSendSync as list_ends
use Rattle.linked_lists.specs.contracts.keys.Keys as keys
use Rattle.nesting_core.specs.contracts.frame.Answer as answers
use Rattle.nesting_core.specs.contracts.frame.StackFrame as frames
use Rattle.nesting_core.specs.contracts.stack.Stack as stacks
use Rattle.pending_queue.proofs.class.Likeness.TheSendSync as likeness
use Rattle.pending_queue.specs.contracts.class.Classes as classes
use Rattle.pending_queue.specs.contracts.item.Item as items
use Rattle.pending_queue.specs.contracts.node.Node as queue_nodes
use Rattle.pending_queue.specs.contracts.pending.Pending as pendings
use Rattle.pending_queue.specs.contracts.queue.Queue as queues
use Rattle.promise_table.specs.contracts.node.Node as promise_nodes
use Rattle.promise_table.specs.contracts.promise.Outcome as outcomes
use Rattle.promise_table.specs.contracts.promise.Promise as promise_rows
use Rattle.promise_table.specs.contracts.promises.Promises as promises
use Rattle.promise_table.specs.contracts.table.Table as promise_tables
use Rattle.world_core.proofs.SentContainers.{containers}
use Rattle.world_core.proofs.SharedScripts.{schema_sync}

ruleset given = (sendable, crosses, containers)

keys_send : IsSend keys.the_field.row
keys_send = search given depth 20

pub values_send : IsSend values.the_row
values_send = search (given, value.crosses) depth 20

pub values_field_send : IsSend values.the_field.row
values_field_send = search (given, value.crosses) depth 20

body_send : IsSend bodies.the_field.row
body_send = search (given, value.crosses) depth 20

message_send : IsSend messages.the_field.row
message_send = search (given, body_send) depth 20

-- Living actors

tree_links_send : IsSend tree_links.the_field.row
tree_links_send = search (given, keys_send, tree_node.the_send) depth 20

tree_send : IsSend trees.the_field.row
tree_send = search (given, tree_links_send, resume.the_send) depth 20

-- Stacks

answer_send : IsSend answers.the_field.row
answer_send = search (given, value.crosses) depth 20

frame_send : IsSend frames.the_field.row
frame_send = search (given, answer_send) depth 20

stack_send : IsSend stacks.the_field.row
stack_send = search (given, frame_send) depth 20

-- Promises

outcome_send : IsSend outcomes.the_field.row
outcome_send = search (given, value.crosses) depth 20

promise_send : IsSend promise_rows.the_field.row
promise_send = search (given, outcome_send) depth 20

promise_node_send : IsSend promise_nodes.the_field.row
promise_node_send = search (given, promise_send) depth 20

promise_table_send : IsSend promise_tables.the_field.row
promise_table_send = search (given, promise_node_send, list_ends.the_send, keys_send) depth 20

promises_send : IsSend promises.the_field.row
promises_send = search (given, promise_table_send) depth 20

-- Arrived items

item_send : IsSend items.the_field.row
item_send = search (given, message_send) depth 20

queue_node_send : IsSend queue_nodes.the_field.row
queue_node_send = search (given, item_send) depth 20

classes_send : IsSend classes.the_field.row
classes_send = search given depth 20

queue_send : IsSend queues.the_field.row
queue_send = search (given, queue_node_send, likeness.the_send, classes_send, keys_send) depth 20 fits 4000

pending_send : IsSend pendings.the_field.row
pending_send = search (given, queue_send) depth 20

-- Lines

ruleset of_lines = (given, side.the_send, destroy.the_send, reason.the_send, refusal.the_send, name.the_send, value.crosses)

abbrev what_type : Declared
what_type = whats.the_type

-- each kind of line by itself, since all at once are too many for one search
what_parts : EachSend (shape what_type).variants
what_parts = (search of_lines depth 20, (search of_lines depth 20, (search of_lines depth 20, (search of_lines depth 20, (search of_lines depth 20, (search of_lines depth 20, (search of_lines depth 20, (search of_lines depth 20, (search of_lines depth 20, (search of_lines depth 20, (search of_lines depth 20, (search of_lines depth 20, (search of_lines depth 20, (search of_lines depth 20, (search of_lines depth 20, (search of_lines depth 20, (search of_lines depth 20, (search of_lines depth 20, (search of_lines depth 20, (search of_lines depth 20, (search of_lines depth 20, (search of_lines depth 20, (search of_lines depth 20, (search of_lines depth 20, (search of_lines depth 20, (search of_lines depth 20, (search of_lines depth 20, (search of_lines depth 20, (search of_lines depth 20, (search of_lines depth 20, (search of_lines depth 20, (search of_lines depth 20, (search of_lines depth 20, tt)))))))))))))))))))))))))))))))))

what_send : IsSend whats.the_field.row
what_send = enum_send (shape what_type) what_parts

pub line_send : IsSend lines.the_field.row
line_send = search (of_lines, what_send) depth 20

-- Ends

request_key_send : IsSend request_keys.the_field.row
request_key_send = search sendable depth 20

detail_send : IsSend details.the_field.row
detail_send = search (given, values_send, request_key_send) depth 20

stack_entries_send : IsSend stack_entries.the_field.row
stack_entries_send = search (given, stack_send, detail_send) depth 20

promise_entries_send : IsSend promise_entries.the_field.row
promise_entries_send = search (given, promises_send, request_key_send) depth 20

lazy_send : IsSend lazies.the_field.row
lazy_send = search (given, message_send, list.the_send) depth 20

output_send : IsSend outputs.the_field.row
output_send = search (given, line_send, packet.the_send, lazy_send, list.the_send) depth 20 fits 4000

pub end_send : (κ : NamedLft) → IsSend (ends.the_field κ).row
end_send κ = search (given, schema_sync, tree_send, pending_send, stack_entries_send, promise_entries_send, names.the_send, output_send) depth 30 fits 4000
