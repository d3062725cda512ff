-- Schemas and scripts may be shared by threads.
use denote.Param.Send.{IsSync, sendable}
use Rattle.std.proofs.Crossing.{crosses}
use Rattle.handler_script.proofs.term.Term.TheLaws.TheKnot as term
use Rattle.handler_script.specs.contracts.action.Action as actions
use Rattle.handler_script.specs.contracts.action.Block as blocks
use Rattle.handler_script.specs.contracts.script.Script as scripts
use Rattle.handler_script.specs.contracts.term.Terms as terms
use Rattle.ipdl_base.specs.contracts.builtin.Builtin as builtins
use Rattle.ipdl_base.proofs.items.Items.TheSendSync as list
use Rattle.ipdl_base.proofs.name.Name.TheSendSync as name
use Rattle.ipdl_base.proofs.schema.Shape.TheLaws.TheKnot as shape
use Rattle.ipdl_base.specs.contracts.schema.MessageRow as messages
use Rattle.ipdl_base.specs.contracts.schema.ParamRow as params
use Rattle.ipdl_base.specs.contracts.schema.ProtocolRow as protocols
use Rattle.ipdl_base.specs.contracts.schema.Schema as schemas
use Rattle.ipdl_base.specs.contracts.schema.Shape as shapes
use Rattle.ipdl_base.specs.contracts.schema.TypeRow as types

-- Scripts

terms_sync : IsSync terms.the_row
terms_sync = search (sendable, crosses, term.crosses, name.the_sync) depth 20

action_sync : IsSync actions.the_field.row
action_sync = search (sendable, crosses, term.crosses, name.the_sync) depth 20 fits 4000

action_row_sync : IsSync actions.the_row
action_row_sync = search (sendable, action_sync)

block_sync : IsSync blocks.the_row
block_sync = search (sendable, terms_sync, action_row_sync, list.the_sync) depth 20

pub script_sync : IsSync scripts.the_row
script_sync = search (sendable, list.the_sync, block_sync) depth 20

-- Schemas

builtin_sync : IsSync builtins.the_field.row
builtin_sync = search sendable depth 60 fits 4000

shape_sync : IsSync shapes.the_row
shape_sync = search (sendable, crosses, shape.crosses, builtin_sync, name.the_sync) depth 20

shape_field_sync : IsSync shapes.the_field.row
shape_field_sync = search (sendable, crosses, shape.crosses, builtin_sync, name.the_sync) depth 20

param_sync : IsSync params.the_row
param_sync = search (sendable, name.the_sync, shape_field_sync) depth 20

message_sync : IsSync messages.the_row
message_sync = search (sendable, list.the_sync, name.the_sync, param_sync) depth 20 fits 4000

protocol_sync : IsSync protocols.the_row
protocol_sync = search (sendable, list.the_sync, name.the_sync, message_sync) depth 20 fits 4000

type_sync : IsSync types.the_row
type_sync = search (sendable, list.the_sync, name.the_sync, param_sync, shape_sync) depth 20

pub schema_sync : IsSync schemas.the_row
schema_sync = search (sendable, list.the_sync, protocol_sync, type_sync) depth 20
