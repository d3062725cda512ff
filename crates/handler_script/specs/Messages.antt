-- The messages that a script names, and who may send and receive them.
use Rattle.std.specs.Prelude.{ℕ, Bool, true, false, List, Option, None, find, option_and_then}
use Rattle.std.specs.Str.{bytes_eq}
use Rattle.ipdl_base.specs.declared.kinds.Direction.{Direction}
use Rattle.ipdl_base.specs.declared.kinds.Direction.TheVariants as direction
use Rattle.ipdl_base.specs.declared.kinds.Side.{Side}
use Rattle.ipdl_base.specs.declared.kinds.Side.TheVariants as side
use Rattle.ipdl_base.specs.declared.kinds.Semantics.{Semantics}
use Rattle.ipdl_base.specs.declared.kinds.Semantics.TheVariants.{Async, Sync}
use Rattle.ipdl_base.specs.declared.schema.Kind.{Kind}
use Rattle.ipdl_base.specs.declared.schema.Kind.TheVariants.{Constructor}
use Rattle.ipdl_base.specs.declared.schema.MessageRow.{MessageRow}
use Rattle.ipdl_base.specs.declared.schema.ParamRow.{ParamRow}
use Rattle.ipdl_base.specs.declared.schema.ProtocolRow.{ProtocolRow}
use Rattle.ipdl_base.specs.declared.schema.Schema.{Schema}
use Rattle.ipdl_base.specs.Words.{short_name}
use Rattle.script_reader.specs.declared.statement.MessageName.{MessageName}
use Rattle.script_reader.specs.declared.statement.Statement.{Statement}
use Rattle.handler_script.specs.Mentions.{message_of}

-- the protocol with this short name
abbrev pub protocol_named : Schema → List ℕ → Option ProtocolRow
protocol_named schema name = find (λ p. bytes_eq (short_name p.name) name) schema.protocols

-- the message of a protocol with this name
abbrev pub message_in : List ℕ → ProtocolRow → Option MessageRow
message_in name protocol = find (λ m. bytes_eq m.name name) protocol.messages

-- the message of this name
abbrev pub message_named : Schema → MessageName → Option MessageRow
message_named schema name = option_and_then (message_in name.message) (protocol_named schema name.protocol)

-- the message that a statement names, if it exists
abbrev pub named : Schema → Statement → Option MessageRow
named schema s = option_and_then (message_named schema) (message_of s)

-- whether the side receives messages of this direction
abbrev pub receives : Side → Direction → Bool
receives side.Parent direction.Child = false
receives side.Child direction.Parent = false
receives _ _ = true

-- the types of the values that resolve an async message with returns, or `None` for any other message
abbrev pub if_async : Semantics → Option (List ParamRow) → Option (List ParamRow)
if_async Async returns = returns
if_async Sync returns = None

abbrev pub resolves : MessageRow → Option (List ParamRow)
resolves message = if_async message.semantics message.returns

-- the types of the values that a sync message with returns gives back, or `None` for any other message
abbrev pub if_sync : Semantics → Option (List ParamRow) → Option (List ParamRow)
if_sync Sync returns = returns
if_sync Async returns = None

abbrev pub replies : MessageRow → Option (List ParamRow)
replies message = if_sync message.semantics message.returns

abbrev pub is_constructor : Kind → Bool
is_constructor (Constructor p) = true
is_constructor _ = false
