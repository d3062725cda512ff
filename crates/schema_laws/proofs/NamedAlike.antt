-- The messages that a script names, and the blocks of a script, under a schema whose boxes are elsewhere.
use Rattle.std.proofs.Common.{◌≡◌, ◌∙◌, ℕ, List, map, Option, None, Some, refl}
use Rattle.std.specs.Prelude.{is_some, option_map, option_and_then}
use Rattle.std.specs.Option.{option_map_or}
use Rattle.std.specs.Str.{bytes_eq}
use Rattle.ipdl_base.specs.Words.{short_name}
use Rattle.ipdl_base.specs.declared.kinds.Semantics.{Semantics}
use Rattle.ipdl_base.specs.declared.kinds.Semantics.TheVariants.{Async, Sync}
use Rattle.ipdl_base.specs.declared.kinds.Side.{Side}
use Rattle.ipdl_base.specs.declared.schema.MessageRow.{MessageRow}
use Rattle.ipdl_base.specs.declared.schema.ParamRow.{ParamRow}
use Rattle.ipdl_base.specs.declared.schema.ProtocolRow.{ProtocolRow}
use Rattle.ipdl_base.specs.declared.schema.Schema.{Schema}
use Rattle.program_schema.specs.Laws.{plain_param_row, plain_message_row, plain_protocol_row, plain_schema}
use Rattle.schema_laws.proofs.Rows.{option_alike, then_alike, still_there, found}
use Rattle.script_reader.specs.declared.statement.MessageName.{MessageName}
use Rattle.script_reader.specs.declared.statement.Statement.{Statement}
use Rattle.script_reader.specs.declared.statement.Statement.TheVariants as forms
use Rattle.handler_script.specs.Blocks.{BlockContext, in_main, in_handler, standing_of, side_of, given_in, handled_in}
use Rattle.handler_script.specs.Broken.{types_by, types_of}
use Rattle.handler_script.specs.Mentions.{message_of}
use Rattle.handler_script.specs.Messages.{protocol_named, message_in, message_named, named, if_async, resolves, if_sync, replies}
use Rattle.handler_script.specs.ScriptOf.{number_of}

-- a block of a message whose types have their boxes at one place
abbrev pub plain_context : BlockContext → BlockContext
plain_context (in_main side) = in_main side
plain_context (in_handler side message) = in_handler side (plain_message_row message)

-- the result for an option is the same if it is the same for each value
mapped : {X Y : Type 0} (look : X → X) (f : X → Y) (after : Y → Y) → ((x : X) → f (look x) ≡ after (f x)) → (o : Option X) → option_map f (option_map look o) ≡ option_map after (option_map f o)
mapped look f after same None = refl
mapped look f after same (Some x) = λ i. Some (same x i)

-- What answers a message

async_alike : (semantics : Semantics) (returns : Option (List ParamRow)) → if_async semantics (option_map (map plain_param_row) returns) ≡ option_map (map plain_param_row) (if_async semantics returns)
async_alike Async returns = refl
async_alike Sync returns = refl

sync_alike : (semantics : Semantics) (returns : Option (List ParamRow)) → if_sync semantics (option_map (map plain_param_row) returns) ≡ option_map (map plain_param_row) (if_sync semantics returns)
sync_alike Async returns = refl
sync_alike Sync returns = refl

resolves_alike : (message : MessageRow) → resolves (plain_message_row message) ≡ option_map (map plain_param_row) (resolves message)
resolves_alike message = async_alike message.semantics message.returns

replies_alike : (message : MessageRow) → replies (plain_message_row message) ≡ option_map (map plain_param_row) (replies message)
replies_alike message = sync_alike message.semantics message.returns

pub resolved_alike : (message : MessageRow) → is_some (resolves (plain_message_row message)) ≡ is_some (resolves message)
resolved_alike message = (λ i. is_some (resolves_alike message i)) ∙ still_there (map plain_param_row) (resolves message)

replied_alike : (message : MessageRow) → is_some (replies (plain_message_row message)) ≡ is_some (replies message)
replied_alike message = (λ i. is_some (replies_alike message i)) ∙ still_there (map plain_param_row) (replies message)

-- Blocks

pub side_alike : (b : BlockContext) → side_of (plain_context b) ≡ side_of b
side_alike (in_main side) = refl
side_alike (in_handler side message) = refl

pub given_alike : (b : BlockContext) → given_in (plain_context b) ≡ map plain_param_row (given_in b)
given_alike (in_main side) = refl
given_alike (in_handler side message) = refl

handled_alike : (b : BlockContext) → handled_in (plain_context b) ≡ option_map plain_message_row (handled_in b)
handled_alike (in_main side) = refl
handled_alike (in_handler side message) = refl

pub handles_alike : (b : BlockContext) → option_map (λ message. message.number) (handled_in (plain_context b)) ≡ option_map (λ message. message.number) (handled_in b)
handles_alike (in_main side) = refl
handles_alike (in_handler side message) = refl

pub resolves_in_alike : (b : BlockContext) → is_some (option_and_then resolves (handled_in (plain_context b))) ≡ is_some (option_and_then resolves (handled_in b))
resolves_in_alike (in_main side) = refl
resolves_in_alike (in_handler side message) = resolved_alike message

pub replies_in_alike : (b : BlockContext) → is_some (option_and_then replies (handled_in (plain_context b))) ≡ is_some (option_and_then replies (handled_in b))
replies_in_alike (in_main side) = refl
replies_in_alike (in_handler side message) = replied_alike message

-- the types that values must fit, where a statement names this message
pub types_by_alike : (message : Option MessageRow) (b : BlockContext) (st : Statement) → types_by (option_map plain_message_row message) (plain_context b) st ≡ option_map (map plain_param_row) (types_by message b st)
types_by_alike message b (forms.Send w c) = mapped plain_message_row (λ message. message.params) (map plain_param_row) (λ message. refl) message
types_by_alike message b (forms.New n w c) = mapped plain_message_row (λ message. message.params) (map plain_param_row) (λ message. refl) message
types_by_alike message b (forms.Resolve vs) =
    (λ i. option_and_then resolves (handled_alike b i))
    ∙ then_alike plain_message_row (map plain_param_row) resolves resolves_alike (handled_in b)
types_by_alike message b (forms.ResolveKept n c) = then_alike plain_message_row (map plain_param_row) resolves resolves_alike message
types_by_alike message b (forms.Return vs) =
    (λ i. option_and_then replies (handled_alike b i))
    ∙ then_alike plain_message_row (map plain_param_row) replies replies_alike (handled_in b)
types_by_alike message b st = refl

module _ (s : Schema) where
  protocol_alike : (name : List ℕ) → protocol_named (plain_schema s) name ≡ option_map plain_protocol_row (protocol_named s name)
  protocol_alike name = found plain_protocol_row (λ p. bytes_eq (short_name p.name) name) (λ p. refl) s.protocols

  in_protocol : (name : List ℕ) (protocol : ProtocolRow) → message_in name (plain_protocol_row protocol) ≡ option_map plain_message_row (message_in name protocol)
  in_protocol name protocol = found plain_message_row (λ m. bytes_eq m.name name) (λ m. refl) protocol.messages

  pub named_alike : (name : MessageName) → message_named (plain_schema s) name ≡ option_map plain_message_row (message_named s name)
  named_alike name =
      (λ i. option_and_then (message_in name.message) (protocol_alike name.protocol i))
      ∙ then_alike plain_protocol_row plain_message_row (message_in name.message) (in_protocol name.message) (protocol_named s name.protocol)

  pub number_alike : (name : MessageName) → number_of (plain_schema s) name ≡ number_of s name
  number_alike name =
      (λ i. option_map_or (λ message. message.number) (named_alike name i) 0)
      ∙ option_alike plain_message_row (λ message. message.number) (λ message. message.number) (λ message. refl) 0 (message_named s name)

  handler_of : (side : Side) (o : Option MessageRow) → option_map (in_handler side) (option_map plain_message_row o) ≡ option_map plain_context (option_map (in_handler side) o)
  handler_of side None = refl
  handler_of side (Some message) = refl

  pub standing_alike : (st : Statement) → standing_of (plain_schema s) st ≡ option_map plain_context (standing_of s st)
  standing_alike (forms.On side name) = (λ i. option_map (in_handler side) (named_alike name i)) ∙ handler_of side (message_named s name)
  standing_alike st = refl

  named_in : (o : Option MessageName) → option_and_then (message_named (plain_schema s)) o ≡ option_map plain_message_row (option_and_then (message_named s) o)
  named_in None = refl
  named_in (Some name) = named_alike name

  pub statement_alike : (st : Statement) → named (plain_schema s) st ≡ option_map plain_message_row (named s st)
  statement_alike st = named_in (message_of st)

  pub types_alike : (b : BlockContext) (st : Statement) → types_of (plain_schema s) (plain_context b) st ≡ option_map (map plain_param_row) (types_of s b st)
  types_alike b st = (λ i. types_by (statement_alike st i) (plain_context b) st) ∙ types_by_alike (named s st) b st
