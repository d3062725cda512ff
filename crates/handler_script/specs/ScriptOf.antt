-- The script of a text that breaks no rule, and its actions one by one.
use Rattle.std.specs.Prelude.{◌≡◌, ℕ, if◌then◌else◌, List, [], ◌∷◌, ◌++◌, filter, slice_get, Option, Some, None, unwrap_or, option_and_then}
use Rattle.std.specs.List.{filter_map}
use Rattle.std.specs.Option.{option_map, option_map_or}
use Rattle.ipdl_base.specs.declared.finding.Finding.{Finding}
use Rattle.ipdl_base.specs.declared.kinds.Side.{Side}
use Rattle.ipdl_base.specs.declared.schema.MessageRow.{MessageRow}
use Rattle.ipdl_base.specs.declared.schema.Schema.{Schema}
use Rattle.script_reader.specs.declared.line.LineReading.{LineReading}
use Rattle.script_reader.specs.declared.line.LineReading.TheVariants as line
use Rattle.script_reader.specs.declared.statement.MessageName.{MessageName}
use Rattle.script_reader.specs.declared.statement.Statement.{Statement}
use Rattle.script_reader.specs.declared.statement.Statement.TheVariants as forms
use Rattle.script_reader.specs.declared.written.WrittenValues.{WrittenValues}
use Rattle.script_reader.specs.Lines.{IsReading}
use Rattle.handler_script.specs.declared.action.Action.{Action}
use Rattle.handler_script.specs.declared.action.Action.TheVariants as action
use Rattle.handler_script.specs.declared.action.Block.{Block}
use Rattle.handler_script.specs.declared.script.Point.{Point}
use Rattle.handler_script.specs.declared.script.Point.TheVariants as point
use Rattle.handler_script.specs.declared.script.Script.{Script}
use Rattle.handler_script.specs.declared.term.Terms.{Terms}
use Rattle.handler_script.specs.Blocks.{closes, BlockContext, standing_of, side_of, handled_in}
use Rattle.handler_script.specs.Broken.{types_of, IsBroken}
use Rattle.handler_script.specs.Messages.{message_named, named}
use Rattle.handler_script.specs.Plain.{plain_script}
use Rattle.handler_script.specs.Served.{serves}
use Rattle.handler_script.specs.Terms.{terms_of}

-- the statements of a block, from the lines after its first one, up to the next that closes it
abbrev pub inside : List LineReading → List Statement
inside [] = []
inside (line.Statement held ∷ rest) = if closes held.value then [] else held.value ∷ inside rest
inside (_ ∷ rest) = inside rest

-- the number of a request, or 0 if there is no message
abbrev pub request_of : Option MessageRow → ℕ
request_of message = option_map_or (λ m. m.number) message 0

-- the number of the request of a message that is named
abbrev pub number_of : Schema → MessageName → ℕ
number_of schema name = request_of (message_named schema name)

-- the terms of a statement's values
abbrev pub typed : Schema → BlockContext → Statement → WrittenValues → Terms
typed schema block s values = terms_of schema (unwrap_or (types_of schema block s) []) values

-- the action of a statement that names this message and whose values have these terms; `return` is not an action
abbrev pub action_by : Option MessageRow → (WrittenValues → Terms) → Statement → Option Action
action_by message terms (forms.Send w c) = Some (action.Send w (request_of message) (terms c.values))
action_by message terms (forms.New n w c) = Some (action.New n w (request_of message) (terms c.values))
action_by message terms (forms.Let n w) = Some (action.Let n w)
action_by message terms (forms.Resolve vs) = Some (action.Resolve (terms vs))
action_by message terms forms.Reject = Some action.Reject
action_by message terms (forms.Keep n) = Some (action.Keep n)
action_by message terms (forms.ResolveKept n c) = Some (action.ResolveNamed n (request_of message) (terms c.values))
action_by message terms (forms.RejectKept n name) = Some (action.RejectNamed n (request_of message))
action_by message terms forms.Close = Some action.Close
action_by message terms forms.Die = Some action.Die
action_by message terms _ = None

-- the action of a statement in a block, if it is an action
abbrev pub action_of : Schema → BlockContext → Statement → Option Action
action_of schema block s = action_by (named schema s) (typed schema block s) s

-- the values that a statement returns
abbrev pub reply_of : Schema → BlockContext → Statement → Option Terms
reply_of schema block (forms.Return vs) = Some (typed schema block (forms.Return vs) vs)
reply_of schema block _ = None

abbrev pub first_of : {X : Type 0} → List X → Option X
first_of [] = None
first_of (x ∷ xs) = Some x

-- a block of these statements
abbrev pub block_of : Schema → BlockContext → List Statement → Block
block_of schema block statements = record {
  side = side_of block;
  handles = option_map (λ message. message.number) (handled_in block);
  actions = filter_map (action_of schema block) statements;
  reply = first_of (filter_map (reply_of schema block) statements);
}

-- the block that a statement opens, where these lines follow
abbrev pub blocks_at : Schema → Statement → List LineReading → List Block
blocks_at schema s rest = option_map_or (λ block. block_of schema block (inside rest) ∷ []) (standing_of schema s) []

-- the blocks of lines, in their order
abbrev pub blocks_of : Schema → List LineReading → List Block
blocks_of schema [] = []
blocks_of schema (line.Statement held ∷ rest) = blocks_at schema held.value rest ++ blocks_of schema rest
blocks_of schema (_ ∷ rest) = blocks_of schema rest

-- The readings of the text break no rule, and the script has its top and its blocks, up to where boxes lie.
pub record IsScriptOf (text : List ℕ) (schema : Schema) (top : ℕ) (script : Script) : Type 0 where
  pub readings : List LineReading
  pub is_reading : IsReading text readings
  pub kept : (f : Finding) → ¬ IsBroken schema top readings f
  pub is : plain_script script ≡ record { top = top; blocks = blocks_of schema readings }

-- Actions

-- the blocks of the side for the message, or its mains
abbrev pub blocks_for : Script → Side → Option ℕ → List Block
blocks_for script side handled = filter (serves side handled) script.blocks

-- the action at a point
abbrev pub action_at : Script → Side → Point → Option Action
action_at script side (point.Main index) = option_and_then (λ block. slice_get block.actions index) (slice_get (blocks_for script side None) 0)
action_at script side (point.Handler number at index) = option_and_then (λ block. slice_get block.actions index) (slice_get (blocks_for script side (Some number)) at)

-- the values that a block returns
abbrev pub reply_at : Script → Side → ℕ → ℕ → Option Terms
reply_at script side number at = option_and_then (λ block. block.reply) (slice_get (blocks_for script side (Some number)) at)
