-- The blocks of a script: in which block a statement is, and what is above and below it there.
use Rattle.std.specs.Prelude.{◌≡◌, Bool, true, false, List, [], ◌∷◌, ◌++◌, slice_get, Option, Some, None, IsSomeAnd}
use Rattle.std.specs.List.{list_any, filter_map}
use Rattle.std.specs.Option.{option_map}
use Rattle.ipdl_base.specs.declared.kinds.Side.{Side}
use Rattle.ipdl_base.specs.declared.schema.MessageRow.{MessageRow}
use Rattle.ipdl_base.specs.declared.schema.ParamRow.{ParamRow}
use Rattle.ipdl_base.specs.declared.schema.Schema.{Schema}
use Rattle.script_reader.specs.declared.line.LineReading.{LineReading}
use Rattle.script_reader.specs.declared.line.LineReading.TheVariants as line
use Rattle.script_reader.specs.declared.statement.Statement.{Statement}
use Rattle.script_reader.specs.declared.statement.Statement.TheVariants as forms
use Rattle.handler_script.specs.Messages.{named}

-- whether a statement opens a block
abbrev pub opens : Statement → Bool
opens (forms.Main side) = true
opens (forms.On side message) = true
opens _ = false

-- whether it closes the block that it is in, or ends it by opening another
abbrev pub closes : Statement → Bool
closes forms.End = true
closes s = opens s

-- whether it answers the handled message, or keeps its resolver
abbrev pub answers : Statement → Bool
answers (forms.Resolve values) = true
answers forms.Reject = true
answers (forms.Keep name) = true
answers _ = false

-- the statement of a line, if it has one
abbrev pub said : LineReading → Option Statement
said (line.Statement held) = Some held.value
said _ = None

-- the statements of lines; a line without a statement does not count
abbrev pub statements : List LineReading → List Statement
statements lines = filter_map said lines

-- What follows `before` is in the block that `first` opened, below its statements `above`, none of which opens or closes a block.
pub record StandsIn (before : List Statement) (first : Statement) (above : List Statement) : Type 0 where
  pub outer : List Statement
  pub split : before ≡ outer ++ first ∷ above
  pub opened : opens first ≡ true
  pub unclosed : list_any closes above ≡ false

-- what follows is in a block for which this is true
abbrev pub IsInBlock : List Statement → (Statement → List Statement → Type 0) → Type 0
IsInBlock before Holds = (first : Statement) × (above : List Statement) × StandsIn before first above × Holds first above

-- there is a next statement, and it does not close the block
abbrev pub IsFollowed : List Statement → Type 0
IsFollowed below = IsSomeAnd (slice_get below 0) (λ s. closes s ≡ false)

-- A block in which lines are tested: the main of a side, or a handler of a message that exists.
pub data BlockContext : Type 0 where
  in_main : Side → BlockContext
  in_handler : Side → MessageRow → BlockContext

-- the block that a statement opens, if any, where this is the message that it names
abbrev pub standing_by : Option MessageRow → Statement → Option BlockContext
standing_by message (forms.Main side) = Some (in_main side)
standing_by message (forms.On side name) = option_map (in_handler side) message
standing_by message _ = None

abbrev pub standing_of : Schema → Statement → Option BlockContext
standing_of schema s = standing_by (named schema s) s

abbrev pub side_of : BlockContext → Side
side_of (in_main side) = side
side_of (in_handler side message) = side

-- the parameters of the handled message
abbrev pub given_in : BlockContext → List ParamRow
given_in (in_main side) = []
given_in (in_handler side message) = message.params

-- the handled message
abbrev pub handled_in : BlockContext → Option MessageRow
handled_in (in_main side) = None
handled_in (in_handler side message) = Some message
