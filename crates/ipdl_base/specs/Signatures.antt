-- The parameters and the returns of messages.
use Rattle.std.specs.Prelude.{ℕ, List, []}
use Rattle.std.specs.Option.{option_map_or}
use Rattle.ipdl_base.specs.declared.schema.MessageRow.{MessageRow}
use Rattle.ipdl_base.specs.declared.schema.ParamRow.{ParamRow}
use Rattle.ipdl_base.specs.declared.schema.Schema.{Schema}
use Rattle.ipdl_base.specs.Sound.{message_of}

-- the parameters of the message of a number, or no parameters if there is no such message
abbrev pub params_of : Schema → ℕ → List ParamRow
params_of schema number = option_map_or (λ message. message.params) (message_of schema number) []

-- the returns of a message, or no returns if it has none
abbrev pub returns_of_row : MessageRow → List ParamRow
returns_of_row message = option_map_or (λ returns. returns) message.returns []

-- the returns of the message of a number
abbrev pub returns_of : Schema → ℕ → List ParamRow
returns_of schema number = option_map_or returns_of_row (message_of schema number) []
