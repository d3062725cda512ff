-- What the text of a line looks up is there: messages, protocols, and the messages of requests that it gives by
-- number.
use Rattle.std.specs.Prelude.{◌≡◌, ℕ, ◌/◌, ℤ, Bool, true, false, ◌&&◌, is_some, List, ◌∷◌, ◌++◌, Option, slice_get}
use Rattle.std.specs.Option.{option_map_or}
use Rattle.ipdl_base.specs.declared.line.Line.{Line}
use Rattle.ipdl_base.specs.declared.line.What.{What}
use Rattle.ipdl_base.specs.declared.line.What.TheVariants as what
use Rattle.ipdl_base.specs.declared.schema.Schema.{Schema}
use Rattle.ipdl_base.specs.Sound.{IsSound}
use Rattle.history.specs.Messages.{message_of_number}
use Rattle.history_reading.specs.Rows.{is_request_number}
use Rattle.channel_model.specs.Events.{Move}
use Rattle.channel_model.specs.Runs.{history_of}

-- a number is that of a request of the schema, and its protocol is there
abbrev pub is_printable_message : Schema → ℕ → Bool
is_printable_message schema number = is_some (slice_get schema.protocols (number / 65536)) && is_request_number schema number

-- a message is noted, and the same is true of it
abbrev pub is_noted_message : Schema → Option ℕ → Bool
is_noted_message schema found = option_map_or (is_printable_message schema) found false

-- The text of a line finds the message that it names, or the protocol of an actor that is built. Where it prints the
-- values of an answer, the message of the request is noted. `noted` gives the message of a number at this end.
abbrev pub finds_names : Schema → (ℤ → Option ℕ) → What → Bool
finds_names schema noted (what.Send n route message values) = is_printable_message schema message
finds_names schema noted (what.Call n transaction route message values) = is_printable_message schema message
finds_names schema noted (what.RefusedSend cause message) = is_printable_message schema message
finds_names schema noted (what.Take n route message values) = is_printable_message schema message
finds_names schema noted (what.Drop n route message id) = is_printable_message schema message
finds_names schema noted (what.Built id protocol) = is_some (slice_get schema.protocols protocol)
finds_names schema noted (what.Resolve n values) = is_noted_message schema (noted n)
finds_names schema noted (what.ResumeOk n values) = is_noted_message schema (noted n)
finds_names schema noted (what.AnswerOk n values) = is_noted_message schema (noted n)
finds_names schema noted (what.Resolved n values) = is_noted_message schema (noted n)
finds_names schema noted _ = true

-- Whatever the text of a line of a legal history looks up is in the schema and the lines before it.
abbrev pub LinesNameWhatIsPrinted : Type 0
LinesNameWhatIsPrinted =
    (schema : Schema) → IsSound schema → (top : ℕ) (moves : List Move) (before : List Line) (line : Line) (following : List Line)
    → history_of schema top moves ≡ before ++ line ∷ following → finds_names schema (message_of_number line.side before) line.what ≡ true
