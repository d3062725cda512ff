-- The text that a transcript prints of a history, a line for each of its lines.
use Rattle.std.specs.Prelude.{ℕ, ◌/◌, ℤ, Bool, true, false, if◌then◌else◌, List, [], ◌∷◌, ◌++◌, codes, Option, Some, None, slice_get}
use Rattle.std.specs.Fmt.{decimal, signed_decimal}
use Rattle.std.specs.Option.{option_map_or}
use Rattle.ipdl_base.specs.Lines.{is_effect}
use Rattle.ipdl_base.specs.Signatures.{params_of, returns_of}
use Rattle.ipdl_base.specs.Sound.{message_of}
use Rattle.ipdl_base.specs.Words.{short_name}
use Rattle.ipdl_base.specs.declared.kinds.SendRefusal.{SendRefusal}
use Rattle.ipdl_base.specs.declared.schema.MessageRow.{MessageRow}
use Rattle.ipdl_base.specs.declared.schema.ParamRow.{ParamRow}
use Rattle.ipdl_base.specs.declared.schema.Schema.{Schema}
use Rattle.ipdl_base.specs.declared.value.Values.{Values}
use Rattle.value_types.specs.ValueText.{values_text}
use Rattle.ipdl_base.specs.declared.line.Line.{Line}
use Rattle.ipdl_base.specs.declared.line.What.{What}
use Rattle.ipdl_base.specs.declared.line.What.TheVariants as what
use Rattle.history.specs.Messages.{message_of_number}
use Rattle.history.specs.Words.{side_word, refusal_word, reason_word, destroy_word}

-- the short name of a protocol by its number, or nothing if there is no such protocol
abbrev pub protocol_text : Schema → ℕ → List ℕ
protocol_text schema number = option_map_or (λ protocol. short_name protocol.name) (slice_get schema.protocols number) []

-- a message by the number of its request, with its protocol: `P.M`
abbrev pub message_text : Schema → ℕ → List ℕ
message_text schema number = protocol_text schema (number / 65536) ++ codes "." ++ option_map_or (λ message. message.name) (message_of schema number) []

-- the returns of the message that is given, or an empty list if no message is given
abbrev pub returns_named : Schema → Option ℕ → List ParamRow
returns_named schema None = []
returns_named schema (Some number) = returns_of schema number

-- values in parentheses, by their types
abbrev pub listed_values : Schema → List ParamRow → Values → List ℕ
listed_values schema types values = codes "(" ++ values_text schema types values ++ codes ")"

-- a request: its message with its values
abbrev pub request_text : Schema → ℕ → Values → List ℕ
request_text schema number values = message_text schema number ++ listed_values schema (params_of schema number) values

-- a text, followed by a number
abbrev pub numbered : List ℕ → ℤ → List ℕ
numbered before n = before ++ signed_decimal n

-- an async send
abbrev pub send_text : Schema → ℤ → ℤ → ℕ → Values → List ℕ
send_text schema n route message values = numbered (codes "send ") n ++ numbered (codes " to ") route ++ (codes " " ++ request_text schema message values)

-- a sync send
abbrev pub call_text : Schema → ℤ → ℤ → ℤ → ℕ → Values → List ℕ
call_text schema n transaction route message values =
    numbered (codes "call ") n ++ numbered (codes "/") transaction ++ numbered (codes " to ") route ++ (codes " " ++ request_text schema message values)

-- a request that is handled
abbrev pub take_text : Schema → ℤ → ℤ → ℕ → Values → List ℕ
take_text schema n route message values = numbered (codes "take ") n ++ numbered (codes " at ") route ++ (codes " " ++ request_text schema message values)

-- a request that is dropped
abbrev pub drop_text : Schema → ℤ → ℤ → ℕ → ℤ → List ℕ
drop_text schema n route message id = numbered (codes "drop ") n ++ numbered (codes " at ") route ++ (codes " " ++ message_text schema message) ++ numbered (codes " for ") id

-- a refused act
abbrev pub refused_text : SendRefusal → List ℕ → List ℕ
refused_text cause act = codes "refused " ++ refusal_word cause ++ act

-- a refused send
abbrev pub refused_send_text : Schema → SendRefusal → ℕ → List ℕ
refused_send_text schema cause message = refused_text cause (codes " ") ++ message_text schema message

-- a word with a number, followed by two more texts
abbrev pub tailed : List ℕ → ℤ → List ℕ → List ℕ → List ℕ
tailed word n between tail = numbered word n ++ between ++ tail

-- The content of a line, except for the end at its beginning. `types` has the returns of the message of a number at
-- this end.
abbrev pub what_text : Schema → (ℤ → List ParamRow) → What → List ℕ
what_text schema types (what.Send n route message values) = send_text schema n route message values
what_text schema types (what.Call n transaction route message values) = call_text schema n transaction route message values
what_text schema types (what.RefusedSend cause message) = refused_send_text schema cause message
what_text schema types (what.RefusedClose cause) = refused_text cause (codes " close")
what_text schema types (what.RefusedResolve cause) = refused_text cause (codes " resolve")
what_text schema types (what.RefusedReject cause) = refused_text cause (codes " reject")
what_text schema types (what.Resolve n values) = tailed (codes "resolve ") n (codes " ") (listed_values schema (types n) values)
what_text schema types (what.Reject n) = numbered (codes "reject ") n
what_text schema types (what.Keep n name) = tailed (codes "keep ") n (codes " ") name
what_text schema types (what.Let name id) = codes "let " ++ name ++ numbered (codes " ") id
what_text schema types what.Close = codes "close"
what_text schema types what.Die = codes "die"
what_text schema types (what.DeliverRequest n) = numbered (codes "deliver request ") n
what_text schema types (what.DeliverReply n) = numbered (codes "deliver reply ") n
what_text schema types what.DeliverGoodbye = codes "deliver goodbye"
what_text schema types what.DeliverBroken = codes "deliver broken"
what_text schema types (what.Take n route message values) = take_text schema n route message values
what_text schema types (what.Drop n route message id) = drop_text schema n route message id
what_text schema types (what.TakeReply n) = numbered (codes "take reply ") n
what_text schema types what.ShutNormal = codes "shut NormalShutdown"
what_text schema types what.ShutAbnormal = codes "shut AbnormalShutdown"
what_text schema types (what.Return n) = numbered (codes "return ") n
what_text schema types (what.ResumeOk n values) = tailed (codes "resume ") n (codes " ok ") (listed_values schema (types n) values)
what_text schema types (what.ResumeFault n reason) = tailed (codes "resume ") n (codes " fault ") (reason_word reason)
what_text schema types (what.Flush count) = codes "flush " ++ decimal count
what_text schema types (what.Built id protocol) = tailed (codes "built ") id (codes " ") (protocol_text schema protocol)
what_text schema types (what.Replaced n) = numbered (codes "replaced ") n
what_text schema types (what.AnswerOk n values) = tailed (codes "answer ") n (codes " ok ") (listed_values schema (types n) values)
what_text schema types (what.AnswerFault n reason) = tailed (codes "answer ") n (codes " fault ") (reason_word reason)
what_text schema types (what.Fails n) = numbered (codes "fails ") n
what_text schema types (what.Resolved n values) = tailed (codes "settle ") n (codes " resolved ") (listed_values schema (types n) values)
what_text schema types (what.Rejected n reason) = tailed (codes "settle ") n (codes " rejected ") (reason_word reason)
what_text schema types (what.Fall id destroy) = tailed (codes "fall ") id (codes " ") (destroy_word destroy)

-- the beginning of a line: the end for an event, two blanks for an effect
abbrev pub line_begin : Line → List ℕ
line_begin line = if is_effect line.what then codes "  " else side_word line.side ++ codes " "

-- A line, with the returns of the message of a number at its end.
abbrev pub line_saying : Schema → (ℤ → List ParamRow) → Line → List ℕ
line_saying schema types line = line_begin line ++ what_text schema types line.what ++ codes "\n"

-- the text of a line after others
abbrev pub line_text : Schema → List Line → Line → List ℕ
line_text schema before line = line_saying schema (λ n. returns_named schema (message_of_number line.side before n)) line

-- the text of lines after others
abbrev pub lines_text : Schema → List Line → List Line → List ℕ
lines_text schema before [] = []
lines_text schema before (line ∷ rest) = line_text schema before line ++ lines_text schema (before ++ line ∷ []) rest

-- the text of a history
abbrev pub transcript_text : Schema → List Line → List ℕ
transcript_text schema lines = lines_text schema [] lines
