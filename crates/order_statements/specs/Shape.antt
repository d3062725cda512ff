-- The effects of an event, and the properties of messages, by the lines of a history.
use Rattle.std.specs.Prelude.{◌≡◌, ℕ, ℤ, Bool, true, false, ◌||◌, IsTrue, List, ◌++◌, map, filter_map, Option, Some, None}
use Rattle.std.specs.List.{list_all}
use Rattle.std.specs.Option.{option_map_or}
use Rattle.ipdl_base.specs.declared.kinds.EndState.{EndState}
use Rattle.ipdl_base.specs.declared.kinds.EndState.TheVariants as state
use Rattle.ipdl_base.specs.declared.kinds.Side.{Side}
use Rattle.ipdl_base.specs.declared.line.Line.{Line}
use Rattle.ipdl_base.specs.declared.line.What.{What}
use Rattle.ipdl_base.specs.declared.line.What.TheVariants as what
use Rattle.ipdl_base.specs.declared.schema.Kind.{Kind}
use Rattle.ipdl_base.specs.declared.schema.Kind.TheVariants.{Normal, Constructor, Delete}
use Rattle.ipdl_base.specs.declared.schema.Schema.{Schema}
use Rattle.ipdl_base.specs.Lines.{is_effect}
use Rattle.ipdl_base.specs.Sound.{message_of}
use Rattle.history_reading.specs.declared.parts.HandledRequest.{HandledRequest}
use Rattle.history_reading.specs.Rows.{is_sync_number, wants_number}
use Rattle.law_statements.specs.Arrived.{state_of}
use Rattle.law_statements.specs.Said.{is_moment, line_of}

-- After a place an end prints exactly these effects, and then a moment comes.
pub record HasEffects (end : Side) (effects : List What) (following : List Line) : Type 0 where
  pub later : List Line
  pub split : following ≡ map (line_of end) effects ++ later
  pub are_effects : IsTrue (list_all is_effect effects)
  pub moment : IsTrue (is_moment later)

-- the request of a send or a call
abbrev pub request_sent : What → Option HandledRequest
request_sent (what.Send n route number values) = Some (record { seq = n; route = route; number = number })
request_sent (what.Call n transaction route number values) = Some (record { seq = n; route = route; number = number })
request_sent _ = None

-- whether a message deletes its actor, and the protocol of the actor that it makes
abbrev pub deletes : Kind → Bool
deletes Normal = false
deletes (Constructor protocol) = false
deletes Delete = true

abbrev pub is_destructor : Schema → ℕ → Bool
is_destructor schema number = option_map_or (λ row. deletes row.kind) (message_of schema number) false

abbrev pub protocol_made : Kind → Option ℕ
protocol_made Normal = None
protocol_made (Constructor protocol) = Some protocol
protocol_made Delete = None

abbrev pub constructor_of : Schema → ℕ → Option ℕ
constructor_of schema number = option_map_or (λ row. protocol_made row.kind) (message_of schema number) None

-- whether the request of a message needs a reply: it is sync or makes a promise
abbrev pub owes_reply : Schema → ℕ → Bool
owes_reply schema number = is_sync_number schema number || wants_number schema number

-- the number of the request that a line answers, and the numbers of all requests that an end has answered
abbrev pub number_answered : What → Option ℤ
number_answered (what.Resolve n values) = Some n
number_answered (what.Reject n) = Some n
number_answered (what.AnswerOk n values) = Some n
number_answered (what.AnswerFault n reason) = Some n
number_answered _ = None

abbrev pub answered : List What → List ℤ
answered own = filter_map number_answered own

-- the number of the request whose resolver a line keeps, and all such numbers
abbrev pub number_kept : What → Option ℤ
number_kept (what.Keep n name) = Some n
number_kept _ = None

abbrev pub kept : List What → List ℤ
kept own = filter_map number_kept own

-- whether an end is open
abbrev pub is_open : EndState → Bool
is_open state.Open = true
is_open _ = false

abbrev pub is_open_by : List What → Bool
is_open_by own = is_open (state_of own)
