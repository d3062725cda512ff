-- The calls whose answers have not come, after some lines.
use Rattle.std.specs.Prelude.{ℕ, ◌+◌, ◌==◌, Bool, false, if◌then◌else◌, List, [], ◌∷◌, ◌++◌, Option, None, option_map}
use Rattle.std.specs.List.{list_any}
use Rattle.std.specs.Option.{option_to_list}
use Rattle.ipdl_base.specs.declared.schema.Schema.{Schema}
use Rattle.nesting_core.specs.declared.frame.Head.{Head}
use Rattle.ipdl_base.specs.declared.line.Line.{Line}
use Rattle.ipdl_base.specs.declared.line.What.{What}
use Rattle.ipdl_base.specs.declared.line.What.TheVariants as what
use Rattle.history_reading.specs.declared.unanswered_call.UnansweredCall.{UnansweredCall}
use Rattle.history_reading.specs.declared.parts.CallFrame.{CallFrame}
use Rattle.history_reading.specs.declared.parts.CallFrame.TheVariants as frame
use Rattle.history_reading.specs.Reading.{Reading, end_reading_of, read}
use Rattle.history_reading.specs.Still.{head_of}

-- whether a frame is the wait of the call whose line is at this place, and is not answered
abbrev pub is_wait_from : ℕ → CallFrame → Bool
is_wait_from place (frame.Dispatch d) = false
is_wait_from place (frame.Unanswered c) = c.place == place
is_wait_from place (frame.Answered c) = false

-- the head of the call that a line makes
abbrev pub called : Schema → What → Option Head
called schema (what.Call n transaction route number values) = head_of schema number n transaction
called schema _ = None

-- a line at a place as an unanswered call, where it is one
abbrev pub held_call : Schema → Line → Option UnansweredCall
held_call schema line = option_map (λ head. record { side = line.side; head = head }) (called schema line.what)

abbrev pub held_at : Schema → Reading → ℕ → Line → Option UnansweredCall
held_at schema reading place line = if list_any (is_wait_from place) (end_reading_of line.side reading).stack then held_call schema line else None

-- the unanswered calls of lines, of which the first is at this place
abbrev pub held_from : Schema → Reading → ℕ → List Line → List UnansweredCall
held_from schema reading place [] = []
held_from schema reading place (line ∷ rest) = option_to_list (held_at schema reading place line) ++ held_from schema reading (place + 1) rest

-- the calls whose answers have not come after these lines, the oldest first
abbrev pub chain_of : Schema → List Line → List UnansweredCall
chain_of schema lines = held_from schema (read schema lines) 0 lines
