-- The calls that wait for their answers, in the order of their lines.
use Rattle.std.specs.Prelude.{ℤ, Bool, false, ◌&&◌, if◌then◌else◌, List, [], ◌∷◌, Option, None}
use Rattle.std.specs.List.{cons_option}
use Rattle.ipdl_base.specs.declared.kinds.Side.{Side}
use Rattle.ipdl_base.specs.declared.line.Line.{Line}
use Rattle.ipdl_base.specs.declared.line.What.{What}
use Rattle.ipdl_base.specs.declared.line.What.TheVariants as what
use Rattle.ipdl_base.specs.declared.schema.Schema.{Schema}
use Rattle.history_reading.specs.declared.unanswered_call.UnansweredCall.{UnansweredCall}
use Rattle.history_reading.specs.Chain.{held_call}
use Rattle.law_statements.specs.Said.{said_by}
use Rattle.law_statements.specs.Stack.{is_sync_of, stays, waits}

-- a call waits for its answer, given the lines that follow it
abbrev pub is_waiting_call : (ℤ → Bool) → List What → What → Bool
is_waiting_call sync following (what.Call n transaction route number values) = stays following && waits (sync n) n following
is_waiting_call sync following _ = false

abbrev pub waiting_call : Schema → (Side → ℤ → Bool) → Line → List Line → Option UnansweredCall
waiting_call schema sync line following = if is_waiting_call (sync line.side) (said_by line.side following) line.what then held_call schema line else None

abbrev pub waiting_calls_from : Schema → (Side → ℤ → Bool) → List Line → List UnansweredCall
waiting_calls_from schema sync [] = []
waiting_calls_from schema sync (line ∷ following) = cons_option (waiting_call schema sync line following) (waiting_calls_from schema sync following)

abbrev pub waiting_calls : Schema → List Line → List UnansweredCall
waiting_calls schema lines = waiting_calls_from schema (λ end. is_sync_of schema (said_by end lines)) lines
