-- What readable lines are.
use Rattle.std.specs.Prelude.{◌≡◌, ℕ, ℤ, IsTrue, List, ◌∷◌, ◌++◌, Option, Some, None}
use Rattle.std.specs.List.{list_all}
use Rattle.ipdl_base.specs.declared.kinds.Reason.{Reason}
use Rattle.ipdl_base.specs.declared.kinds.Side.{Side}
use Rattle.ipdl_base.specs.declared.line.Line.{Line}
use Rattle.ipdl_base.specs.declared.line.What.{What}
use Rattle.ipdl_base.specs.declared.line.What.TheVariants as what
use Rattle.ipdl_base.specs.declared.schema.Schema.{Schema}
use Rattle.ipdl_base.specs.declared.value.Values.{Values}
use Rattle.ipdl_base.specs.Lines.{is_effect}
use Rattle.history_reading.specs.declared.parts.Call.{Call}
use Rattle.history_reading.specs.declared.parts.CallFrame.{CallFrame}
use Rattle.history_reading.specs.declared.parts.CallFrame.TheVariants as frame
use Rattle.history_reading.specs.declared.parts.HandledRequest.{HandledRequest}
use Rattle.history_reading.specs.Rows.{is_request_number}
use Rattle.law_statements.specs.Said.{is_event, line_of}
use Rattle.law_statements.specs.Stack.{stack}

-- the last event before a place is of this end
pub record IsOfLastEvent (end : Side) (lines : List Line) : Type 0 where
  pub before : List Line
  pub event : What
  pub effects : List Line
  pub split : lines ≡ before ++ line_of end event ∷ effects
  pub is_event : IsTrue (is_event event)
  pub are_effects : IsTrue (list_all (λ line. is_effect line.what) effects)

-- the message that a line names
abbrev pub message_in : What → Option ℕ
message_in (what.Send n route number values) = Some number
message_in (what.Call n transaction route number values) = Some number
message_in (what.RefusedSend refusal number) = Some number
message_in (what.Take n route number values) = Some number
message_in (what.Drop n route number id) = Some number
message_in _ = None

-- the dispatch of a request, or the answered wait of a call, is on top of the stack
abbrev pub IsDispatchOnTop : Schema → Side → List Line → ℤ → Type 0
IsDispatchOnTop schema end before n = (d : HandledRequest) × (below : List CallFrame) × (stack schema end before ≡ frame.Dispatch d ∷ below) × (d.seq ≡ n)

abbrev pub IsAnswerOnTop : Schema → Side → List Line → ℤ → Type 0
IsAnswerOnTop schema end before n = (c : Call) × (below : List CallFrame) × (stack schema end before ≡ frame.Answered c ∷ below) × (c.seq ≡ n)

pub record Readable (schema : Schema) (lines : List Line) : Type 0 where
  -- an effect is on the side of the last event
  pub effects : (end : Side) (what : What) (before following : List Line) → lines ≡ before ++ line_of end what ∷ following → IsTrue (is_effect what) → IsOfLastEvent end before
  -- a message that a line names is in the schema
  pub messages : (end : Side) (what : What) (number : ℕ) (before following : List Line) → lines ≡ before ++ line_of end what ∷ following → message_in what ≡ Some number → IsTrue (is_request_number schema number)
  -- a return ends the request that is handled on top
  pub returns : (end : Side) (n : ℤ) (before following : List Line) → lines ≡ before ++ line_of end (what.Return n) ∷ following → IsDispatchOnTop schema end before n
  -- a call that continues is the answered wait on top
  pub resumes : (end : Side) (n : ℤ) (values : Values) (before following : List Line) → lines ≡ before ++ line_of end (what.ResumeOk n values) ∷ following → IsAnswerOnTop schema end before n
  pub faults : (end : Side) (n : ℤ) (why : Reason) (before following : List Line) → lines ≡ before ++ line_of end (what.ResumeFault n why) ∷ following → IsAnswerOnTop schema end before n
