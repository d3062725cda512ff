-- What interrupts a wait in a history.
use Rattle.std.specs.Prelude.{◌≡◌, ℕ, ◌==◌, ℤ, Bool, true, false, List, ◌∷◌, ◌++◌}
use Rattle.std.specs.List.{Contains}
use Rattle.ipdl_base.specs.declared.kinds.Side.{Side}
use Rattle.ipdl_base.specs.declared.line.Line.{Line}
use Rattle.ipdl_base.specs.declared.line.What.TheVariants as what
use Rattle.ipdl_base.specs.declared.schema.Schema.{Schema}
use Rattle.ipdl_base.specs.declared.value.Values.{Values}
use Rattle.ipdl_base.specs.Sound.{IsSound}
use Rattle.history_reading.specs.declared.parts.CallFrame.{CallFrame}
use Rattle.history_reading.specs.declared.parts.CallFrame.TheVariants as frame
use Rattle.history_reading.specs.Reading.{end_reading_of, read}
use Rattle.channel_model.specs.Events.{Move}
use Rattle.channel_model.specs.Outputs.{line_at}
use Rattle.channel_model.specs.Runs.{history_of}
use Rattle.wait_report.specs.declared.pair.Pair.{Pair}
use Rattle.wait_report.specs.Pairs.{IsInterruption, IsReport}

-- whether an unanswered call of a message is on top
abbrev pub awaits_on_top : List CallFrame → ℕ → Bool
awaits_on_top (frame.Unanswered call ∷ below) number = call.number == number
awaits_on_top _ number = false

-- A request of one message interrupts the wait for the reply to another: at some moment of a history the end of a
-- side has an unanswered call of the latter on top, and on the next line it takes the former.
pub record Interrupts (schema : Schema) (lines : List Line) (side : Side) (waits takes : ℕ) : Type 0 where
  pub before : List Line
  pub following : List Line
  pub seq : ℤ
  pub route : ℤ
  pub values : Values
  pub whole : lines ≡ before ++ line_at side (what.Take seq route takes values) ∷ following
  pub awaits : awaits_on_top (end_reading_of side (read schema before)).stack waits ≡ true

-- In every legal history only interruptions that the schema allows interrupt a wait.
abbrev pub OnlyReportedInterrupt : Type 0
OnlyReportedInterrupt =
    (schema : Schema) → IsSound schema → (top : ℕ) (moves : List Move) (pair : Pair) → Interrupts schema (history_of schema top moves) pair.side pair.waits pair.takes
    → IsInterruption schema top pair

-- So each of them is in the report.
abbrev pub ReportsAreWhole : Type 0
ReportsAreWhole =
    (schema : Schema) → IsSound schema → (top : ℕ) (moves : List Move) (pairs : List Pair) (pair : Pair) → IsReport schema top pairs → Interrupts schema (history_of schema top moves) pair.side pair.waits pair.takes
    → Contains pairs pair
