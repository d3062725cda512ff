-- The report of what may interrupt a wait.
use Rattle.std.specs.Prelude.{◌≡◌, ℕ, List}
use Rattle.ipdl_base.specs.declared.schema.Schema.{Schema}
use Rattle.history.specs.Text.{message_text}
use Rattle.wait_report.specs.declared.pair.Pair.{Pair}
use Rattle.wait_report.specs.Pairs.{IsReport}
use Rattle.schema_laws.specs.Frames.{AreSchemasAlike}

-- Schemas that are the same, except for where the boxes of their types are, have the same report, and name messages
-- alike.
pub record WaitsAlike : Type 0 where
  pub reports : (a b : Schema) → AreSchemasAlike a b → (top : ℕ) (pairs : List Pair) → IsReport a top pairs → IsReport b top pairs
  pub names : (a b : Schema) → AreSchemasAlike a b → (number : ℕ) → message_text a number ≡ message_text b number

-- A schema has one report for a top protocol.
abbrev pub OneWaitReport : Type 0
OneWaitReport = (schema : Schema) (top : ℕ) (pairs others : List Pair) → IsReport schema top pairs → IsReport schema top others → pairs ≡ others
