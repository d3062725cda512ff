-- What exists by the definitions of handler scripts, for every line, text, schema and top protocol.
use Rattle.std.specs.Prelude.{◌≢◌, ℕ, ◌⊎◌, List, []}
use Rattle.ipdl_base.specs.declared.finding.Finding.{Finding}
use Rattle.ipdl_base.specs.declared.schema.Schema.{Schema}
use Rattle.script_reader.specs.declared.line.LineReading.{LineReading}
use Rattle.script_reader.specs.Lines.{Says, IsReading}
use Rattle.handler_script.specs.declared.script.Script.{Script}
use Rattle.handler_script.specs.Broken.{IsReport}
use Rattle.handler_script.specs.ScriptOf.{IsScriptOf}

-- Each line has a reading: it is silent, a statement, no statement, or too long.
abbrev pub LinesHaveReadings : Type 0
LinesHaveReadings = (line : List ℕ) → (reading : LineReading) × Says line reading

-- The lines of each text have readings.
abbrev pub TextsHaveReadings : Type 0
TextsHaveReadings = (text : List ℕ) → (readings : List LineReading) × IsReading text readings

-- For each text, schema and top protocol there is a report of the rules that the text breaks.
abbrev pub ReportsExist : Type 0
ReportsExist = (text : List ℕ) (schema : Schema) (top : ℕ) → (findings : List Finding) × IsReport text schema top findings

-- the text has a script
abbrev pub HasScript : List ℕ → Schema → ℕ → Type 0
HasScript text schema top = (script : Script) × IsScriptOf text schema top script

-- the text has a report that is not empty
abbrev pub HasFault : List ℕ → Schema → ℕ → Type 0
HasFault text schema top = (findings : List Finding) × IsReport text schema top findings × (findings ≢ [])

-- For each text, schema and top protocol there is a script, or a report that is not empty.
abbrev pub ScriptsExist : Type 0
ScriptsExist = (text : List ℕ) (schema : Schema) (top : ℕ) → HasScript text schema top ⊎ HasFault text schema top
