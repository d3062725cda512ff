-- What a command that goes by a script answers by the script, before it does what is its own.
use Rattle.std.specs.Prelude.{◌≡◌, ◌≢◌, ℕ, ◌⊎◌, List, [], ◌∷◌, Option}
use Rattle.ipdl_base.specs.declared.files.TheConstants.{MOST_BYTES}
use Rattle.ipdl_base.specs.declared.finding.Report.{Report}
use Rattle.ipdl_base.specs.declared.finding.TheConstants.Rule as rule
use Rattle.ipdl_base.specs.declared.schema.Schema.{Schema}
use Rattle.handler_script.specs.declared.script.Script.{Script}
use Rattle.handler_script.specs.Broken.{IsReport}
use Rattle.handler_script.specs.ScriptOf.{IsScriptOf}
use Rattle.include_graph.specs.Rules.{whole_file}
use Rattle.ipdl_top.specs.declared.answer.CommandAnswer.{CommandAnswer}
use Rattle.ipdl_top.specs.declared.status.Status.TheVariants.{BadScript}
use Rattle.ipdl_top.specs.Inputs.{SaysByFile}
use Rattle.ipdl_top.specs.Lists.{finding_at}
use Rattle.ipdl_top.specs.Report.{TellsReport, broken_answer}
use Rattle.ipdl_top.specs.Waits.{IsTop}

-- the report on a script of this name that is absent, or has too many bytes
abbrev pub unreadable_report : List ℕ → Report
unreadable_report name = record { findings = finding_at rule.UNREADABLE_SCRIPT (whole_file 0) ∷ []; names = name ∷ [] }

-- the answer for such a script
abbrev pub unreadable_answer : List ℕ → CommandAnswer
unreadable_answer name = broken_answer BadScript (unreadable_report name)

-- The report on the text of a script of this name, which is not empty.
pub record IsScriptReport (name text : List ℕ) (schema : Schema) (top : ℕ) (report : Report) : Type 0 where
  pub is_report : IsReport text schema top report.findings
  pub some : report.findings ≢ []
  pub called : report.names ≡ name ∷ []

-- The text of a script breaks no rule, and the answer is what the command says of the script.
pub record SaysOfScript (Says : Script → CommandAnswer → Type 0) (text : List ℕ) (schema : Schema) (top : ℕ) (answer : CommandAnswer) : Type 0 where
  pub script : Script
  pub script_of : IsScriptOf text schema top script
  pub says : Says script answer

abbrev pub SaysOfText : (Script → CommandAnswer → Type 0) → List ℕ → List ℕ → Schema → ℕ → CommandAnswer → Type 0
SaysOfText Says name text schema top answer = TellsReport BadScript (IsScriptReport name text schema top) answer ⊎ SaysOfScript Says text schema top answer

-- the same for a script of this name and its bytes
abbrev pub SaysOfHeld : (Script → CommandAnswer → Type 0) → List ℕ → Option (List ℕ) → Schema → ℕ → CommandAnswer → Type 0
SaysOfHeld Says name text schema top answer = SaysByFile (unreadable_answer name) (unreadable_answer name) MOST_BYTES (λ text. SaysOfText Says name text schema top) text answer

-- The answer is that for a script of this name and its bytes, where the protocol of the file is the top.
pub record SaysByScript (Says : Script → CommandAnswer → Type 0) (name : List ℕ) (text : Option (List ℕ)) (file : List ℕ) (schema : Schema) (answer : CommandAnswer) : Type 0 where
  pub top : ℕ
  pub is_top : IsTop file schema top
  pub says : SaysOfHeld Says name text schema top answer
