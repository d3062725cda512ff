-- A text has a script, or has a report that is not empty.
use Rattle.std.proofs.Common.{◌⊎◌, ℕ, List, [], ◌∷◌, inl, inr, refl}
use Rattle.ipdl_base.specs.declared.finding.Finding.{Finding}
use Rattle.ipdl_base.specs.declared.schema.Schema.{Schema}
use Rattle.findings.specs.Report as report
use Rattle.script_reader.specs.declared.line.LineReading.{LineReading}
use Rattle.script_reader.specs.Lines.{IsReading}
use Rattle.handler_script.specs.Broken.{IsBroken}
use Rattle.handler_script.specs.ScriptOf.{blocks_of}
use Rattle.handler_script.proofs.Whole.{none_broken, script_is}
use Rattle.script_existence.specs.Laws.{HasScript, HasFault, ScriptsExist}
use Rattle.script_existence.proofs.LineReader.{texts_have_readings}
use Rattle.script_existence.proofs.PlainBlocks.{blocks_plain}
use Rattle.script_existence.proofs.Reports.{readings_have_reports}

by_report : (text : List ℕ) (schema : Schema) (top : ℕ) (readings : List LineReading) → IsReading text readings → (findings : List Finding) → report.IsReport (IsBroken schema top readings) findings → HasScript text schema top ⊎ HasFault text schema top
by_report text schema top readings read [] is =
    inl (
      record { top = top; blocks = blocks_of schema readings },
      record { readings = readings; is_reading = read; kept = none_broken [] is refl; is = script_is top (blocks_of schema readings) (blocks_of schema readings) (blocks_plain schema readings) },
    )
by_report text schema top readings read (f ∷ findings) is =
    inr (f ∷ findings, record { readings = readings; is_reading = read; report = is }, λ e. let no : ⊥ = cc in no)

pub scripts_exist : ScriptsExist
scripts_exist text schema top =
    let read = texts_have_readings text in
    let found = readings_have_reports schema top read.0 in
    by_report text schema top read.0 read.1 found.0 found.1
