-- A text has the same answer under schemas that are the same except for where their boxes are.
use Rattle.std.proofs.Common.{◌≡◌, ◌∙◌, ℕ, List, sym, ap, subst}
use Rattle.ipdl_base.specs.declared.finding.Finding.{Finding}
use Rattle.ipdl_base.specs.declared.schema.Schema.{Schema}
use Rattle.schema_laws.specs.Frames.{AreSchemasAlike}
use Rattle.script_reader.specs.declared.line.LineReading.{LineReading}
use Rattle.handler_script.specs.declared.action.Block.{Block}
use Rattle.handler_script.specs.declared.script.Script.{Script}
use Rattle.handler_script.specs.Broken.{IsBroken, IsReport}
use Rattle.handler_script.specs.ScriptOf.{IsScriptOf, blocks_of}
use Rattle.script_laws.specs.Laws.{OneAnswer}
use Rattle.schema_laws.specs.Runs.{ScriptsAlike}
use Rattle.schema_laws.proofs.BlocksAlike.{blocks_alike}
use Rattle.schema_laws.proofs.BrokenAlike.{broken_back, broken_there}

module _ (a b : Schema) (alike : AreSchemasAlike a b) (top : ℕ) where
  broken_too : (readings : List LineReading) (f : Finding) → IsBroken a top readings f → IsBroken b top readings f
  broken_too readings f broken = broken_back b top readings f (subst (λ (s : Schema). IsBroken s top readings f) alike (broken_there a top readings f broken))

  blocks_too : (readings : List LineReading) → blocks_of a readings ≡ blocks_of b readings
  blocks_too readings = sym (blocks_alike a readings) ∙ (λ i. blocks_of (alike i) readings) ∙ blocks_alike b readings

-- a script or a report under one schema is a script or a report under the other
module _ (a b : Schema) (alike : AreSchemasAlike a b) (text : List ℕ) (top : ℕ) where
  script_too : (script : Script) → IsScriptOf text a top script → IsScriptOf text b top script
  script_too script is = record {
    readings = is.readings;
    is_reading = is.is_reading;
    kept = λ f broken. is.kept f (broken_too b a (sym alike) top is.readings f broken);
    is = is.is ∙ ap (λ (blocks : List Block). let s : Script = record { top = top; blocks = blocks } in s) (blocks_too a b alike top is.readings);
  }

  report_too : (findings : List Finding) → IsReport text a top findings → IsReport text b top findings
  report_too findings is = record {
    readings = is.readings;
    is_reading = is.is_reading;
    report = record {
      ordered = is.report.ordered;
      exact = λ f. (λ among. broken_too a b alike top is.readings f ((is.report.exact f).0 among), λ broken. (is.report.exact f).1 (broken_too b a (sym alike) top is.readings f broken));
    };
  }

pub scripts_alike : OneAnswer → ScriptsAlike
scripts_alike one = record {
  script = λ a b alike text top script other is too. one.script text b top script other (script_too a b alike text top script is) too;
  report = λ a b alike text top findings others is too. one.report text b top findings others (report_too a b alike text top findings is) too;
  either = λ a b alike text top script findings is fault. one.either text b top script findings (script_too a b alike text top script is) fault;
}
