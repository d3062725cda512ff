-- What follows for scripts, for every text, schema and top protocol.
use Rattle.std.specs.Prelude.{◌≡◌, ℕ, List}
use Rattle.ipdl_base.specs.declared.finding.Finding.{Finding}
use Rattle.ipdl_base.specs.declared.schema.Schema.{Schema}
use Rattle.handler_script.specs.declared.script.Script.{Script}
use Rattle.handler_script.specs.declared.script.ScriptFault.TheVariants.{Broken}
use Rattle.handler_script.specs.Broken.{IsReport}
use Rattle.handler_script.specs.Faults.{IsFault}
use Rattle.handler_script.specs.Plain.{plain_script}
use Rattle.handler_script.specs.ScriptOf.{IsScriptOf}

-- A text has at most one script, up to where boxes lie, and at most one report; if it has a script, it breaks no rule.
pub record OneAnswer : Type 0 where
  pub script : (text : List ℕ) (schema : Schema) (top : ℕ) (a b : Script) → IsScriptOf text schema top a → IsScriptOf text schema top b → plain_script a ≡ plain_script b
  pub report : (text : List ℕ) (schema : Schema) (top : ℕ) (a b : List Finding) → IsReport text schema top a → IsReport text schema top b → a ≡ b
  pub either : (text : List ℕ) (schema : Schema) (top : ℕ) (script : Script) (findings : List Finding) → IsScriptOf text schema top script → ¬ IsFault text schema top (Broken findings)
