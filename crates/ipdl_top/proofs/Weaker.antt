-- What the parts of the pipeline of a command say, where less is said at its end.
use Rattle.std.proofs.Common.{ℕ, List, inl, inr}
use Rattle.std.specs.Prelude.{None, Option, Some}
use Rattle.ipdl_base.specs.declared.schema.Schema.{Schema}
use Rattle.handler_script.specs.declared.script.Script.{Script}
use Rattle.ipdl_top.specs.declared.answer.CommandAnswer.{CommandAnswer}
use Rattle.ipdl_top.specs.declared.checked.CheckResult.{CheckResult}
use Rattle.ipdl_top.specs.declared.checked.CheckResult.TheVariants.{Broken, Clean}
use Rattle.ipdl_top.specs.Scripts.{SaysByScript, SaysOfHeld}
use Rattle.ipdl_top.specs.Steps.{IsToldOf}

-- of a schema
pub told_by : (P Q : Schema → CommandAnswer → Type 0) (checked : CheckResult) (answer : CommandAnswer) → ((schema : Schema) → P schema answer → Q schema answer) → IsToldOf P checked answer → IsToldOf Q checked answer
told_by P Q (Broken report) answer to told = told
told_by P Q (Clean schema) answer to told = to schema told

held_by : (P Q : Script → CommandAnswer → Type 0) (name : List ℕ) (text : Option (List ℕ)) (schema : Schema) (top : ℕ) (answer : CommandAnswer) → ((script : Script) → P script answer → Q script answer)
    → SaysOfHeld P name text schema top answer → SaysOfHeld Q name text schema top answer
held_by P Q name None schema top answer to says = says
held_by P Q name (Some text) schema top answer to (inl larger) = inl larger
held_by P Q name (Some text) schema top answer to (inr (small, inl broken)) = inr (small, inl broken)
held_by P Q name (Some text) schema top answer to (inr (small, inr told)) = inr (small, inr (record { script = told.script; script_of = told.script_of; says = to told.script told.says }))

-- of a schema and a script
pub script_by : (P Q : Script → CommandAnswer → Type 0) (name : List ℕ) (text : Option (List ℕ)) (file : List ℕ) (schema : Schema) (answer : CommandAnswer) → ((script : Script) → P script answer → Q script answer)
    → SaysByScript P name text file schema answer → SaysByScript Q name text file schema answer
script_by P Q name text file schema answer to told = record { top = told.top; is_top = told.is_top; says = held_by P Q name text schema told.top answer to told.says }
