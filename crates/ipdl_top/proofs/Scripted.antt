-- What a command says by a script, from what was found of the script.
use Rattle.std.proofs.Common.{◌≡◌, ℕ, List, ap, inl, inr, refl, subst, sym}
use Rattle.std.specs.Prelude.{Option, Some, None}
use Rattle.ipdl_base.specs.declared.finding.Report.{Report}
use Rattle.ipdl_base.specs.declared.schema.Schema.{Schema}
use Rattle.handler_script.specs.declared.script.Script.{Script}
use Rattle.ipdl_top.specs.declared.answer.CommandAnswer.{CommandAnswer}
use Rattle.ipdl_top.specs.declared.scripts.ScriptCheck.TheVariants.{Broken, Valid}
use Rattle.ipdl_top.specs.declared.status.Status.TheVariants.{BadScript}
use Rattle.ipdl_top.specs.Report.{broken_answer}
use Rattle.ipdl_top.specs.Scripts.{SaysByScript, SaysOfHeld}
use Rattle.ipdl_top.specs.ScriptSteps.{IsHeldChecked, IsScriptChecked}

broken_held : (Says : Script → CommandAnswer → Type 0) (name : List ℕ) (held : Option (List ℕ)) (schema : Schema) (top : ℕ) (report : Report)
    → IsHeldChecked name held schema top (Broken report) → SaysOfHeld Says name held schema top (broken_answer BadScript report)
broken_held Says name None schema top report found = ap (broken_answer BadScript) found
broken_held Says name (Some text) schema top report (inl (larger, found)) = inl (larger, ap (broken_answer BadScript) found)
broken_held Says name (Some text) schema top report (inr (small, broken)) = inr (small, inl (record { report = report; holds = broken; says = refl }))

valid_held : (Says : Script → CommandAnswer → Type 0) (name : List ℕ) (held : Option (List ℕ)) (schema : Schema) (top : ℕ) (script : Script) (answer : CommandAnswer)
    → IsHeldChecked name held schema top (Valid script) → Says script answer → SaysOfHeld Says name held schema top answer
valid_held Says name None schema top script answer found says = absurd found
valid_held Says name (Some text) schema top script answer (inl (larger, found)) says = absurd found
valid_held Says name (Some text) schema top script answer (inr (small, of)) says = inr (small, inr (record { script = script; script_of = of; says = says }))

-- a script that breaks rules has the answer that says so
pub of_broken : (Says : Script → CommandAnswer → Type 0) (name : List ℕ) (held : Option (List ℕ)) (file : List ℕ) (schema : Schema) (report : Report) (answer : CommandAnswer)
    → IsScriptChecked name held file schema (Broken report) → answer ≡ broken_answer BadScript report → SaysByScript Says name held file schema answer
of_broken Says name held file schema report answer found says = record { top = found.top; is_top = found.is_top; says = subst (SaysOfHeld Says name held schema found.top) (sym says) (broken_held Says name held schema found.top report found.found) }

-- a script that breaks no rule has the answer of the command
pub of_valid : (Says : Script → CommandAnswer → Type 0) (name : List ℕ) (held : Option (List ℕ)) (file : List ℕ) (schema : Schema) (script : Script) (answer : CommandAnswer)
    → IsScriptChecked name held file schema (Valid script) → Says script answer → SaysByScript Says name held file schema answer
of_valid Says name held file schema script answer found says = record { top = found.top; is_top = found.is_top; says = valid_held Says name held schema found.top script answer found.found says }
