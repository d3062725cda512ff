-- What the steps that look at a script make.
use Rattle.std.specs.Prelude.{◌≡◌, ℕ, ◌≤◌, ◌<◌, ◌⊎◌, List, length, Option, Some, None}
use Rattle.ipdl_base.specs.declared.files.TheConstants.{MOST_BYTES}
use Rattle.ipdl_base.specs.declared.schema.Schema.{Schema}
use Rattle.handler_script.specs.ScriptOf.{IsScriptOf}
use Rattle.handler_script.specs.Valid.{IsValid}
use Rattle.ipdl_top.specs.declared.scripts.ScriptCheck.{ScriptCheck}
use Rattle.ipdl_top.specs.declared.scripts.ScriptCheck.TheVariants.{Broken, Valid}
use Rattle.ipdl_top.specs.Scripts.{IsScriptReport, unreadable_report}
use Rattle.ipdl_top.specs.Waits.{IsTop}

-- what was found of the text of a script
abbrev pub IsTextChecked : List ℕ → List ℕ → Schema → ℕ → ScriptCheck → Type 0
IsTextChecked name text schema top (Broken report) = IsScriptReport name text schema top report
IsTextChecked name text schema top (Valid script) = IsScriptOf text schema top script

-- a script that is absent or has more bytes than are read
abbrev pub IsUnreadable : List ℕ → ScriptCheck → Type 0
IsUnreadable name (Broken report) = report ≡ unreadable_report name
IsUnreadable name (Valid script) = ⊥

-- what was found of a script by its bytes
abbrev pub IsHeldChecked : List ℕ → Option (List ℕ) → Schema → ℕ → ScriptCheck → Type 0
IsHeldChecked name None schema top checked = IsUnreadable name checked
IsHeldChecked name (Some text) schema top checked =
    ((MOST_BYTES < length text) × IsUnreadable name checked) ⊎ ((length text ≤ MOST_BYTES) × IsTextChecked name text schema top checked)

-- what was found of a script by its bytes, where the protocol of the file is the top
pub record IsScriptChecked (name : List ℕ) (held : Option (List ℕ)) (file : List ℕ) (schema : Schema) (checked : ScriptCheck) : Type 0 where
  pub top : ℕ
  pub is_top : IsTop file schema top
  pub found : IsHeldChecked name held schema top checked

-- a script that was found to break no rule is one that a run can follow
abbrev pub IsValidChecked : Schema → ScriptCheck → Type 0
IsValidChecked schema (Broken report) = Unit {0}
IsValidChecked schema (Valid script) = IsValid schema script
