-- Why a text has no script.
use Rattle.std.specs.Prelude.{◌≢◌, ℕ, List, []}
use Rattle.ipdl_base.specs.declared.schema.Schema.{Schema}
use Rattle.handler_script.specs.declared.script.ScriptFault.{ScriptFault}
use Rattle.handler_script.specs.declared.script.ScriptFault.TheVariants.{Broken, NoMemory}
use Rattle.handler_script.specs.Broken.{IsReport}

-- the report of a text that breaks a rule; memory can run out for any text
abbrev pub IsFault : List ℕ → Schema → ℕ → ScriptFault → Type 0
IsFault text schema top (Broken findings) = IsReport text schema top findings × (findings ≢ [])
IsFault text schema top NoMemory = Unit {0}
