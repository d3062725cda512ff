-- The five laws of histories as one.
use Rattle.std.specs.Prelude.{ℕ, List}
use Rattle.ipdl_base.specs.declared.schema.Schema.{Schema}
use Rattle.ipdl_base.specs.Sound.{IsSound}
use Rattle.history_reading.specs.declared.law.Law.{Law}
use Rattle.history_reading.specs.Holds.{Holds}
use Rattle.channel_model.specs.Events.{Move}
use Rattle.channel_model.specs.Runs.{history_of}

-- Every legal history obeys every law.
abbrev pub HistoriesObeyAllLaws : Type 0
HistoriesObeyAllLaws = (schema : Schema) → IsSound schema → (top : ℕ) (moves : List Move) (law : Law) → Holds law schema (history_of schema top moves)
