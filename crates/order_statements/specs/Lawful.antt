-- What the history of every run is, by the statements of the five laws alone.
use Rattle.std.specs.Prelude.{ℕ, List}
use Rattle.ipdl_base.specs.declared.line.Line.{Line}
use Rattle.ipdl_base.specs.declared.schema.Schema.{Schema}
use Rattle.ipdl_base.specs.Sound.{IsSound}
use Rattle.channel_model.specs.Events.{Move}
use Rattle.channel_model.specs.Runs.{history_of}
use Rattle.law_statements.specs.Fallen.{Fallen}
use Rattle.law_statements.specs.Living.{Living}
use Rattle.law_statements.specs.Prefix.{Prefix}
use Rattle.law_statements.specs.Readable.{Readable}
use Rattle.law_statements.specs.Settled.{Settled}
use Rattle.law_statements.specs.Waits.{Waits}

-- Lines can be read, and the statement of each of the five laws holds of them.
pub record IsLawfulHistory (schema : Schema) (lines : List Line) : Type 0 where
  pub readable : Readable schema lines
  pub prefix : Prefix schema lines
  pub living : Living schema lines
  pub waits : Waits schema lines
  pub settled : Settled schema lines
  pub fallen : Fallen schema lines

-- Every legal history is lawful.
abbrev pub HistoriesAreLawful : Type 0
HistoriesAreLawful = (schema : Schema) → IsSound schema → (top : ℕ) (moves : List Move) → IsLawfulHistory schema (history_of schema top moves)
