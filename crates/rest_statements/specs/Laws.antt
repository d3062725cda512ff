-- The laws of rest, on lines.
use Rattle.std.specs.Prelude.{ℕ, List}
use Rattle.ipdl_base.specs.declared.line.Line.{Line}
use Rattle.ipdl_base.specs.declared.schema.Schema.{Schema}
use Rattle.ipdl_base.specs.Sound.{IsSound}
use Rattle.channel_model.specs.Events.{Move}
use Rattle.channel_model.specs.Runs.{history_of}
use Rattle.law_statements.specs.Prefix.{Prefix}
use Rattle.law_statements.specs.Waits.{Waits}
use Rattle.order_statements.specs.Effects.{Effects}
use Rattle.order_statements.specs.Order.{Order}
use Rattle.rest_statements.specs.Rest.{Rest}

-- Every list of lines that obeys Prefix and Waits, keeps the order and has the effects that are owed rests as it
-- should.
abbrev pub RestFollows : Type 0
RestFollows = (schema : Schema) (lines : List Line) → Prefix schema lines → Waits schema lines → Order schema lines → Effects schema lines → Rest schema lines

-- Every legal history rests as it should.
abbrev pub HistoriesRest : Type 0
HistoriesRest = (schema : Schema) → IsSound schema → (top : ℕ) (moves : List Move) → Rest schema (history_of schema top moves)
