-- Promises of every legal history are settled as the law of settlings requires.
use Rattle.std.specs.Prelude.{ℕ, List}
use Rattle.ipdl_base.specs.declared.schema.Schema.{Schema}
use Rattle.ipdl_base.specs.Sound.{IsSound}
use Rattle.history_reading.specs.declared.law.Law.TheVariants as law
use Rattle.history_reading.specs.Holds.{Holds}
use Rattle.channel_model.specs.Events.{Move}
use Rattle.channel_model.specs.Runs.{history_of}

-- Every legal history obeys the law of settlings.
abbrev pub HistoriesObeySettled : Type 0
HistoriesObeySettled = (schema : Schema) → IsSound schema → (top : ℕ) (moves : List Move) → Holds law.Settled schema (history_of schema top moves)
