-- What the lines of every legal history show: their reading is the world, and they can be read.
use Rattle.std.specs.Prelude.{ℕ, List}
use Rattle.ipdl_base.specs.declared.schema.Schema.{Schema}
use Rattle.ipdl_base.specs.Sound.{IsSound}
use Rattle.history_reading.specs.EndReading.{EndReading}
use Rattle.history_reading.specs.Holds.{IsReadable}
use Rattle.history_reading.specs.Reading.{Reading, read}
use Rattle.channel_model.specs.Ends.{End, World, opening}
use Rattle.channel_model.specs.Events.{Move}
use Rattle.channel_model.specs.Runs.{run, history_of}
use Rattle.channel_laws.specs.EndActors.{ReadsActors}
use Rattle.channel_laws.specs.Exchanges.{ReadsExchanges}
use Rattle.channel_laws.specs.TwoEnds.{ReadingIs}

-- What is read of an end is what it keeps: its living actors, what has arrived, its promises, what it has answered,
-- and its waits.
pub record EndIsRead (schema : Schema) (e : End) (own : EndReading) : Type 0 where
  pub actors : ReadsActors schema e own
  pub exchanges : ReadsExchanges schema e own

-- What is read of both ends is what they keep, each on its own and between them.
pub record WorldIsRead (schema : Schema) (world : World) (reading : Reading) : Type 0 where
  pub between : ReadingIs schema world reading
  pub parent : EndIsRead schema world.parent reading.parent
  pub child : EndIsRead schema world.child reading.child

-- The reading of the lines is the world.
abbrev pub ReadingIsWorld : Type 0
ReadingIsWorld = (schema : Schema) → IsSound schema → (top : ℕ) (moves : List Move) → WorldIsRead schema (run schema moves (opening top)).world (read schema (history_of schema top moves))

-- Every legal history can be read.
abbrev pub HistoriesAreReadable : Type 0
HistoriesAreReadable = (schema : Schema) → IsSound schema → (top : ℕ) (moves : List Move) → IsReadable schema (history_of schema top moves)
