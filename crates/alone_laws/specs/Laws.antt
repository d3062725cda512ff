-- What every run of one end keeps.
use Rattle.std.specs.Prelude.{ℕ, List}
use Rattle.ipdl_base.specs.declared.kinds.Side.{Side}
use Rattle.ipdl_base.specs.declared.line.Line.{Line}
use Rattle.ipdl_base.specs.declared.schema.Schema.{Schema}
use Rattle.ipdl_base.specs.Sound.{IsSound}
use Rattle.channel_model.specs.Ends.{End, Packet}
use Rattle.history_reading.specs.declared.law.Law.TheVariants as law
use Rattle.history_reading.specs.Holds.{Holds}
use Rattle.alone_laws.specs.Alone.{Alone}
use Rattle.alone_laws.specs.AloneRuns.{RunsAlone}

-- Every run of one end obeys the law of one end.
abbrev pub OneEndObeysAlone : Type 0
OneEndObeysAlone =
    (schema : Schema) → IsSound schema → (top : ℕ) (side : Side) (e : End) (lines : List Line) (packets : List Packet) → RunsAlone schema top side e lines packets → Alone schema top side lines packets

-- The lines of every run of one end can be read and obey the law of falls.
abbrev pub OneEndObeysFallen : Type 0
OneEndObeysFallen =
    (schema : Schema) → IsSound schema → (top : ℕ) (side : Side) (e : End) (lines : List Line) (packets : List Packet) → RunsAlone schema top side e lines packets → Holds law.Fallen schema lines
