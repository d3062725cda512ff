-- The law of falls, at one end whatever it receives, and of every legal history.
use Rattle.std.specs.Prelude.{◌≡◌, ℕ, true, List, ◌∷◌, map, Some, None}
use Rattle.ipdl_base.specs.declared.kinds.Side.{Side}
use Rattle.ipdl_base.specs.declared.line.What.{What}
use Rattle.ipdl_base.specs.declared.schema.Schema.{Schema}
use Rattle.ipdl_base.specs.Sound.{IsSound}
use Rattle.history_reading.specs.declared.law.Law.TheVariants as law
use Rattle.history_reading.specs.EndReading as end_reading
use Rattle.history_reading.specs.EndReading.{EndReading}
use Rattle.history_reading.specs.Fallen.{fallen_moment}
use Rattle.history_reading.specs.Holds.{Holds}
use Rattle.channel_model.specs.Ends.{End, Packet, opening_end}
use Rattle.channel_model.specs.Events.{Event, Move}
use Rattle.channel_model.specs.Events as event
use Rattle.channel_model.specs.Outputs.{Output, line_at}
use Rattle.channel_model.specs.Refusals.{packet_refusal}
use Rattle.channel_model.specs.Runs.{history_of}
use Rattle.channel_model.specs.Steps.{step}
use Rattle.channel_laws.specs.EndActors.{HasNextId, IsFallenLine, ReadsActors}
use Rattle.channel_laws.specs.Tested.{after_whats, EndLinesPass}

-- a constructor that is delivered has the next id of the other side
abbrev pub DeliversNextId : Schema → End → List Packet → Event → Type 0
DeliversNextId schema e (packet ∷ rest) event.deliver = HasNextId schema e packet
DeliversNextId schema e _ _ = Unit {0}

-- The lines of a step obey the law of falls, and the end reads its actors from them.
pub record StepObeysFallen (schema : Schema) (place : ℕ) (own : EndReading) (e : End) (output : Output) : Type 0 where
  pub whats : List What
  pub lines : output.lines ≡ map (line_at e.side) whats
  pub pass : EndLinesPass schema IsFallenLine place whats own
  pub reads : ReadsActors schema output.end (after_whats schema place whats own)

-- Each end obeys the law of falls, whatever it receives: at the beginning it reads its actors from its lines, each
-- step keeps that and prints lines that pass, and each moment passes. The only condition on a packet is one whose
-- violation an end refuses (`DeliversNextId`).
pub record EndsObeyFallen : Type 0 where
  pub opening : (schema : Schema) (protocol : ℕ) (side : Side) → ReadsActors schema (opening_end protocol side) end_reading.opening
  pub step : (schema : Schema) → IsSound schema → (e : End) (link : List Packet) (event : Event) (output : Output) (place : ℕ) (own : EndReading) → step schema e link event ≡ Some output → DeliversNextId schema e link event → ReadsActors schema e own → StepObeysFallen schema place own e output
  pub moment : (schema : Schema) (e : End) (own : EndReading) → ReadsActors schema e own → fallen_moment own ≡ true
  pub accepted : (schema : Schema) (e : End) (packet : Packet) → packet_refusal schema e packet ≡ None → HasNextId schema e packet

-- Every legal history obeys the law of falls.
abbrev pub HistoriesObeyFallen : Type 0
HistoriesObeyFallen = (schema : Schema) → IsSound schema → (top : ℕ) (moves : List Move) → Holds law.Fallen schema (history_of schema top moves)
