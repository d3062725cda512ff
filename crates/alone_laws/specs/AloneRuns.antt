-- The runs of one end, whatever is delivered to it.
use Rattle.std.specs.Prelude.{◌≡◌, ℕ, List, [], ◌∷◌, ◌++◌, Some, None}
use Rattle.ipdl_base.specs.declared.kinds.Side.{Side}
use Rattle.ipdl_base.specs.declared.line.Line.{Line}
use Rattle.ipdl_base.specs.declared.schema.Schema.{Schema}
use Rattle.channel_model.specs.Ends.{End, Packet, opening_end}
use Rattle.channel_model.specs.Events.{Event}
use Rattle.channel_model.specs.Events as event
use Rattle.channel_model.specs.Fitting.{FitsPacket}
use Rattle.channel_model.specs.Outputs.{Output}
use Rattle.channel_model.specs.Refusals.{packet_refusal}
use Rattle.channel_model.specs.Steps.{step}

-- A state that one end may reach, with its lines and the packets that were delivered to it. The end makes steps of
-- its own, and receives packets that fit the schema and that it does not refuse, whoever has sent them.
pub data RunsAlone (schema : Schema) (top : ℕ) (side : Side) : End → List Line → List Packet → Type 0 where
  begins : RunsAlone schema top side (opening_end top side) [] []
  acts : {e : End} {lines : List Line} {packets : List Packet} (own : Event) (output : Output) → RunsAlone schema top side e lines packets → step schema e [] own ≡ Some output
      → RunsAlone schema top side output.end (lines ++ output.lines) packets
  gets : {e : End} {lines : List Line} {packets : List Packet} (packet : Packet) (output : Output) → RunsAlone schema top side e lines packets
      → FitsPacket schema packet → packet_refusal schema e packet ≡ None → step schema e (packet ∷ []) event.deliver ≡ Some output
      → RunsAlone schema top side output.end (lines ++ output.lines) (packets ++ packet ∷ [])
