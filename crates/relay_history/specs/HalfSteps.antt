-- What a half does step by step when any packet may come to it, whoever sent that.
use Rattle.std.specs.Prelude.{◌≡◌, true, [], ◌∷◌, Some, None}
use Rattle.ipdl_base.specs.declared.kinds.Side.{Side}
use Rattle.channel_model.specs.Ends.{Packet}
use Rattle.channel_model.specs.Events.{Event}
use Rattle.channel_model.specs.Events as event
use Rattle.channel_model.specs.Outputs.{Output, is_open}
use Rattle.channel_model.specs.Steps.{step}
use Rattle.script_steps.specs.Choices.{Setting}
use Rattle.relay_runs.specs.HalfRuns.{HalfState, after, after_packet, delivered_for, is_within, own_event}

-- A half within the limit does its own event; or it has none and is open, and gets some packet.
pub data HalfStep (setting : Setting) (side : Side) (half : HalfState) : HalfState → Type 0 where
  acts : (own : Event) (output : Output) → is_within setting side half ≡ true → own_event setting side half ≡ Some own → step setting.schema half.end [] own ≡ Some output
      → HalfStep setting side half (after half output)
  gets : (packet : Packet) (output : Output) → is_within setting side half ≡ true → own_event setting side half ≡ None → is_open half.end.state ≡ true
      → step setting.schema half.end (delivered_for setting.schema half.end packet ∷ []) event.deliver ≡ Some output
      → HalfStep setting side half (after_packet half packet (delivered_for setting.schema half.end packet) output)

-- Such steps lead from one state of a half to another.
pub data HalfLeads (setting : Setting) (side : Side) (from : HalfState) : HalfState → Type 0 where
  rests : HalfLeads setting side from from
  goes : (half next : HalfState) → HalfLeads setting side from half → HalfStep setting side half next → HalfLeads setting side from next
