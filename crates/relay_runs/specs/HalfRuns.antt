-- A half: one end by itself. Its own steps are those of its side of a script. Packets come to it, whoever sends them.
use Rattle.std.specs.Prelude.{◌≡◌, ◌⊎◌, nat_lt, Bool, true, List, [], ◌∷◌, ◌++◌, Option, Some, None}
use Rattle.std.specs.Option.{option_map_or}
use Rattle.ipdl_base.specs.declared.kinds.Side.{Side}
use Rattle.ipdl_base.specs.declared.line.Line.{Line}
use Rattle.ipdl_base.specs.declared.schema.Schema.{Schema}
use Rattle.channel_model.specs.Ends.{End, Packet, mark, opening_end}
use Rattle.channel_model.specs.Events.{Event}
use Rattle.channel_model.specs.Events as event
use Rattle.channel_model.specs.Fitting.{FitsPacket}
use Rattle.channel_model.specs.Outputs.{Output, is_open}
use Rattle.channel_model.specs.Refusals.{packet_refusal}
use Rattle.channel_model.specs.Steps.{step}
use Rattle.script_steps.specs.Choices.{Setting}
use Rattle.script_steps.specs.NextEvent.{next_event}
use Rattle.script_steps.specs.Progress.{progress_of}

-- How far an end has come: the end, its lines, the packets that came to it, those that were delivered in their places,
-- and those that it has sent; the oldest first.
pub record HalfState : Type 0 where
  pub end : End
  pub lines : List Line
  pub came : List Packet
  pub delivered : List Packet
  pub sent : List Packet

-- the end of a side as it begins
abbrev pub opening_half : Setting → Side → HalfState
opening_half setting side = record { end = opening_end setting.script.top side; lines = []; came = []; delivered = []; sent = [] }

-- what the end does next of its own
abbrev pub own_event : Setting → Side → HalfState → Option Event
own_event setting side state = next_event setting.script setting.stop state.end (progress_of side state.lines)

-- whether the end has fewer events than the limit
abbrev pub is_within : Setting → Side → HalfState → Bool
is_within setting side state = nat_lt (progress_of side state.lines).events setting.limit

-- what is delivered of a packet that comes: the packet, or the mark of a death in place of one that the end refuses
abbrev pub delivered_for : Schema → End → Packet → Packet
delivered_for schema e packet = option_map_or (λ refusal. mark) (packet_refusal schema e packet) packet

-- the state after a step that has made this
abbrev pub after : HalfState → Output → HalfState
after state output = record state { end = output.end; lines = state.lines ++ output.lines; sent = state.sent ++ output.packets }

-- the state after a packet that came, with this one delivered in its place
abbrev pub after_packet : HalfState → Packet → Packet → Output → HalfState
after_packet state packet given output = record (after state output) { came = state.came ++ packet ∷ []; delivered = state.delivered ++ given ∷ [] }

-- the half after an own step, and after a packet that comes; a step that is not possible changes nothing
abbrev pub after_own : Setting → HalfState → Event → HalfState
after_own setting half own = option_map_or (after half) (step setting.schema half.end [] own) half

abbrev pub after_next : Setting → HalfState → Packet → HalfState
after_next setting half packet =
    let given : Packet = delivered_for setting.schema half.end packet in
    option_map_or (after_packet half packet given) (step setting.schema half.end (given ∷ []) event.deliver) half

-- An end has come this far by itself: it has made its own steps by the script, and got packets where it had no own step and
-- was open, with fewer events than the limit before each.
pub data HalfRun (setting : Setting) (side : Side) : HalfState → Type 0 where
  begins : HalfRun setting side (opening_half setting side)
  acts : (state : HalfState) (own : Event) (output : Output) → HalfRun setting side state → is_within setting side state ≡ true → own_event setting side state ≡ Some own
      → step setting.schema state.end [] own ≡ Some output → HalfRun setting side (after state output)
  gets : (state : HalfState) (packet : Packet) (output : Output) → HalfRun setting side state → is_within setting side state ≡ true → own_event setting side state ≡ None
      → is_open state.end.state ≡ true → FitsPacket setting.schema packet → step setting.schema state.end (delivered_for setting.schema state.end packet ∷ []) event.deliver ≡ Some output
      → HalfRun setting side (after_packet state packet (delivered_for setting.schema state.end packet) output)

-- What was delivered is what came, but for the last, which may be the mark in place of a packet that was refused.
abbrev pub StandsFor : List Packet → List Packet → Type 0
StandsFor came delivered = (delivered ≡ came) ⊎ ((before : List Packet) × (packet : Packet) × (came ≡ before ++ packet ∷ []) × (delivered ≡ before ++ mark ∷ []))
