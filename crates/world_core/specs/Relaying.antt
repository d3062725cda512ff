-- How a half runs by itself, with no link, and what both halves of a run make where each runs by itself.
use Rattle.std.specs.Prelude.{◌≡◌, ◌+◌, ◌*◌, ◌-◌, ◌<◌, ◌≤◌, Bool, true, false, is_some, List, [], ◌∷◌, ◌++◌, length, map, Option, Some, None}
use Rattle.std.specs.List.{AllByRecursion}
use Rattle.handler_script.specs.Valid.{IsValid}
use Rattle.ipdl_base.specs.declared.kinds.Side.{Side}
use Rattle.ipdl_base.specs.declared.kinds.Side.TheVariants as sides
use Rattle.ipdl_base.specs.declared.line.Line.{Line}
use Rattle.ipdl_base.specs.declared.schema.Schema.{Schema}
use Rattle.ipdl_base.specs.Sound.{IsSound}
use Rattle.channel_model.specs.Ends.{End}
use Rattle.channel_model.specs.Ends as model
use Rattle.channel_model.specs.Events.{Event}
use Rattle.channel_model.specs.Events as event
use Rattle.ipdl_base.specs.Sides.{other}
use Rattle.channel_model.specs.Outputs.{Output, is_open}
use Rattle.channel_model.specs.Refusals.{packet_refusal}
use Rattle.channel_model.specs.Steps.{step}
use Rattle.channel_core.specs.declared.answers.DeliverAnswer.{DeliverAnswer}
use Rattle.channel_core.specs.declared.answers.DeliverAnswer.TheVariants as delivery
use Rattle.channel_core.specs.EndView.{IsFramed, packet_of, packets_of}
use Rattle.end_parts.specs.declared.packet.Packet.{Packet}
use Rattle.end_parts.specs.PacketReading.{PacketContent, carried, faulty}
use Rattle.end_parts.specs.PlainLines.{plain_line}
use Rattle.script_steps.specs.Choices.{Setting}
use Rattle.script_steps.specs.Progress.{Progress, progress_of}
use Rattle.script_steps.specs.Turns.{RunEnding, at_limit, at_rest}
use Rattle.relay_runs.specs.HalfRuns.{HalfRun, HalfState, after, after_packet, delivered_for, is_within, own_event}
use Rattle.relay_runs.specs.RelaySteps.{RelayState, half_of}
use Rattle.relay_runs.specs.Relays.{EndsAs, RelayTurns, Relayed, RelayedByTurns, exceeds, idles, leads, relay_turn}
use Rattle.world_core.specs.declared.answers.AcceptAnswer.{AcceptAnswer}
use Rattle.world_core.specs.declared.answers.AcceptAnswer.TheVariants as accept
use Rattle.world_core.specs.declared.answers.RunAnswer.{RunAnswer}
use Rattle.world_core.specs.declared.answers.RunAnswer.TheVariants as run
use Rattle.world_core.specs.declared.answers.StepAnswer.{StepAnswer}
use Rattle.world_core.specs.declared.answers.StepAnswer.TheVariants as answer
use Rattle.world_core.specs.declared.relay.Halves.{Halves}
use Rattle.world_core.specs.HalfSteps.{IsHalfStep}
use Rattle.world_core.specs.HalfView.{HalfView, IsCountedBy, setting_of}
use Rattle.world_core.specs.WorldView.{WorldView}
use Rattle.world_core.specs.Worlds.{most_events}

-- A half runs by itself: by a valid script of a sound schema it has come to a state of a half run, and has taken over all its
-- lines. Of the packets that it has sent it has handed out these and still has the others; each of them has a frame.
pub record GoesApart (setting : Setting) (side : Side) (state : HalfState) (handed : List model.Packet) (half : HalfView) : Type 0 where
  pub sound : IsSound setting.schema
  pub valid : IsValid setting.schema setting.script
  pub small : setting.limit ≤ most_events
  pub about : setting_of half ≡ setting
  pub runs : HalfRun setting side state
  pub end : half.end.end ≡ state.end
  pub counted : IsCountedBy half (progress_of side state.lines)
  pub history : half.history ≡ state.lines
  pub no_lines : half.end.lines ≡ []
  pub held : List model.Packet
  pub sent : state.sent ≡ handed ++ held
  pub packets : half.end.packets ≡ packets_of setting.schema held
  pub framed : AllByRecursion (IsFramed setting.schema) state.sent

-- It runs by itself in some state, or something holds of each state in which it does so.
pub record IsApart (half : HalfView) : Type 0 where
  pub setting : Setting
  pub side : Side
  pub state : HalfState
  pub handed : List model.Packet
  pub goes : GoesApart setting side state handed half

abbrev pub InEach : HalfView → (Setting → Side → HalfState → List model.Packet → Type 0) → Type 0
InEach half Holds = (setting : Setting) (side : Side) (state : HalfState) (handed : List model.Packet) → GoesApart setting side state handed half → Holds setting side state handed

-- the progress that its lines report
abbrev pub own_progress : HalfView → Progress
own_progress half = progress_of half.end.end.side half.history

-- a half has room for all lines that it may ever have
abbrev pub HasLineRoom : HalfView → Type 0
HasLineRoom half = 5 * half.limit + 1 - length half.history ≤ half.spare

-- A half has taken over the lines of its end.
pub record HasTakenOver (before after : HalfView) : Type 0 where
  pub end : after.end ≡ record before.end { lines = [] }
  pub history : after.history ≡ before.history ++ before.end.lines
  pub same : after ≡ record before { end = after.end; history = after.history; spare = after.spare }

-- It has done its own step.
pub record HasActed (setting : Setting) (side : Side) (state : HalfState) (handed : List model.Packet) (half' : HalfView) : Type 0 where
  pub own : Event
  pub output : Output
  pub within : is_within setting side state ≡ true
  pub is_own : own_event setting side state ≡ Some own
  pub is_step : step setting.schema state.end [] own ≡ Some output
  pub goes : GoesApart setting side (after state output) handed half'

-- its own step was made; or it has no own step; or it has reached the limit; or memory ran out
abbrev pub GoingGives : Setting → Side → HalfState → List model.Packet → StepAnswer → HalfView → Type 0
GoingGives setting side state handed answer.Did half' = HasActed setting side state handed half'
GoingGives setting side state handed answer.Nothing half' = (own_event setting side state ≡ None) × GoesApart setting side state handed half'
GoingGives setting side state handed (answer.Spent at) half' =
    (is_some (own_event setting side state) ≡ true) × (is_within setting side state ≡ false) × (at ≡ side) × GoesApart setting side state handed half'
GoingGives setting side state handed answer.NoMemory half' = GoesApart setting side state handed half'

-- what comes by bytes: what they carry, and the mark where that is nothing
abbrev pub came_by : PacketContent → model.Packet
came_by (carried packet) = packet
came_by (faulty offset rule) = model.mark

-- whether an end refuses bytes: they carry nothing, or what it refuses
abbrev pub is_refused : Schema → End → PacketContent → Bool
is_refused schema e (carried packet) = is_some (packet_refusal schema e packet)
is_refused schema e (faulty offset rule) = true

-- A packet came to it: that was delivered, or the mark in its place.
pub record HasAccepted (setting : Setting) (side : Side) (state : HalfState) (handed : List model.Packet) (came : model.Packet) (half' : HalfView) : Type 0 where
  pub output : Output
  pub within : is_within setting side state ≡ true
  pub opened : is_open state.end.state ≡ true
  pub is_step : step setting.schema state.end (delivered_for setting.schema state.end came ∷ []) event.deliver ≡ Some output
  pub goes : GoesApart setting side (after_packet state came (delivered_for setting.schema state.end came) output) handed half'

-- the packet was delivered; or the mark was, since the end refuses the packet; or the end is not open; or it has reached
-- the limit; or memory ran out
abbrev pub AcceptGives : Setting → Side → HalfState → List model.Packet → PacketContent → AcceptAnswer → HalfView → Type 0
AcceptGives setting side state handed content accept.Did half' = (is_refused setting.schema state.end content ≡ false) × HasAccepted setting side state handed (came_by content) half'
AcceptGives setting side state handed content accept.Refused half' = (is_refused setting.schema state.end content ≡ true) × HasAccepted setting side state handed (came_by content) half'
AcceptGives setting side state handed content accept.Nothing half' = (is_open state.end.state ≡ false) × GoesApart setting side state handed half'
AcceptGives setting side state handed content (accept.Spent at) half' =
    (is_open state.end.state ≡ true) × (is_within setting side state ≡ false) × (at ≡ side) × GoesApart setting side state handed half'
AcceptGives setting side state handed content accept.NoMemory half' = GoesApart setting side state handed half'

-- what an open end does not refuse was delivered, or else the mark; or nothing changed
abbrev pub DeliversFor : HalfView → Progress → PacketContent → AcceptAnswer → HalfView → Type 0
DeliversFor before progress content accept.Did after = (is_refused before.end.schema before.end.end content ≡ false) × IsHalfStep before progress (came_by content ∷ []) event.deliver after
DeliversFor before progress content accept.Refused after = (is_refused before.end.schema before.end.end content ≡ true) × IsHalfStep before progress (model.mark ∷ []) event.deliver after
DeliversFor before progress content accept.Nothing after = ⊥
DeliversFor before progress content (accept.Spent at) after = ⊥
DeliversFor before progress content accept.NoMemory after = after ≡ before

-- The parts of that: a packet is offered, and either delivered or refused with no change; and the mark is delivered.
abbrev pub ContentGives : HalfView → Progress → PacketContent → DeliverAnswer → HalfView → Type 0
ContentGives before progress content delivery.Done after = (is_refused before.end.schema before.end.end content ≡ false) × IsHalfStep before progress (came_by content ∷ []) event.deliver after
ContentGives before progress content delivery.NoMemory after = after ≡ before
ContentGives before progress content told after = (is_refused before.end.schema before.end.end content ≡ true) × (after ≡ before)

abbrev pub BreaksOff : HalfView → Progress → AcceptAnswer → HalfView → Type 0
BreaksOff before progress accept.Did after = ⊥
BreaksOff before progress accept.Refused after = IsHalfStep before progress (model.mark ∷ []) event.deliver after
BreaksOff before progress accept.Nothing after = ⊥
BreaksOff before progress (accept.Spent at) after = ⊥
BreaksOff before progress accept.NoMemory after = after ≡ before

-- It has handed out one packet more.
pub record HasHandedOut (setting : Setting) (side : Side) (state : HalfState) (handed : List model.Packet) (packet : Packet) (half' : HalfView) : Type 0 where
  pub next : model.Packet
  pub is : packet ≡ packet_of setting.schema next
  pub framed : IsFramed setting.schema next
  pub goes : GoesApart setting side state (handed ++ next ∷ []) half'

-- a packet was handed out, or all packets were
abbrev pub PutGives : Setting → Side → HalfState → List model.Packet → Option Packet → HalfView → Type 0
PutGives setting side state handed None half' = (state.sent ≡ handed) × GoesApart setting side state handed half'
PutGives setting side state handed (Some packet) half' = HasHandedOut setting side state handed packet half'

-- The half of a side and the one that faces it run by themselves, and what each has handed out is what came to the other.
pub record GoApart (setting : Setting) (side : Side) (state : RelayState) (half facing : HalfView) : Type 0 where
  pub goes : GoesApart setting side (half_of side state) (half_of (other side) state).came half
  pub faces : GoesApart setting (other side) (half_of (other side) state) (half_of side state).came facing

-- They do so in some state of a relay, or something holds of each state in which they do so.
pub record AreFacing (half facing : HalfView) : Type 0 where
  pub setting : Setting
  pub side : Side
  pub state : RelayState
  pub apart : GoApart setting side state half facing

abbrev pub FacingEach : HalfView → HalfView → (Setting → Side → RelayState → Type 0) → Type 0
FacingEach half facing Holds = (setting : Setting) (side : Side) (state : RelayState) → GoApart setting side state half facing → Holds setting side state

-- A turn has led to another state, by one event more.
pub record HasLed (setting : Setting) (side : Side) (state : RelayState) (half' facing' : HalfView) : Type 0 where
  pub next : RelayState
  pub leads_to : relay_turn setting side state ≡ leads next
  pub apart : GoApart setting side next half' facing'
  pub few : (progress_of side (half_of side state).lines).events < setting.limit
  pub more : (progress_of side (half_of side next).lines).events ≡ (progress_of side (half_of side state).lines).events + 1
  pub same : half_of (other side) next ≡ half_of (other side) state

-- a turn of a side: it led on; or there is nothing to do; or the side has something to do, but is at the limit; or memory
-- ran out
abbrev pub RelayTurnGives : Setting → Side → RelayState → StepAnswer → HalfView → HalfView → Type 0
RelayTurnGives setting side state answer.Did half' facing' = HasLed setting side state half' facing'
RelayTurnGives setting side state answer.Nothing half' facing' = (relay_turn setting side state ≡ idles) × GoApart setting side state half' facing'
RelayTurnGives setting side state (answer.Spent at) half' facing' =
    (relay_turn setting side state ≡ exceeds) × (at ≡ side) × (half'.history ≡ (half_of side state).lines) × (facing'.history ≡ (half_of (other side) state).lines)
RelayTurnGives setting side state answer.NoMemory half' facing' = Unit {0}

-- A parent and a child run by themselves in some state, or something holds of each state in which they do so.
pub record BothApart (parent child : HalfView) : Type 0 where
  pub setting : Setting
  pub state : RelayState
  pub apart : GoApart setting sides.Parent state parent child

abbrev pub BothInEach : HalfView → HalfView → (Setting → RelayState → Type 0) → Type 0
BothInEach parent child Holds = (setting : Setting) (state : RelayState) → GoApart setting sides.Parent state parent child → Holds setting state

-- what a turn of one of them gives
abbrev pub SideTurnGives : Setting → Side → RelayState → StepAnswer → HalfView → HalfView → Type 0
SideTurnGives setting sides.Parent state told parent' child' = RelayTurnGives setting sides.Parent state told parent' child'
SideTurnGives setting sides.Child state told parent' child' = RelayTurnGives setting sides.Child state told child' parent'

-- what a turn answers, by what a half answers to a packet
abbrev pub turn_answer : AcceptAnswer → StepAnswer
turn_answer accept.Did = answer.Did
turn_answer accept.Refused = answer.Did
turn_answer accept.Nothing = answer.Nothing
turn_answer (accept.Spent at) = answer.Spent at
turn_answer accept.NoMemory = answer.NoMemory

-- Turns of both, the parent first, led from a state to the last, in which the relay ends so.
pub record HasTakenTurns (setting : Setting) (from : RelayState) (ending : RunEnding) (parent' child' : HalfView) : Type 0 where
  pub last : RelayState
  pub turns : RelayTurns setting sides.Parent 2 from last ending
  pub ends : EndsAs setting last ending
  pub parent_lines : parent'.history ≡ last.parent.lines
  pub child_lines : child'.history ≡ last.child.lines

abbrev pub TurnsGive : Setting → RelayState → RunAnswer → HalfView → HalfView → Type 0
TurnsGive setting from run.Finished parent' child' = HasTakenTurns setting from at_rest parent' child'
TurnsGive setting from (run.Spent side) parent' child' = HasTakenTurns setting from (at_limit side) parent' child'
TurnsGive setting from run.NoMemory parent' child' = Unit {0}

-- the lines of both halves, with every box at one place, are in a relation with how the run ended, unless memory ran out
abbrev pub EndedIn : (List Line → List Line → RunEnding → Type 0) → Halves → RunAnswer → Type 0
EndedIn Ends halves run.Finished = Ends (map plain_line halves.parent.lines) (map plain_line halves.child.lines) at_rest
EndedIn Ends halves (run.Spent side) = Ends (map plain_line halves.parent.lines) (map plain_line halves.child.lines) (at_limit side)
EndedIn Ends halves run.NoMemory = Unit {0}

-- they are those of a relay, or of a relay in turns
abbrev pub IsRelayed : Setting → Halves → RunAnswer → Type 0
IsRelayed setting halves answer = EndedIn (Relayed setting) halves answer

abbrev pub IsRelayedByTurns : Setting → Halves → RunAnswer → Type 0
IsRelayedByTurns setting halves answer = EndedIn (RelayedByTurns setting) halves answer

-- what a relay gives, unless memory ran out
abbrev pub RelayGives : (WorldView → Halves → RunAnswer → Type 0) → WorldView → Halves → RunAnswer → Type 0
RelayGives Gives before halves run.NoMemory = Unit {0}
RelayGives Gives before halves answer = Gives before halves answer
