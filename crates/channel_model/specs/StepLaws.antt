-- What follows from the steps of ends, for every schema and every list of moves.
use Rattle.std.specs.Prelude.{◌≡◌, ◌≢◌, ℕ, ◌≤◌, true, List, map, Some, None}
use Rattle.std.specs.List.{AllByRecursion}
use Rattle.ipdl_base.specs.declared.kinds.Side.{Side}
use Rattle.ipdl_base.specs.declared.line.What.{What}
use Rattle.ipdl_base.specs.declared.schema.Schema.{Schema}
use Rattle.ipdl_base.specs.Sound.{IsSound}
use Rattle.channel_model.specs.Ends.{End, Packet, opening, opening_end}
use Rattle.channel_model.specs.Events.{Event, Move}
use Rattle.channel_model.specs.Events as event
use Rattle.channel_model.specs.Outputs.{Output, line_at, is_open}
use Rattle.channel_model.specs.Parts.{OwnParts, DeliveryPart}
use Rattle.channel_model.specs.Phases.{Phase}
use Rattle.channel_model.specs.Runs.{run, history_of}
use Rattle.channel_model.specs.Sends.{next_seq}
use Rattle.channel_model.specs.Steps.{step, first_packet}
use Rattle.channel_model.specs.Actors.{IsAccepted, AreKnown, ids_of}
use Rattle.channel_model.specs.Bounds.{IsBounded, HasCounted, IsCounted}
use Rattle.channel_model.specs.Fitting.{IsFitting, FitsPacket, IsFittingDelivery}
use Rattle.channel_model.specs.EventLines.{IsEventWithEffects, EffectsFollow}
use Rattle.channel_model.specs.Requests.{AreNumbered, requests_of}
use Rattle.channel_model.specs.States.{IsInState}

-- Each event prints its line, and then a line for each of its effects; the end keeps its side.
pub record HasItsLines (e : End) (output : Output) : Type 0 where
  pub lines : IsEventWithEffects e.side output.lines
  pub side : output.end.side ≡ e.side

abbrev pub EventsHaveTheirLines : Type 0
EventsHaveTheirLines =
    (schema : Schema) (e : End) (link : List Packet) (event : Event) (output : Output) → step schema e link event ≡ Some output → HasItsLines e output

-- In every history each effect follows an event of its side, or another effect of that event.
abbrev pub EffectsFollowEvents : Type 0
EffectsFollowEvents = (schema : Schema) (top : ℕ) (moves : List Move) → EffectsFollow None (history_of schema top moves)

-- Parts make what a step makes: its lines on the end's side, its packets and the end after it.
pub record IsMadeOf (Parts : List What → List Packet → End → Phase → Type 0) (side : Side) (output : Output) : Type 0 where
  pub whats : List What
  pub phase : Phase
  pub parts : Parts whats output.packets output.end phase
  pub lines : output.lines ≡ map (line_at side) whats

-- the delivery of the first packet on the link to an open end is a single part
abbrev pub IsDeliveryOfOnePart : Schema → End → List Packet → Output → Type 0
IsDeliveryOfOnePart schema e link output = (packet : Packet) × (first_packet link ≡ Some packet) × (is_open e.state ≡ true) × IsMadeOf (DeliveryPart schema packet e) e.side output

-- what an event makes, as parts
abbrev pub IsStepOfParts : Schema → End → List Packet → Event → Output → Type 0
IsStepOfParts schema e link event.deliver output = IsDeliveryOfOnePart schema e link output
IsStepOfParts schema e link _ output = IsMadeOf (OwnParts schema e) e.side output

-- Every step is made of parts: a delivery is a single part; any other step is a first part and the parts that follow
-- it.
abbrev pub StepsAreMadeOfParts : Type 0
StepsAreMadeOfParts =
    (schema : Schema) (e : End) (link : List Packet) (event : Event) (output : Output) → step schema e link event ≡ Some output → IsStepOfParts schema e link event output

-- A step keeps the actors of an end known, if the packet that it delivers, if any, is not refused.
abbrev pub KnownActorsStay : Type 0
KnownActorsStay =
    (schema : Schema) (protocol : ℕ) (e : End) (link : List Packet) (event : Event) (output : Output)
    → step schema e link event ≡ Some output → IsAccepted schema e link event → AreKnown protocol (ids_of schema e) → AreKnown protocol (ids_of schema output.end)

-- At the beginning an end has the top actor alone, and its actors are known.
abbrev pub FirstActorsAreKnown : Type 0
FirstActorsAreKnown = (schema : Schema) (protocol : ℕ) (side : Side) → AreKnown protocol (ids_of schema (opening_end protocol side))

-- After every step an end is as its state requires, where its actors are known.
abbrev pub StatesStay : Type 0
StatesStay =
    (schema : Schema) (protocol : ℕ) (e : End) (link : List Packet) (event : Event) (output : Output)
    → step schema e link event ≡ Some output → AreKnown protocol (ids_of schema e) → IsInState e → IsInState output.end

abbrev pub FirstStates : Type 0
FirstStates = (protocol : ℕ) (side : Side) → IsInState (opening_end protocol side)

-- Every step keeps promises numbered. So the next request has a number that no promise has.
abbrev pub NumbersStay : Type 0
NumbersStay =
    (schema : Schema) (e : End) (link : List Packet) (event : Event) (output : Output)
    → step schema e link event ≡ Some output → AreNumbered (requests_of e) → AreNumbered (requests_of output.end)

abbrev pub NextNumberIsFree : Type 0
NextNumberIsFree = (e : End) → AreNumbered (requests_of e) → AllByRecursion (λ seq. seq ≢ next_seq e) (requests_of e).promised

-- So at both ends of every run promises are numbered.
abbrev pub NumbersInEveryRun : Type 0
NumbersInEveryRun =
    (schema : Schema) (top : ℕ) (moves : List Move)
    → AreNumbered (requests_of (run schema moves (opening top)).world.parent) × AreNumbered (requests_of (run schema moves (opening top)).world.child)

-- After a step the end fits, and so does each packet of the step.
pub record FitsOutput (schema : Schema) (output : Output) : Type 0 where
  pub end : IsFitting schema output.end
  pub packets : AllByRecursion (FitsPacket schema) output.packets

-- What an end keeps and sends fits a sound schema, as long as it has sent at most 2^28 requests, this step included,
-- and the packet that is delivered fits and is not refused.
abbrev pub FittingEndsStay : Type 0
FittingEndsStay =
    (schema : Schema) (e : End) (link : List Packet) (event : Event) (output : Output)
    → step schema e link event ≡ Some output → IsSound schema → IsCounted e → output.end.sent ≤ 268435456 → IsFittingDelivery schema e link event → IsFitting schema e → FitsOutput schema output

-- At the beginning an end fits, and its counts are consistent (`IsCounted`).
abbrev pub FirstEndsFit : Type 0
FirstEndsFit = (schema : Schema) (protocol : ℕ) (side : Side) → IsFitting schema (opening_end protocol side) × IsCounted (opening_end protocol side)

-- Every step adds at most one to the number of requests that were sent, and to the number delivered. So the counts of
-- an end stay consistent (`IsCounted`).
abbrev pub CountsGrow : Type 0
CountsGrow = (schema : Schema) (e : End) (link : List Packet) (event : Event) (output : Output) → step schema e link event ≡ Some output → HasCounted e output.end × (IsCounted e → IsCounted output.end)

-- Every step is bounded where the actors of the end are known.
abbrev pub StepsAreBounded : Type 0
StepsAreBounded =
    (schema : Schema) (protocol : ℕ) (e : End) (link : List Packet) (event : Event) (output : Output)
    → step schema e link event ≡ Some output → AreKnown protocol (ids_of schema e) → IsBounded e output
