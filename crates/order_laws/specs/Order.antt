-- The order in which an end takes what has arrived.
use Rattle.std.specs.Prelude.{◌≡◌, ℕ, Bool, true, false, cond, ◌⊎◌, List, [], ◌∷◌, ◌++◌, map, take, Option, Some, None}
use Rattle.std.specs.List.{AllByRecursion}
use Rattle.ipdl_base.specs.declared.kinds.Side.{Side}
use Rattle.ipdl_base.specs.Lines.{same_side}
use Rattle.ipdl_base.specs.declared.line.Line.{Line}
use Rattle.ipdl_base.specs.declared.line.What.{What}
use Rattle.ipdl_base.specs.declared.line.What.TheVariants as what
use Rattle.ipdl_base.specs.declared.message.Body.{Body}
use Rattle.ipdl_base.specs.declared.message.Body.TheVariants.{Request, Reply, Fault, Goodbye}
use Rattle.ipdl_base.specs.declared.message.Message.{Message}
use Rattle.ipdl_base.specs.declared.schema.Schema.{Schema}
use Rattle.ipdl_base.specs.Sound.{IsSound}
use Rattle.pending_queue.specs.declared.item.Item.{Item}
use Rattle.pending_queue.specs.declared.item.Item.TheVariants as item
use Rattle.pending_queue.specs.Compression.{are_alike}
use Rattle.pending_queue.specs.DeferralContext.{defers_item}
use Rattle.channel_model.specs.Ends.{End, World, Packet, message, mark, end_of, link_to, opening}
use Rattle.channel_model.specs.Events.{Event, Move}
use Rattle.channel_model.specs.Events as event
use Rattle.channel_model.specs.Outputs.{Output, is_open}
use Rattle.channel_model.specs.Runs.{happens, is_delivery, output_of}
use Rattle.channel_model.specs.Sends.{frames_of}
use Rattle.channel_model.specs.States.{IsAnswered, is_farewell}
use Rattle.channel_model.specs.Steps.{step, first_packet}
use Rattle.channel_model.specs.Takes.{deferral_context_of}
use Rattle.channel_laws.specs.Laws.{world_of}

-- Takes

-- a line shows that a message is taken, by its body; for a request, that it is taken or dropped
abbrev pub IsTakeOfBody : Message → Body → What → Type 0
IsTakeOfBody m (Request vs) (what.Take n route number values) = (n ≡ m.seq) × (route ≡ m.route) × (number ≡ m.number)
IsTakeOfBody m (Request vs) (what.Drop n route number id) = (n ≡ m.seq) × (route ≡ m.route) × (number ≡ m.number)
IsTakeOfBody m (Request vs) _ = ⊥
IsTakeOfBody m (Reply vs) (what.TakeReply n) = n ≡ m.seq
IsTakeOfBody m (Reply vs) _ = ⊥
IsTakeOfBody m (Fault reason) (what.TakeReply n) = n ≡ m.seq
IsTakeOfBody m (Fault reason) _ = ⊥
IsTakeOfBody m Goodbye what.ShutNormal = Unit {0}
IsTakeOfBody m Goodbye _ = ⊥

-- a line shows that an item is taken
abbrev pub IsTakeOf : Item → What → Type 0
IsTakeOf (item.Message m sync level) w = IsTakeOfBody m m.body w
IsTakeOf item.Broken what.ShutAbnormal = Unit {0}
IsTakeOf item.Broken _ = ⊥

-- the first line is of a kind
abbrev pub FirstLine : (What → Type 0) → List Line → Type 0
FirstLine P [] = ⊥
FirstLine P (line ∷ rest) = P line.what

-- The item that an end takes, and the older and younger items that wait. At that moment the end does not defer the
-- item, and defers every older one. The item leaves; a farewell leaves nothing behind.
pub record TakesFreeItem (e : End) (output : Output) : Type 0 where
  pub taken : Item
  pub older : List Item
  pub younger : List Item
  pub arrived : e.arrived ≡ older ++ taken ∷ younger
  pub free : defers_item (deferral_context_of e) taken ≡ false
  pub deferred : AllByRecursion (λ x. defers_item (deferral_context_of e) x ≡ true) older
  pub told : FirstLine (IsTakeOf taken) output.lines
  pub left : output.end.arrived ≡ cond (is_farewell taken) [] (older ++ younger)

-- An item that is taken or dropped is not deferred, and every older item that waits is. An end without an unanswered
-- wait takes the oldest item.
pub record FreeItemsAreTaken : Type 0 where
  pub takes : (schema : Schema) (e : End) (link : List Packet) (output : Output) → step schema e link event.take ≡ Some output → TakesFreeItem e output
  pub oldest : (schema : Schema) (e : End) (link : List Packet) (output : Output) (first : Item) (rest : List Item) → AllByRecursion IsAnswered (frames_of e) → e.arrived ≡ first ∷ rest → step schema e link event.take ≡ Some output → FirstLine (IsTakeOf first) output.lines

-- Arrivals

-- the packet that an item was delivered as
abbrev pub packet_of : Item → Packet
packet_of (item.Message m sync level) = message m
packet_of item.Broken = mark

-- What a delivery does to the items that have arrived: its packet comes last, and at most one earlier request of the
-- same message to the same actor leaves. Or the packet does not wait to be taken, such as the reply that a call waits
-- for.
pub data ArrivesLast (packet : Packet) (before after : List Item) : Type 0 where
  passes : after ≡ before → ArrivesLast packet before after
  arrives : (new : Item) → packet_of new ≡ packet → after ≡ before ++ new ∷ [] → ArrivesLast packet before after
  replaces : (new old : Item) (front back : List Item) → packet_of new ≡ packet → are_alike new old ≡ true → before ≡ front ++ old ∷ back → after ≡ (front ++ back) ++ new ∷ [] → ArrivesLast packet before after

-- all that has arrived stays, or nothing is left and the end is no longer open
abbrev pub StaysOrEnds : End → Output → Type 0
StaysOrEnds e output = (output.end.arrived ≡ e.arrived) ⊎ ((output.end.arrived ≡ []) × (is_open output.end.state ≡ false))

-- how an event changes the items that have arrived
abbrev pub ChangesArrivals : End → List Packet → Event → Output → Type 0
ChangesArrivals e link event.deliver output = (packet : Packet) × (first_packet link ≡ Some packet) × ArrivesLast packet e.arrived output.end.arrived
ChangesArrivals e link event.take output = TakesFreeItem e output
ChangesArrivals e link _ output = StaysOrEnds e output

-- One list is a subsequence of another.
pub data IsSubsequence {A : Type 0} : List A → List A → Type 0 where
  nothing : IsSubsequence [] []
  both : {x : A} {xs ys : List A} → IsSubsequence xs ys → IsSubsequence (x ∷ xs) (x ∷ ys)
  without : {y : A} {xs ys : List A} → IsSubsequence xs ys → IsSubsequence xs (y ∷ ys)

-- what a delivery, if it is possible, takes off the link toward its end
abbrev pub delivered_when : Option Output → Event → List Packet → List Packet
delivered_when None ev link = []
delivered_when (Some output) ev link = cond (is_delivery ev) (take 1 link) []

-- what a move delivers to a side
abbrev pub delivered_by : Schema → World → Side → Move → List Packet
delivered_by schema w side move = cond (same_side side move.side) (delivered_when (output_of schema w move) move.event (link_to move.side w)) []

-- all that moves deliver to a side, in order
abbrev pub delivered_to : Schema → Side → List Move → World → List Packet
delivered_to schema side [] w = []
delivered_to schema side (move ∷ moves) w = delivered_by schema w side move ++ delivered_to schema side moves (happens schema w move).world

-- How each event changes the items that have arrived at its end. So in every run the items that wait at an end are a
-- subsequence of the packets that were delivered to it.
pub record ArrivalsKeepTheirOrder : Type 0 where
  pub changes : (schema : Schema) (e : End) (link : List Packet) (ev : Event) (output : Output) → step schema e link ev ≡ Some output → ChangesArrivals e link ev output
  pub in_order : (schema : Schema) (top : ℕ) (moves : List Move) (side : Side) → IsSubsequence (map packet_of (end_of side (world_of schema top moves)).arrived) (delivered_to schema side moves (opening top))

-- Farewells

-- a line by which an end closes because the other has ended
abbrev pub IsShut : What → Type 0
IsShut what.ShutNormal = Unit {0}
IsShut what.ShutAbnormal = Unit {0}
IsShut _ = ⊥

-- A farewell is taken when no other item waits, and no call of the end waits for its answer.
pub record TakesLast (e : End) : Type 0 where
  pub last : Item
  pub farewell : is_farewell last ≡ true
  pub alone : e.arrived ≡ last ∷ []
  pub nobody : AllByRecursion IsAnswered (frames_of e)

abbrev pub FarewellsAreTakenLast : Type 0
FarewellsAreTakenLast =
    (schema : Schema) → IsSound schema → (top : ℕ) (moves : List Move) (side : Side) (output : Output)
    → step schema (end_of side (world_of schema top moves)) (link_to side (world_of schema top moves)) event.take ≡ Some output → FirstLine IsShut output.lines → TakesLast (end_of side (world_of schema top moves))
