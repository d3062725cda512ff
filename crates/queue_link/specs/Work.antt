-- The state of a side that works with two queues: it pushes what its half sends, and pops what comes to it.
use Rattle.std.specs.Prelude.{◌≡◌, ◌⊎◌, Bool, true, false, is_some, List, [], ◌∷◌, ◌++◌, map, None}
use Rattle.std.specs.List.{AllByRecursion}
use Rattle.ipdl_base.specs.declared.kinds.Side.{Side}
use Rattle.ipdl_base.specs.declared.kinds.Side.TheVariants as sides
use Rattle.channel_core.specs.EndView.{IsFramed, packet_of, packets_of}
use Rattle.channel_model.specs.Ends as model
use Rattle.channel_model.specs.Outputs.{is_open}
use Rattle.end_parts.specs.declared.packet.Packet.{Packet}
use Rattle.end_parts.specs.PacketReading.{carried, packet_read}
use Rattle.ipdl_base.specs.declared.schema.Schema.{Schema}
use Rattle.ordered_queue.specs.declared.view.PassView.{PassView}
use Rattle.ordered_queue.specs.Passes.{HasPopped, HasPushed, MayPop, MayPush, view_of}
use Rattle.relay_history.specs.Stamps.{StampedHalf}
use Rattle.relay_runs.specs.HalfRuns.{HalfState, is_within, own_event}
use Rattle.relay_runs.specs.Relays.{Relayed}
use Rattle.script_steps.specs.Choices.{Setting}
use Rattle.script_steps.specs.Turns.{at_limit, at_rest}
use Rattle.world_core.specs.declared.answers.RunAnswer.{RunAnswer}
use Rattle.world_core.specs.declared.answers.RunAnswer.TheVariants as run
use Rattle.world_core.specs.declared.answers.StepAnswer.{StepAnswer}
use Rattle.world_core.specs.declared.answers.StepAnswer.TheVariants as answer
use Rattle.world_core.specs.HalfView.{HalfView, setting_of}
use Rattle.world_core.specs.Relaying.{GoesApart, came_by}
use Rattle.queue_link.specs.declared.packets.Queues.{Queues}
use Rattle.queue_link.specs.declared.packets.SidePasses.{SidePasses}
use Rattle.queue_link.specs.declared.packets.StampedPacket.{StampedPacket}
use Rattle.queue_link.specs.Stamping.{HasStamps, next_stamp, packets_in, stamps_in}

abbrev pub PacketView : Type 0
PacketView = PassView StampedPacket

-- where a packet is that of something that has a frame, it is read as that
abbrev pub IsReadBack : Schema → Packet → Type 0
IsReadBack schema packet = (carries : model.Packet) → IsFramed schema carries → packet ≡ packet_of schema carries → packet_read schema packet ≡ carried carries

-- What was popped is read as these packets; what has the frame of something is read as that.
pub record HasTaken (setting : Setting) (popped : List Packet) (taken : List model.Packet) : Type 0 where
  pub is : taken ≡ map (λ packet. came_by (packet_read setting.schema packet)) popped
  pub reads : AllByRecursion (IsReadBack setting.schema) popped

-- A half runs by itself. It has handed out what was pushed, and what was popped has come to it. The packets that it still has
-- get the next stamp.
pub record HandsOver (setting : Setting) (side : Side) (pushed popped : List StampedPacket) (half : HalfView) : Type 0 where
  pub state : HalfState
  pub handed : List model.Packet
  pub goes : GoesApart setting side state handed half
  pub pushes : packets_in pushed ≡ packets_of setting.schema handed
  pub pops : HasTaken setting (packets_in popped) state.came
  pub stamped : StampedHalf setting side state (stamps_in pushed ++ map (λ packet. next_stamp (stamps_in popped)) goes.held) (stamps_in popped)

-- A half runs by itself. All that it has sent was pushed, and what was popped has come to it, but for what is in its hands.
pub record Stands (setting : Setting) (side : Side) (pushed popped : List StampedPacket) (half : HalfView) (in_hands : List model.Packet) : Type 0 where
  pub state : HalfState
  pub goes : GoesApart setting side state state.sent half
  pub pushes : packets_in pushed ≡ packets_of setting.schema state.sent
  pub pops : HasTaken setting (packets_in popped) (state.came ++ in_hands)
  pub stamps : HasStamps setting side state pushed popped in_hands

-- it is between two steps, with nothing in its hands
abbrev pub IsAtWork : Setting → Side → List StampedPacket → List StampedPacket → HalfView → Type 0
IsAtWork setting side pushed popped half = Stands setting side pushed popped half []

-- It has no own step.
pub record HasNoStep (setting : Setting) (side : Side) (pushed popped : List StampedPacket) (half : HalfView) : Type 0 where
  pub work : IsAtWork setting side pushed popped half
  pub none : own_event setting side work.state ≡ None

-- It had none before this was popped.
abbrev pub HasNoStepBefore : Setting → Side → List StampedPacket → List StampedPacket → StampedPacket → HalfView → Type 0
HasNoStepBefore setting side pushed popped value half = (before : List StampedPacket) × (popped ≡ before ++ value ∷ []) × HasNoStep setting side pushed before half

-- It rests: it has no own step, and is not open, or nothing waits for it, as far as its pass can know.
pub record IsResting (setting : Setting) (side : Side) (pushed : List StampedPacket) (incoming : PacketView) (half : HalfView) : Type 0 where
  pub work : IsAtWork setting side pushed incoming.popped half
  pub none : own_event setting side work.state ≡ None
  pub no_packet : (is_open work.state.end.state ≡ false) ⊎ (incoming.pushes ≡ true → incoming.pushed ≡ incoming.popped)

-- It has an own step left, or, while it is open, a packet in its hands, but has reached the limit.
pub record IsSpent (setting : Setting) (side : Side) (pushed popped : List StampedPacket) (half : HalfView) : Type 0 where
  pub in_hands : List model.Packet
  pub stands : Stands setting side pushed popped half in_hands
  pub full : is_within setting side stands.state ≡ false
  pub left : (is_some (own_event setting side stands.state) ≡ true) ⊎ ((packet : model.Packet) × (in_hands ≡ packet ∷ []) × (is_open stands.state.end.state ≡ true))

-- a packet was pushed that the half has handed out, or there was none
abbrev pub PushGives : Setting → Side → List StampedPacket → List StampedPacket → Bool → HalfView → Type 0
PushGives setting side pushed popped true half' = HandsOver setting side pushed popped half'
PushGives setting side pushed popped false half' = IsAtWork setting side pushed popped half'

-- an own step was done; or there is none; or the half is spent; or memory ran out
abbrev pub OwnGives : Setting → Side → List StampedPacket → List StampedPacket → StepAnswer → HalfView → Type 0
OwnGives setting side pushed popped answer.Did half' = HandsOver setting side pushed popped half'
OwnGives setting side pushed popped answer.Nothing half' = HasNoStep setting side pushed popped half'
OwnGives setting side pushed popped (answer.Spent at) half' = (at ≡ side) × IsSpent setting side pushed popped half'
OwnGives setting side pushed popped answer.NoMemory half' = Unit {0}

-- a packet was delivered that was popped, or the mark in its place; or the half is spent; or memory ran out
abbrev pub DeliveryGives : Setting → Side → List StampedPacket → List StampedPacket → StepAnswer → HalfView → Type 0
DeliveryGives setting side pushed popped answer.Did half' = HandsOver setting side pushed popped half'
DeliveryGives setting side pushed popped answer.Nothing half' = ⊥
DeliveryGives setting side pushed popped (answer.Spent at) half' = (at ≡ side) × IsSpent setting side pushed popped half'
DeliveryGives setting side pushed popped answer.NoMemory half' = Unit {0}

-- the same, where what was sent by it was pushed
abbrev pub TakeGives : Setting → Side → List StampedPacket → List StampedPacket → StepAnswer → HalfView → Type 0
TakeGives setting side pushed popped answer.Did half' = IsAtWork setting side pushed popped half'
TakeGives setting side pushed popped answer.Nothing half' = ⊥
TakeGives setting side pushed popped (answer.Spent at) half' = (at ≡ side) × IsSpent setting side pushed popped half'
TakeGives setting side pushed popped answer.NoMemory half' = Unit {0}

-- a step was done; or the half rests, and nothing was pushed or popped; or it is spent; or memory ran out
abbrev pub StepGives : Setting → Side → PacketView → PacketView → StepAnswer → PacketView → PacketView → HalfView → Type 0
StepGives setting side out incoming answer.Did out' incoming' half' = IsAtWork setting side out'.pushed incoming'.popped half'
StepGives setting side out incoming answer.Nothing out' incoming' half' = (out' ≡ out) × (incoming' ≡ incoming) × IsResting setting side out'.pushed incoming' half'
StepGives setting side out incoming (answer.Spent at) out' incoming' half' = (at ≡ side) × IsSpent setting side out'.pushed incoming'.popped half'
StepGives setting side out incoming answer.NoMemory out' incoming' half' = Unit {0}

-- how the work of a side ends: nothing was left to do when it looked; or it is spent; or memory ran out
abbrev pub WorkEnds : Setting → Side → List StampedPacket → List StampedPacket → RunAnswer → HalfView → Type 0
WorkEnds setting side pushed popped run.Finished half' = IsAtWork setting side pushed popped half'
WorkEnds setting side pushed popped (run.Spent at) half' = (at ≡ side) × IsSpent setting side pushed popped half'
WorkEnds setting side pushed popped run.NoMemory half' = Unit {0}

-- A half is at work with the passes of its side.
abbrev pub MayWork : Queues → Side → SidePasses → HalfView → Type 0
MayWork queues sides.Parent passes half = MayPush queues.down.queue passes.pushing × (MayPop queues.up.queue passes.popping) × IsAtWork (setting_of half) sides.Parent (view_of passes.pushing).pushed (view_of passes.popping).popped half
MayWork queues sides.Child passes half = MayPush queues.up.queue passes.pushing × (MayPop queues.down.queue passes.popping) × IsAtWork (setting_of half) sides.Child (view_of passes.pushing).pushed (view_of passes.popping).popped half

-- its work has ended, of such a run
abbrev pub HasWorked : Queues → Side → SidePasses → SidePasses → Setting → RunAnswer → HalfView → Type 0
HasWorked queues sides.Parent before after setting ended half' =
    HasPushed queues.down.queue before.pushing after.pushing × (HasPopped queues.up.queue before.popping after.popping) × WorkEnds setting sides.Parent (view_of after.pushing).pushed (view_of after.popping).popped ended half'
HasWorked queues sides.Child before after setting ended half' =
    HasPushed queues.up.queue before.pushing after.pushing × (HasPopped queues.down.queue before.popping after.popping) × WorkEnds setting sides.Child (view_of after.pushing).pushed (view_of after.popping).popped ended half'

-- A half is in some state of its work.
pub record StandsSomehow (setting : Setting) (side : Side) (pushed popped : List StampedPacket) (half : HalfView) : Type 0 where
  pub in_hands : List model.Packet
  pub stands : Stands setting side pushed popped half in_hands

-- one side is spent, and the other is in some state of its work
abbrev pub OneIsSpent : Setting → PacketView → PacketView → Side → HalfView → HalfView → Type 0
OneIsSpent setting down up sides.Parent parent child = IsSpent setting sides.Parent down.pushed up.popped parent × StandsSomehow setting sides.Child up.pushed down.popped child
OneIsSpent setting down up sides.Child parent child = StandsSomehow setting sides.Parent down.pushed up.popped parent × IsSpent setting sides.Child up.pushed down.popped child

-- How both end that go on with one pass for the queue down to the child and one for the queue up to the parent.
abbrev pub BothEnd : Setting → PacketView → PacketView → RunAnswer → HalfView → HalfView → Type 0
BothEnd setting down up run.Finished parent child = IsResting setting sides.Parent down.pushed up parent × IsResting setting sides.Child up.pushed down child
BothEnd setting down up (run.Spent side) parent child = OneIsSpent setting down up side parent child
BothEnd setting down up run.NoMemory parent child = Unit {0}

-- the lines of both halves are those of a relay that ends so, unless memory ran out
abbrev pub EndsRelay : Setting → RunAnswer → HalfView → HalfView → Type 0
EndsRelay setting run.Finished parent child = Relayed setting parent.history child.history at_rest
EndsRelay setting (run.Spent side) parent child = Relayed setting parent.history child.history (at_limit side)
EndsRelay setting run.NoMemory parent child = Unit {0}

-- whether a step ends a run
abbrev pub is_over : StepAnswer → Bool
is_over answer.Did = false
is_over answer.Nothing = false
is_over (answer.Spent side) = true
is_over answer.NoMemory = true

-- what a step of the child makes of that of the parent before it
abbrev pub of_round : StepAnswer → StepAnswer → StepAnswer
of_round answer.Did answer.Nothing = answer.Did
of_round first second = second

-- both are between two steps
abbrev pub AreAtWork : Setting → PacketView → PacketView → HalfView → HalfView → Type 0
AreAtWork setting down up parent child = IsAtWork setting sides.Parent down.pushed up.popped parent × IsAtWork setting sides.Child up.pushed down.popped child

-- a step of each: something was done; or both rest; or one is spent; or memory ran out
abbrev pub RoundGives : Setting → PacketView → PacketView → StepAnswer → HalfView → HalfView → Type 0
RoundGives setting down up answer.Did parent child = AreAtWork setting down up parent child
RoundGives setting down up answer.Nothing parent child = IsResting setting sides.Parent down.pushed up parent × IsResting setting sides.Child up.pushed down child
RoundGives setting down up (answer.Spent side) parent child = OneIsSpent setting down up side parent child
RoundGives setting down up answer.NoMemory parent child = Unit {0}

-- what the work of both sides comes to, by that of each
abbrev pub of_both : RunAnswer → RunAnswer → RunAnswer
of_both run.NoMemory second = run.NoMemory
of_both first run.NoMemory = run.NoMemory
of_both (run.Spent side) second = run.Spent side
of_both run.Finished second = second

-- both are between two steps after their work; or one is spent; or memory ran out
abbrev pub BothWorked : Setting → PacketView → PacketView → RunAnswer → HalfView → HalfView → Type 0
BothWorked setting down up run.Finished parent child = AreAtWork setting down up parent child
BothWorked setting down up (run.Spent side) parent child = OneIsSpent setting down up side parent child
BothWorked setting down up run.NoMemory parent child = Unit {0}

-- a pass that may push and pop, and has seen the order of its queue
abbrev pub IsOrdered : PacketView → Type 0
IsOrdered view = (held : List StampedPacket) × (view.pushed ≡ view.popped ++ held)
