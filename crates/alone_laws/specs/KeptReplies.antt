-- What an end keeps of the replies that were delivered to it.
use Rattle.std.specs.Prelude.{◌≡◌, ◌⊎◌, ◌≢◌, ℕ, ℤ, true, List, [], ◌∷◌, filter_map, flat_map, Option, Some, None}
use Rattle.std.specs.List.{AllByRecursion, slice_get}
use Rattle.ipdl_base.specs.declared.kinds.EndState.{EndState}
use Rattle.ipdl_base.specs.declared.kinds.Reason.TheVariants.{ChannelClosed}
use Rattle.ipdl_base.specs.declared.kinds.Side.{Side}
use Rattle.ipdl_base.specs.declared.message.Body.{Body}
use Rattle.ipdl_base.specs.declared.message.Body.TheVariants.{Request, Reply, Fault, Goodbye}
use Rattle.nesting_core.specs.declared.frame.Answer.{Answer}
use Rattle.nesting_core.specs.declared.frame.Answer.TheVariants as answer
use Rattle.nesting_core.specs.declared.frame.StackFrame.{StackFrame}
use Rattle.nesting_core.specs.declared.frame.StackFrame.TheVariants.{Dispatch, Wait}
use Rattle.pending_queue.specs.declared.item.Item.{Item}
use Rattle.pending_queue.specs.declared.item.Item.TheVariants as item
use Rattle.channel_model.specs.Actors.{AreDistinct}
use Rattle.channel_model.specs.Ends.{End, Packet, message, mark, PromiseEntry, StackEntry}
use Rattle.channel_model.specs.Requests.{IsSeqOf}
use Rattle.channel_model.specs.Takes.{is_awaited, takes_in_state}
use Rattle.history_reading.specs.Numbers.{has}
use Rattle.channel_laws.specs.GivenAnswers.{FrameIsOwn}
use Rattle.channel_laws.specs.Notes.{Note}
use Rattle.alone_laws.specs.Received.{answer_to, answers_to}

-- what an item answers to the request of a number, and all such answers among items
abbrev pub item_answer : ℤ → Item → Option Answer
item_answer n (item.Message m sync level) = answer_to n (message m)
item_answer n item.Broken = None

abbrev pub answers_in : ℤ → List Item → List Answer
answers_in n items = filter_map (item_answer n) items

-- While an end may take, the answers to a pending promise that were delivered are those that have arrived.
abbrev pub PendingAreThere : List PromiseEntry → EndState → List Item → List Packet → Type 0
PendingAreThere promises state items packets = (n : ℤ) → is_awaited n promises ≡ true → takes_in_state state ≡ true → answers_in n items ≡ answers_to n packets

-- a reply is to one of the first `count` requests of a side
abbrev pub BodyIsKnown : Side → ℕ → ℤ → Body → Type 0
BodyIsKnown side count n (Request vs) = Unit {0}
BodyIsKnown side count n (Reply vs) = IsSeqOf side count n
BodyIsKnown side count n (Fault why) = IsSeqOf side count n
BodyIsKnown side count n Goodbye = Unit {0}

abbrev pub PacketIsKnown : Side → ℕ → Packet → Type 0
PacketIsKnown side count (message m) = BodyIsKnown side count m.seq m.body
PacketIsKnown side count mark = Unit {0}

abbrev pub ItemIsKnown : Side → ℕ → Item → Type 0
ItemIsKnown side count (item.Message m sync level) = BodyIsKnown side count m.seq m.body
ItemIsKnown side count item.Broken = Unit {0}

-- the number of a wait, or nothing for a dispatch
abbrev pub wait_number : StackFrame → List ℤ
wait_number (Dispatch head) = []
wait_number (Wait head given) = head.seq ∷ []

abbrev pub wait_numbers : List StackEntry → List ℤ
wait_numbers stack = flat_map (λ (entry : StackEntry). wait_number entry.frame) stack

-- no answer to a wait was delivered; or the wait has the first answer that was delivered, or the fault by which it
-- failed
abbrev pub FrameReceives : List Packet → List ℤ → StackFrame → Type 0
FrameReceives packets failed (Dispatch head) = Unit {0}
FrameReceives packets failed (Wait head None) = answers_to head.seq packets ≡ []
FrameReceives packets failed (Wait head (Some a)) = (slice_get (answers_to head.seq packets) 0 ≡ Some a) ⊎ ((a ≡ answer.Fault ChannelClosed) × (has failed head.seq ≡ true))

-- The waits of an end have numbers of its own requests, none twice, and each has its answer from what was delivered.
pub record WaitsReceive (side : Side) (count : ℕ) (packets : List Packet) (failed : List ℤ) (stack : List StackEntry) : Type 0 where
  pub known : AllByRecursion (IsSeqOf side count) (wait_numbers stack)
  pub apart : AreDistinct (wait_numbers stack)
  pub given : AllByRecursion (λ entry. FrameReceives packets failed entry.frame) stack

-- What an end keeps of the packets that were delivered to it, given the calls that have failed and the notes of what
-- it has sent.
pub record KeepsReplies (e : End) (packets : List Packet) (failed : List ℤ) (sent : List Note) : Type 0 where
  pub pending : PendingAreThere e.promises e.state e.arrived packets
  pub known : AllByRecursion (PacketIsKnown e.side e.sent) packets
  pub arrived : AllByRecursion (ItemIsKnown e.side e.sent) e.arrived
  pub waits : WaitsReceive e.side e.sent packets failed e.stack
  pub requested : AllByRecursion (λ entry. FrameIsOwn sent entry entry.frame) e.stack
