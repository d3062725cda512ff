-- Where the answers of waits come from.
use Rattle.std.specs.Prelude.{◌≡◌, ℤ, true, List, Some, None}
use Rattle.std.specs.List.{AllByRecursion}
use Rattle.ipdl_base.specs.declared.kinds.Reason.TheVariants.{ChannelClosed}
use Rattle.ipdl_base.specs.declared.kinds.Side.{Side}
use Rattle.ipdl_base.specs.declared.schema.Schema.{Schema}
use Rattle.nesting_core.specs.declared.frame.Answer.{Answer}
use Rattle.nesting_core.specs.declared.frame.Answer.TheVariants as answer
use Rattle.nesting_core.specs.declared.frame.StackFrame.{StackFrame}
use Rattle.nesting_core.specs.declared.frame.StackFrame.TheVariants.{Dispatch, Wait}
use Rattle.history_reading.specs.EndReading.{EndReading}
use Rattle.history_reading.specs.Numbers.{has}
use Rattle.history_reading.specs.SentPacket.{ReplyContent, ok, fault}
use Rattle.channel_model.specs.Ends.{End, Packet, message, mark, StackEntry}
use Rattle.ipdl_base.specs.Sides.{other}
use Rattle.channel_laws.specs.Notes.{Note, says, told_notes, body_note, In}
use Rattle.channel_laws.specs.Origins.{IsRequested}

-- the content of the reply to a sync request
abbrev pub answer_content : Answer → ReplyContent
answer_content (answer.Ok vs) = ok vs
answer_content (answer.Fault r) = fault r

-- An answer to a call was sent by the other end, or it is the fault by which the call failed.
pub data IsGiven (sent : List Note) (failed : List ℤ) (seq : ℤ) : Answer → Type 0 where
  was_said : {a : Answer} → In (says seq (answer_content a)) sent → IsGiven sent failed seq a
  has_failed : has failed seq ≡ true → IsGiven sent failed seq (answer.Fault ChannelClosed)

-- the answer of a wait was given
abbrev pub FrameIsGiven : List Note → List ℤ → StackFrame → Type 0
FrameIsGiven sent failed (Dispatch head) = Unit {0}
FrameIsGiven sent failed (Wait head None) = Unit {0}
FrameIsGiven sent failed (Wait head (Some a)) = IsGiven sent failed head.seq a

-- a wait is of a request that the end itself has sent
abbrev pub FrameIsOwn : List Note → StackEntry → StackFrame → Type 0
FrameIsOwn own entry (Dispatch head) = Unit {0}
FrameIsOwn own entry (Wait head a) = IsRequested own head.seq entry.route entry.number

-- a packet on the link was sent by the other end
abbrev pub PacketIsSent : Schema → List Note → Packet → Type 0
PacketIsSent schema sent (message m) = In (body_note schema m m.body) sent
PacketIsSent schema sent mark = Unit {0}

-- Each wait is for a request of the end, and its answer was given.
pub record HasAnswers (sent own : List Note) (failed : List ℤ) (e : End) : Type 0 where
  pub given : AllByRecursion (λ entry. FrameIsGiven sent failed entry.frame) e.stack
  pub waits : AllByRecursion (λ entry. FrameIsOwn own entry entry.frame) e.stack

-- an end keeps this with its own lines and those of the other end, which is on this side
abbrev pub KeepsAnswers : Side → EndReading → End → EndReading → Type 0
KeepsAnswers side others e own = HasAnswers (told_notes side others.sent) (told_notes (other side) own.sent) own.failed e
