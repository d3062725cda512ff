-- The statement of the law Waits: waits end in order and with what was sent, and two waits never block each other.
use Rattle.std.specs.Prelude.{◌≡◌, ◌⊎◌, ◌≤◌, ℤ, Bool, true, false, IsTrue, List, [], ◌∷◌, ◌++◌, length, filter_map, Contains, Option, Some, is_some, option_and_then}
use Rattle.std.specs.List.{slice_get}
use Rattle.std.specs.Option.{option_map_or}
use Rattle.ipdl_base.specs.declared.kinds.EndState.TheVariants as state
use Rattle.ipdl_base.specs.declared.kinds.Reason.{Reason}
use Rattle.ipdl_base.specs.declared.kinds.Reason.TheVariants as reason
use Rattle.ipdl_base.specs.declared.kinds.Side.{Side}
use Rattle.ipdl_base.specs.declared.kinds.Side.TheVariants as side
use Rattle.ipdl_base.specs.declared.line.Line.{Line}
use Rattle.ipdl_base.specs.declared.line.What.{What}
use Rattle.ipdl_base.specs.declared.line.What.TheVariants as what
use Rattle.ipdl_base.specs.declared.schema.ParamRow.{ParamRow}
use Rattle.ipdl_base.specs.declared.schema.Schema.{Schema}
use Rattle.ipdl_base.specs.declared.value.Values.{Values}
use Rattle.ipdl_base.specs.Deferral.{goodbye, mark, reply}
use Rattle.ipdl_base.specs.Signatures.{returns_of}
use Rattle.nesting_core.specs.declared.frame.Head.{Head}
use Rattle.history_reading.specs.declared.parts.CallFrame.{CallFrame}
use Rattle.history_reading.specs.declared.parts.CallFrame.TheVariants as frame
use Rattle.history_reading.specs.declared.parts.PacketKind.{PacketKind}
use Rattle.history_reading.specs.declared.parts.PacketKind.TheVariants as seen
use Rattle.history_reading.specs.EndReading.{awaited, has_unanswered}
use Rattle.history_reading.specs.Nulled.{is_nulled, missing}
use Rattle.history_reading.specs.Numbers.{has}
use Rattle.history_reading.specs.SentPacket.{fault, ok, request_of, said}
use Rattle.history_reading.specs.Still.{DeferralState, awaited_head, awaited_level, call_head, can_take_now, defers, defers_request_head, head_of, inner_of_head, takes_items}
use Rattle.ipdl_base.specs.Sides.{other as other_end}
use Rattle.law_statements.specs.Said.{is_moment, last_event, line_of, said_by}
use Rattle.law_statements.specs.Packets.{delivered, failed, sent}
use Rattle.law_statements.specs.Actors.{lives}
use Rattle.law_statements.specs.Stack.{is_sync_of, stack}
use Rattle.law_statements.specs.Arrived.{IsArrived, state_of}

-- whether the last event is the delivery of the other end's last packet
abbrev pub ends_channel : What → Bool
ends_channel what.DeliverGoodbye = true
ends_channel what.DeliverBroken = true
ends_channel _ = false

abbrev pub has_just_ended : List What → Bool
has_just_ended own = option_map_or ends_channel (last_event own) false

-- the returns of an end's request of a number
abbrev pub returns_for : Schema → List What → ℤ → List ParamRow
returns_for schema own n = option_map_or (λ r. returns_of schema r.number) (request_of (sent schema own) n) []

-- the other end has answered a call with these values, except that dead actors are null; or with values in which an
-- actor is missing; or with a fault
abbrev pub HasAnswered : Schema → List What → List What → ℤ → Values → Type 0
HasAnswered schema own other n values = (given : Values) × Contains (sent schema other) (said n (ok given)) × IsTrue (is_nulled schema (lives own) (returns_for schema own n) given values)

abbrev pub HasAnsweredMissing : Schema → List What → List What → ℤ → Type 0
HasAnsweredMissing schema own other n = (given : Values) × Contains (sent schema other) (said n (ok given)) × IsTrue (is_some (missing schema (lives own) (returns_for schema own n) given))

abbrev pub HasFault : Schema → List What → List What → ℤ → Reason → Type 0
HasFault schema own other n why =
    Contains (sent schema other) (said n (fault why))
    ⊎ (((why ≡ reason.ChannelClosed) × IsTrue (has (failed own) n)) ⊎ ((why ≡ reason.ActorDestroyed) × HasAnsweredMissing schema own other n))

-- the head of a frame: for a wait from its own line, for a dispatch from the request of the other end
abbrev pub sent_head : Schema → List What → ℤ → Option Head
sent_head schema other n = option_and_then (λ r. head_of schema r.number n r.transaction) (request_of (sent schema other) n)

abbrev pub head_in : Schema → List What → CallFrame → Option Head
head_in schema other (frame.Dispatch d) = sent_head schema other d.seq
head_in schema other (frame.Unanswered c) = call_head schema c
head_in schema other (frame.Answered c) = call_head schema c

-- the transaction of the innermost frame of a sync message of level inside_sync
abbrev pub inner_of : Schema → List What → List CallFrame → Option ℤ
inner_of schema other stack = slice_get (filter_map (λ f. option_and_then inner_of_head (head_in schema other f)) stack) 0

-- what decides what an end defers
abbrev pub deferral : Schema → Side → List Line → DeferralState
deferral schema end lines = record { side = end; level = awaited_level schema (stack schema end lines); inner = inner_of schema (said_by (other_end end) lines) (stack schema end lines) }

abbrev pub defers_kind : Schema → Side → List Line → PacketKind → Bool
defers_kind schema end lines (seen.Request n) = defers_request_head (deferral schema end lines) (sent_head schema (said_by (other_end end) lines) n)
defers_kind schema end lines (seen.Reply n) = defers (deferral schema end lines) (reply false)
defers_kind schema end lines seen.Goodbye = defers (deferral schema end lines) goodbye
defers_kind schema end lines seen.Broken = defers (deferral schema end lines) mark

-- an end defers the call for which the other end waits
abbrev pub Blocks : Schema → Side → List Line → Type 0
Blocks schema end lines = IsTrue (defers_request_head (deferral schema end lines) (awaited_head schema (stack schema (other_end end) lines)))

-- only acts are possible at an end: no delivery, no return, no call that continues, and no take
pub record IsStillAt (schema : Schema) (end : Side) (lines : List Line) : Type 0 where
  pub delivered : state_of (said_by end lines) ≡ state.Open → length (sent schema (said_by (other_end end) lines)) ≤ length (delivered (said_by end lines))
  pub waiting : IsTrue (can_take_now (stack schema end lines))
  pub deferred : IsTrue (takes_items (state_of (said_by end lines))) → (packet : PacketKind) → IsArrived schema (said_by end lines) packet → IsTrue (defers_kind schema end lines packet)

-- no call of an end waits for its answer
abbrev pub NoneWaits : Schema → Side → List Line → Type 0
NoneWaits schema end lines = has_unanswered (stack schema end lines) ≡ false

pub record Waits (schema : Schema) (lines : List Line) : Type 0 where
  -- the reply to a sync request finds its wait innermost
  pub replies : (end : Side) (n : ℤ) (before following : List Line) → lines ≡ before ++ line_of end (what.DeliverReply n) ∷ following
      → IsTrue (is_sync_of schema (said_by end before) n) → awaited (stack schema end before) ≡ Some n
  -- a call fails where its wait is innermost and the other end's last packet has just been delivered
  pub fails : (end : Side) (n : ℤ) (before following : List Line) → lines ≡ before ++ line_of end (what.Fails n) ∷ following
      → (awaited (stack schema end before) ≡ Some n) × IsTrue (has_just_ended (said_by end before))
  -- a call continues with values that the other end has answered
  pub answers : (end : Side) (n : ℤ) (values : Values) (before following : List Line) → lines ≡ before ++ line_of end (what.ResumeOk n values) ∷ following
      → HasAnswered schema (said_by end before) (said_by (other_end end) before) n values
  -- or with a fault that the other end has sent, or that arises at this end
  pub faults : (end : Side) (n : ℤ) (why : Reason) (before following : List Line) → lines ≡ before ++ line_of end (what.ResumeFault n why) ∷ following
      → HasFault schema (said_by end before) (said_by (other_end end) before) n why
  -- at no moment does each end defer the call for which the other waits
  pub no_block : (before following : List Line) → lines ≡ before ++ following → IsTrue (is_moment following) → Blocks schema side.Parent before → Blocks schema side.Child before → IsTrue false
  -- at each moment where the other end's last packet was delivered last, no call waits
  pub ended : (end : Side) (before following : List Line) → lines ≡ before ++ following → IsTrue (is_moment following) → IsTrue (has_just_ended (said_by end before)) → NoneWaits schema end before
  -- at each moment where only acts are possible, no call waits
  pub still : (before following : List Line) → lines ≡ before ++ following → IsTrue (is_moment following) → ((end : Side) → IsStillAt schema end before) → (end : Side) → NoneWaits schema end before
