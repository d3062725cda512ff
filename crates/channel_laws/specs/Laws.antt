-- No end waits for ever: what follows for every sound schema, in every run.
use Rattle.std.specs.Prelude.{◌≡◌, ℕ, ◌+◌, ℤ, Bool, true, false, List, ◌∷◌, ◌++◌, map, find, Option, Some, None, option_map}
use Rattle.std.specs.List.{AllByRecursion, list_any}
use Rattle.std.specs.Ordering.{int_eq}
use Rattle.ipdl_base.specs.declared.kinds.EndState.TheVariants.{Open, Draining}
use Rattle.ipdl_base.specs.declared.kinds.Side.{Side}
use Rattle.ipdl_base.specs.declared.kinds.Side.TheVariants.{Parent, Child}
use Rattle.ipdl_base.specs.declared.line.What.{What}
use Rattle.ipdl_base.specs.declared.line.What.TheVariants as what
use Rattle.ipdl_base.specs.declared.message.Body.{Body}
use Rattle.ipdl_base.specs.declared.message.Body.TheVariants.{Request, Reply, Fault, Goodbye}
use Rattle.ipdl_base.specs.declared.message.Message.{Message}
use Rattle.ipdl_base.specs.declared.schema.Schema.{Schema}
use Rattle.ipdl_base.specs.Sound.{IsSound}
use Rattle.nesting_core.specs.declared.frame.Head.{Head}
use Rattle.nesting_core.specs.declared.frame.StackTop.TheVariants.{Unanswered}
use Rattle.nesting_core.specs.Answers.{awaited}
use Rattle.nesting_core.specs.Deferral.{Defers}
use Rattle.nesting_core.specs.Frames.{head_of, is_unanswered}
use Rattle.nesting_core.specs.Top.{top_of}
use Rattle.nesting_laws.specs.Calls.{ReplyHead}
use Rattle.channel_model.specs.Deliveries.{unanswered, failed}
use Rattle.channel_model.specs.Ends.{End, World, StackEntry, Packet, message, mark, end_of, link_to, opening}
use Rattle.channel_model.specs.Events.{Move}
use Rattle.channel_model.specs.Events as event
use Rattle.ipdl_base.specs.Sides.{other}
use Rattle.channel_model.specs.Outputs.{Output, is_open, line_at}
use Rattle.channel_model.specs.Refusals.{is_waited_for}
use Rattle.channel_model.specs.Runs.{happens, run, is_still}
use Rattle.channel_model.specs.Sends.{frames_of}
use Rattle.channel_model.specs.States.{IsAnswered}
use Rattle.channel_model.specs.Steps.{step}
use Rattle.channel_laws.specs.NestedWorlds.{is_last_packet, HasNoLastPacket, EndsInLastPacket, IsNestedWorld}
use Rattle.channel_laws.specs.Rows.{HasSoundRows}
use Rattle.channel_laws.specs.SyncCalls.{is_sync_number, reply_head}

-- Each request of a sound schema has a sound row.
abbrev pub SoundSchemasHaveSoundRows : Type 0
SoundSchemasHaveSoundRows = (schema : Schema) → IsSound schema → HasSoundRows schema

-- Both ends are nested at the beginning, and every move, possible or not, keeps a world nested.
pub record NestedWorldsStay : Type 0 where
  pub opening : (schema : Schema) (top : ℕ) → IsNestedWorld schema (opening top)
  pub stays : (schema : Schema) → IsSound schema → (move : Move) (w : World) → IsNestedWorld schema w → IsNestedWorld schema (happens schema w move).world

-- the world after moves from the opening world of a top protocol
abbrev pub world_of : Schema → ℕ → List Move → World
world_of schema top moves = (run schema moves (opening top)).world

-- The world after any moves is nested.
abbrev pub NestingInEveryRun : Type 0
NestingInEveryRun = (schema : Schema) → IsSound schema → (top : ℕ) (moves : List Move) → IsNestedWorld schema (world_of schema top moves)

-- the body of a reply
abbrev pub IsReply : Body → Type 0
IsReply (Request vs) = ⊥
IsReply (Reply vs) = Unit {0}
IsReply (Fault reason) = Unit {0}
IsReply Goodbye = ⊥

-- the reply that the innermost unanswered wait waits for: its number, its actor and its message
abbrev pub awaited_reply : List StackEntry → Option ReplyHead
awaited_reply stack = option_map (λ entry. record { seq = (head_of entry.frame).seq; route = entry.route; number = entry.number + 1 }) (find (λ entry. is_unanswered entry.frame) stack)

-- A reply to a sync request that is first on the link toward an open end is the one that the innermost unanswered
-- wait waits for there, even if the other end has closed or died.
abbrev pub RepliesFindTheirWaits : Type 0
RepliesFindTheirWaits =
    (schema : Schema) → IsSound schema → (top : ℕ) (moves : List Move) (side : Side) (m : Message) (rest : List Packet)
    → (end_of side (world_of schema top moves)).state ≡ Open → link_to side (world_of schema top moves) ≡ message m ∷ rest → IsReply m.body → is_sync_number schema m.number ≡ true
    → awaited_reply (end_of side (world_of schema top moves)).stack ≡ Some (reply_head m)

-- An open end refuses no such reply as stray.
abbrev pub SyncRepliesAreNotStray : Type 0
SyncRepliesAreNotStray =
    (schema : Schema) → IsSound schema → (top : ℕ) (moves : List Move) (side : Side) (m : Message) (rest : List Packet)
    → (end_of side (world_of schema top moves)).state ≡ Open → link_to side (world_of schema top moves) ≡ message m ∷ rest → IsReply m.body → is_sync_number schema m.number ≡ true
    → is_waited_for (end_of side (world_of schema top moves)) m ≡ true

-- the line of the delivery of a last packet
abbrev pub last_packet_line : Packet → What
last_packet_line (message m) = what.DeliverGoodbye
last_packet_line mark = what.DeliverBroken

-- All waits of an end fail, the innermost first: each unanswered wait has its line and the fault `ChannelClosed`, and
-- no wait is left unanswered.
pub record AllWaitsFail (packet : Packet) (e : End) (output : Output) : Type 0 where
  pub lines : output.lines ≡ line_at e.side (last_packet_line packet) ∷ map (line_at e.side) (map what.Fails (unanswered e))
  pub frames : frames_of output.end ≡ map failed (frames_of e)
  pub nobody : AllByRecursion IsAnswered (frames_of output.end)

-- A goodbye or a mark that is delivered fails all waits.
abbrev pub LastPacketsFailAllWaits : Type 0
LastPacketsFailAllWaits =
    (schema : Schema) (e : End) (packet : Packet) (rest : List Packet) (output : Output)
    → is_last_packet packet ≡ true → step schema e (packet ∷ rest) event.deliver ≡ Some output → AllWaitsFail packet e output

-- Where nothing can happen by itself, no end waits for a reply.
abbrev pub StillEndsWaitForNothing : Type 0
StillEndsWaitForNothing =
    (schema : Schema) → IsSound schema → (top : ℕ) (moves : List Move) (side : Side) → is_still schema (world_of schema top moves) ≡ true
    → awaited (frames_of (end_of side (world_of schema top moves))) ≡ None

-- whether an end waits for the answer to the request of a number
abbrev pub waits_for : Side → ℤ → World → Bool
waits_for side seq w = list_any (λ n. int_eq n seq) (unanswered (end_of side w))

-- One of these moves, made from a given world, ends the wait for a number: the wait is there before that move, and
-- not after it.
pub record EndsWait (schema : Schema) (side : Side) (seq : ℤ) (w : World) (moves : List Move) : Type 0 where
  pub before : List Move
  pub move : Move
  pub following : List Move
  pub whole : moves ≡ before ++ move ∷ following
  pub stands : waits_for side seq (run schema before w).world ≡ true
  pub gone : waits_for side seq (happens schema (run schema before w).world move).world ≡ false

-- A history that becomes still leaves no end waiting: after moves that lead to a still world each wait that is left
-- has its answer. So each wait that is there after some of these moves is ended by one of the others. And as long as
-- a wait has no answer, something can happen by itself.
pub record StillHistoriesLeaveNoEndWaiting : Type 0 where
  pub answered : (schema : Schema) → IsSound schema → (top : ℕ) (moves : List Move) (side : Side) → is_still schema (world_of schema top moves) ≡ true → AllByRecursion IsAnswered (frames_of (end_of side (world_of schema top moves)))
  pub ended : (schema : Schema) → IsSound schema → (top : ℕ) (front back : List Move) (side : Side) (seq : ℤ) → waits_for side seq (world_of schema top front) ≡ true → is_still schema (world_of schema top (front ++ back)) ≡ true → EndsWait schema side seq (world_of schema top front) back
  pub goes_on : (schema : Schema) → IsSound schema → (top : ℕ) (moves : List Move) (side : Side) (seq : ℤ) → awaited (frames_of (end_of side (world_of schema top moves))) ≡ Some seq → is_still schema (world_of schema top moves) ≡ false

-- Two waits without an answer, each on top at its end, do not defer each other's request.
abbrev pub WaitsGiveWay : Type 0
WaitsGiveWay =
    (schema : Schema) → IsSound schema → (top : ℕ) (moves : List Move) (w v : Head)
    → top_of (frames_of (end_of Parent (world_of schema top moves))) ≡ Unanswered w → top_of (frames_of (end_of Child (world_of schema top moves))) ≡ Unanswered v
    → Defers Parent (frames_of (end_of Parent (world_of schema top moves))) v → Defers Child (frames_of (end_of Child (world_of schema top moves))) w → ⊥

-- What an open end may rely on: the other end is not draining. If the other end is open, no goodbye and no mark is on
-- the link from it; if it has closed or died, its last packet is on the link, last and alone.
pub record EndsAreRecorded (w : World) (side : Side) : Type 0 where
  pub told : (end_of (other side) w).state ≡ Draining → ⊥
  pub goes_on : (end_of (other side) w).state ≡ Open → HasNoLastPacket (link_to side w)
  pub ends : is_open (end_of (other side) w).state ≡ false → EndsInLastPacket (link_to side w)

-- In every run an open end may rely on this.
abbrev pub EndsAreRecordedInRuns : Type 0
EndsAreRecordedInRuns = (schema : Schema) → IsSound schema → (top : ℕ) (moves : List Move) (side : Side) → (end_of side (world_of schema top moves)).state ≡ Open → EndsAreRecorded (world_of schema top moves) side
