-- The law of one end, on its lines and on the packets that were delivered to it, in order: what it settles and
-- continues with results from these packets, from falls and from closings.
use Rattle.std.specs.Prelude.{◌≡◌, ◌⊎◌, ℕ, ℤ, false, IsTrue, List, ◌∷◌, ◌++◌, map, Contains, Some}
use Rattle.std.specs.Option.{option_map_or}
use Rattle.ipdl_base.specs.declared.kinds.Reason.{Reason}
use Rattle.ipdl_base.specs.declared.kinds.Reason.TheVariants as reason
use Rattle.ipdl_base.specs.declared.kinds.Side.{Side}
use Rattle.ipdl_base.specs.declared.line.Line.{Line}
use Rattle.ipdl_base.specs.declared.line.What.TheVariants as what
use Rattle.ipdl_base.specs.declared.schema.Schema.{Schema}
use Rattle.ipdl_base.specs.declared.value.Values.{Values}
use Rattle.nesting_core.specs.declared.frame.Answer.TheVariants as answer
use Rattle.channel_model.specs.Ends.{Packet}
use Rattle.channel_laws.specs.Delivered.{delivered_kind}
use Rattle.history_reading.specs.Numbers.{has}
use Rattle.history_reading.specs.SentPacket.{Request, request, request_of}
use Rattle.law_statements.specs.Packets.{delivered, failed, has_closed, is_closing, sent, settled}
use Rattle.law_statements.specs.Said.{is_moment, last_event, line_of, said_by}
use Rattle.law_statements.specs.Settled.{FallsNext, IsPending}
use Rattle.alone_laws.specs.Received.{HasReceived}

-- a rejection has its cause: a fault that was delivered, the fall of the promise's actor, or a closing
abbrev pub HasReason : Schema → ℕ → Side → List Line → List Line → List Packet → Request → Reason → Type 0
HasReason schema top end before following packets r reason.HandlerRejected = HasReceived schema top (said_by end before) packets r.seq r.number (answer.Fault reason.HandlerRejected)
HasReason schema top end before following packets r reason.ResolverDestroyed = HasReceived schema top (said_by end before) packets r.seq r.number (answer.Fault reason.ResolverDestroyed)
HasReason schema top end before following packets r reason.ActorDestroyed =
    HasReceived schema top (said_by end before) packets r.seq r.number (answer.Fault reason.ActorDestroyed) ⊎ FallsNext end r.route following
HasReason schema top end before following packets r reason.ChannelClosed = IsTrue (option_map_or is_closing (last_event (said_by end before)) false)

pub record Alone (schema : Schema) (top : ℕ) (end : Side) (lines : List Line) (packets : List Packet) : Type 0 where
  -- the lines of deliveries show the packets
  pub deliveries : delivered (said_by end lines) ≡ map delivered_kind packets
  -- a promise is settled for the first time, with values that it received
  pub resolves : (n : ℤ) (values : Values) (before following : List Line) → lines ≡ before ++ line_of end (what.Resolved n values) ∷ following
      → (r : Request) × IsPending schema (said_by end before) n r × HasReceived schema top (said_by end before) packets r.seq r.number (answer.Ok values)
  -- or it is rejected for a reason that has its cause
  pub rejects : (n : ℤ) (why : Reason) (before following : List Line) → lines ≡ before ++ line_of end (what.Rejected n why) ∷ following
      → (r : Request) × IsPending schema (said_by end before) n r × HasReason schema top end before following packets r why
  -- at each moment an end that has closed has settled all its promises
  pub closings : (r : Request) (before following : List Line) → lines ≡ before ++ following → IsTrue (is_moment following) → IsTrue (has_closed (said_by end before))
      → Contains (sent schema (said_by end before)) (request r) → IsTrue r.wants → IsTrue (has (settled (said_by end before)) r.seq)
  -- a call continues with values that it received
  pub answers : (n : ℤ) (values : Values) (before following : List Line) → lines ≡ before ++ line_of end (what.ResumeOk n values) ∷ following
      → (r : Request) × (request_of (sent schema (said_by end before)) n ≡ Some r) × HasReceived schema top (said_by end before) packets n r.number (answer.Ok values)
  -- or it continues with a fault that it received, or because the channel has ended
  pub faults : (n : ℤ) (why : Reason) (before following : List Line) → lines ≡ before ++ line_of end (what.ResumeFault n why) ∷ following
      → ((r : Request) × (request_of (sent schema (said_by end before)) n ≡ Some r) × HasReceived schema top (said_by end before) packets n r.number (answer.Fault why))
      ⊎ ((why ≡ reason.ChannelClosed) × IsTrue (has (failed (said_by end before)) n))
