-- The answers that an end owes to the requests of the other end, by the lines of both.
use Rattle.std.specs.Prelude.{◌≡◌, ◌≢◌, ℤ, false, IsTrue, List, ◌∷◌, ◌++◌, Contains, Some}
use Rattle.ipdl_base.specs.declared.kinds.Reason.TheVariants as reason
use Rattle.ipdl_base.specs.declared.kinds.Side.{Side}
use Rattle.ipdl_base.specs.declared.line.Line.{Line}
use Rattle.ipdl_base.specs.declared.line.What.{What}
use Rattle.ipdl_base.specs.declared.line.What.TheVariants as what
use Rattle.ipdl_base.specs.declared.schema.Schema.{Schema}
use Rattle.history_reading.specs.declared.parts.PacketKind.TheVariants as seen
use Rattle.history_reading.specs.Numbers.{has, has_packet}
use Rattle.history_reading.specs.SentPacket.{Request, request_of}
use Rattle.law_statements.specs.Packets.{delivered, sent, settled}
use Rattle.ipdl_base.specs.Sides.{other as other_end}
use Rattle.law_statements.specs.Said.{last_event, line_of, said_by}
use Rattle.order_statements.specs.Effects.{fault_due}
use Rattle.order_statements.specs.Shape.{HasEffects, answered, is_open_by, number_answered, owes_reply}

-- A request of the other end may be answered: the end is open, and the request needs a reply, was delivered in an
-- earlier event, and was not answered before.
pub record MayAnswer (schema : Schema) (own other : List What) (n : ℤ) : Type 0 where
  pub opened : IsTrue (is_open_by own)
  pub asked : Request
  pub sent : request_of (sent schema other) n ≡ Some asked
  pub owes : IsTrue (owes_reply schema asked.number)
  pub delivered : IsTrue (has_packet (delivered own) (seen.Request n))
  pub earlier : last_event own ≢ Some (what.DeliverRequest n)
  pub first : has (answered own) n ≡ false

pub record Answers (schema : Schema) (lines : List Line) : Type 0 where
  -- a request that is answered may be answered; so no request is answered twice
  pub answers : (end : Side) (w : What) (n : ℤ) (before following : List Line) → lines ≡ before ++ line_of end w ∷ following → number_answered w ≡ Some n
      → MayAnswer schema (said_by end before) (said_by (other_end end) before) n
  -- a request that is replaced is answered where it makes a promise, and nothing else happens
  pub replaced : (end : Side) (n : ℤ) (before following : List Line) → lines ≡ before ++ line_of end (what.Replaced n) ∷ following
      → (asked : Request) × (request_of (sent schema (said_by (other_end end) before)) n ≡ Some asked) × HasEffects end (fault_due asked.wants n reason.ResolverDestroyed) following
  -- a reply that is taken too late is for a promise that was rejected because an actor fell
  pub late : (end : Side) (n : ℤ) (before following : List Line) → lines ≡ before ++ line_of end (what.TakeReply n) ∷ following → IsTrue (has (settled (said_by end before)) n)
      → Contains (said_by end before) (what.Rejected n reason.ActorDestroyed)
