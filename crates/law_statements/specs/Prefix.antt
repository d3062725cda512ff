-- The statement of the law Prefix: what is delivered was sent, in order, and what is taken was delivered, once.
use Rattle.std.specs.Prelude.{◌≡◌, ℕ, ℤ, false, IsTrue, List, ◌∷◌, ◌++◌, map, Some}
use Rattle.ipdl_base.specs.declared.kinds.Side.{Side}
use Rattle.ipdl_base.specs.declared.line.Line.{Line}
use Rattle.ipdl_base.specs.declared.line.What.{What}
use Rattle.ipdl_base.specs.declared.line.What.TheVariants as what
use Rattle.ipdl_base.specs.declared.schema.Schema.{Schema}
use Rattle.ipdl_base.specs.declared.value.Values.{Values}
use Rattle.ipdl_base.specs.Signatures.{params_of}
use Rattle.history_reading.specs.declared.parts.PacketKind.TheVariants as seen
use Rattle.history_reading.specs.Nulled.{is_nulled}
use Rattle.history_reading.specs.Numbers.{has, has_packet}
use Rattle.history_reading.specs.SentPacket.{Request, packet_kind, request_of}
use Rattle.ipdl_base.specs.Sides.{other as other_end}
use Rattle.law_statements.specs.Said.{line_of, said_by}
use Rattle.law_statements.specs.Packets.{delivered, gone, replaced, replies, sent}
use Rattle.law_statements.specs.Actors.{lives}

-- a list is a prefix of another
abbrev pub IsPrefix : {A : Type 0} → List A → List A → Type 0
IsPrefix {A} xs ys = (rest : List A) × (ys ≡ xs ++ rest)

-- what was delivered to an end at a place is a prefix of what the other end has sent
abbrev pub DeliversWhatWasSent : Schema → Side → List Line → Type 0
DeliversWhatWasSent schema end before = IsPrefix (delivered (said_by end before)) (map packet_kind (sent schema (said_by (other_end end) before)))

-- a request was delivered, and has neither been replaced nor taken or dropped
pub record IsUntaken (own : List What) (n : ℤ) : Type 0 where
  pub delivered : IsTrue (has_packet (delivered own) (seen.Request n))
  pub kept : has (replaced own) n ≡ false
  pub first : has (gone own) n ≡ false

-- the other end's request of a number goes to this actor, and is of this message
pub record WasSent (schema : Schema) (other : List What) (n id : ℤ) (message : ℕ) (r : Request) : Type 0 where
  pub is : request_of (sent schema other) n ≡ Some r
  pub route : r.route ≡ id
  pub number : r.number ≡ message

-- the request has these values, with null for actors that do not live where their type is nullable
pub record WasSentWith (schema : Schema) (own other : List What) (n id : ℤ) (message : ℕ) (values : Values) (r : Request) : Type 0 where
  pub sent : WasSent schema other n id message r
  pub nulled : IsTrue (is_nulled schema (lives own) (params_of schema message) r.values values)

pub record Prefix (schema : Schema) (lines : List Line) : Type 0 where
  -- at each place what was delivered to an end is a prefix of what the other end has sent
  pub prefixes : (end : Side) (before following : List Line) → lines ≡ before ++ following → DeliversWhatWasSent schema end before
  -- a request that is taken is untaken, and is the other end's request of its number, with these values
  pub takes : (end : Side) (n route : ℤ) (number : ℕ) (values : Values) (before following : List Line) → lines ≡ before ++ line_of end (what.Take n route number values) ∷ following
      → IsUntaken (said_by end before) n × ((r : Request) × WasSentWith schema (said_by end before) (said_by (other_end end) before) n route number values r)
  -- the same for a request that is dropped, whatever its values
  pub drops : (end : Side) (n route : ℤ) (number : ℕ) (id : ℤ) (before following : List Line) → lines ≡ before ++ line_of end (what.Drop n route number id) ∷ following
      → IsUntaken (said_by end before) n × ((r : Request) × WasSent schema (said_by (other_end end) before) n route number r)
  -- a reply that is taken was delivered, and was not taken before
  pub replies : (end : Side) (n : ℤ) (before following : List Line) → lines ≡ before ++ line_of end (what.TakeReply n) ∷ following
      → IsTrue (has_packet (delivered (said_by end before)) (seen.Reply n)) × (has (replies (said_by end before)) n ≡ false)
