-- What is left where only acts are possible, by the lines of a history.
use Rattle.std.specs.Prelude.{◌≡◌, ◌⊎◌, ℤ, false, IsTrue, List, [], ◌++◌, map, Some}
use Rattle.ipdl_base.specs.declared.kinds.EndState.TheVariants as state
use Rattle.ipdl_base.specs.declared.kinds.Side.{Side}
use Rattle.ipdl_base.specs.declared.line.Line.{Line}
use Rattle.ipdl_base.specs.declared.schema.Schema.{Schema}
use Rattle.history_reading.specs.declared.parts.PacketKind.{PacketKind}
use Rattle.history_reading.specs.Numbers.{has}
use Rattle.history_reading.specs.SentPacket.{Request, packet_kind, request_of}
use Rattle.law_statements.specs.Arrived.{IsArrived, state_of}
use Rattle.law_statements.specs.Packets.{delivered, sent, settled}
use Rattle.ipdl_base.specs.Sides.{other}
use Rattle.law_statements.specs.Said.{is_moment, said_by}
use Rattle.law_statements.specs.Stack.{stack}
use Rattle.law_statements.specs.Waits.{IsStillAt}
use Rattle.order_statements.specs.Shape.{answered}

-- Nothing is left at an open end, nor on the link toward it.
pub record NothingIsLeft (schema : Schema) (end : Side) (before : List Line) : Type 0 where
  -- all that the other end has sent was delivered
  pub delivered : delivered (said_by end before) ≡ map packet_kind (sent schema (said_by (other end) before))
  -- no packet that has arrived waits
  pub waiting : (packet : PacketKind) → IsArrived schema (said_by end before) packet → ⊥
  -- no handler runs, and no call waits or continues
  pub stack : stack schema end before ≡ []
  -- the other end has not answered a request whose promise is not settled
  pub promises : (n : ℤ) (r : Request) → request_of (sent schema (said_by end before)) n ≡ Some r → IsTrue r.wants → has (settled (said_by end before)) n ≡ false → has (answered (said_by (other end) before)) n ≡ false

-- an end is closed or dead
abbrev pub HasEnded : Side → List Line → Type 0
HasEnded end before = (state_of (said_by end before) ≡ state.Closed) ⊎ (state_of (said_by end before) ≡ state.Dead)

-- Both ends are open, with nothing left at either; or both have ended, with nothing on their stacks.
pub data RestsAt (schema : Schema) (before : List Line) : Type 0 where
  both_rest : ((end : Side) → state_of (said_by end before) ≡ state.Open) → ((end : Side) → NothingIsLeft schema end before) → RestsAt schema before
  both_ended : ((end : Side) → HasEnded end before) → ((end : Side) → stack schema end before ≡ []) → RestsAt schema before

pub record Rest (schema : Schema) (lines : List Line) : Type 0 where
  -- at each moment where only acts are possible, both ends rest
  pub rests : (before following : List Line) → lines ≡ before ++ following → IsTrue (is_moment following) → ((end : Side) → IsStillAt schema end before) → RestsAt schema before
