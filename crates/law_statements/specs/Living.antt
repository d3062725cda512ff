-- The statement of the law Living: what is sent, taken and dropped agrees with the actors that live, and no actor is
-- built twice.
use Rattle.std.specs.Prelude.{◌≡◌, ◌⊎◌, ℕ, ℤ, false, IsTrue, List, ◌∷◌, ◌++◌, Some, option_and_then}
use Rattle.ipdl_base.specs.declared.kinds.Side.{Side}
use Rattle.ipdl_base.specs.declared.line.Line.{Line}
use Rattle.ipdl_base.specs.declared.line.What.TheVariants as what
use Rattle.ipdl_base.specs.declared.schema.Schema.{Schema}
use Rattle.ipdl_base.specs.declared.value.Values.{Values}
use Rattle.ipdl_base.specs.Signatures.{params_of}
use Rattle.history_reading.specs.EndReading.{was_built}
use Rattle.history_reading.specs.Nulled.{all_live, missing}
use Rattle.history_reading.specs.SentPacket.{Request, request_of}
use Rattle.ipdl_base.specs.Sides.{other}
use Rattle.law_statements.specs.Said.{last_event, line_of, said_by}
use Rattle.law_statements.specs.Packets.{sent}
use Rattle.law_statements.specs.Actors.{built, lives, made_in}

-- an actor is the first in the values of the other end's request that does not live and whose type is not nullable
abbrev pub IsFirstMissing : Schema → Side → List Line → ℤ → ℤ → Type 0
IsFirstMissing schema end before n id =
    (r : Request) × (request_of (sent schema (said_by (other end) before)) n ≡ Some r) × (missing schema (lives (said_by end before)) (params_of schema r.number) r.values ≡ Some id)

pub record Living (schema : Schema) (lines : List Line) : Type 0 where
  -- a request is sent to an actor that lives
  pub sends : (end : Side) (n route : ℤ) (number : ℕ) (values : Values) (before following : List Line) → lines ≡ before ++ line_of end (what.Send n route number values) ∷ following
      → IsTrue (lives (said_by end before) route)
  pub calls : (end : Side) (n transaction route : ℤ) (number : ℕ) (values : Values) (before following : List Line) → lines ≡ before ++ line_of end (what.Call n transaction route number values) ∷ following
      → IsTrue (lives (said_by end before) route)
  -- a request is taken by an actor that lives, and each actor in its values is null or lives
  pub takes : (end : Side) (n route : ℤ) (number : ℕ) (values : Values) (before following : List Line) → lines ≡ before ++ line_of end (what.Take n route number values) ∷ following
      → IsTrue (lives (said_by end before) route) × IsTrue (all_live schema (lives (said_by end before)) (params_of schema number) values)
  -- a request is dropped for an actor that does not live: its own, or, where that lives, the first missing one in its
  -- values
  pub drops : (end : Side) (n route : ℤ) (number : ℕ) (id : ℤ) (before following : List Line) → lines ≡ before ++ line_of end (what.Drop n route number id) ∷ following
      → (lives (said_by end before) id ≡ false) × ((id ≡ route) ⊎ (IsTrue (lives (said_by end before) route) × IsFirstMissing schema end before n id))
  -- an actor is built for the first time, and is the one that the last event makes
  pub builds : (end : Side) (id : ℤ) (protocol : ℕ) (before following : List Line) → lines ≡ before ++ line_of end (what.Built id protocol) ∷ following
      → (was_built (built (said_by end before)) id ≡ false) × (option_and_then (made_in schema end before) (last_event (said_by end before)) ≡ Some id)
