-- The statement of the law Settled: a promise is settled once, by what the other end sent or by what happened to it.
use Rattle.std.specs.Prelude.{◌≡◌, ◌⊎◌, ℤ, Bool, false, IsTrue, List, ◌∷◌, ◌++◌, Contains, Some, is_some}
use Rattle.std.specs.List.{list_all}
use Rattle.std.specs.Option.{option_map_or}
use Rattle.ipdl_base.specs.declared.kinds.Destroy.{Destroy}
use Rattle.ipdl_base.specs.declared.kinds.Reason.{Reason}
use Rattle.ipdl_base.specs.declared.kinds.Reason.TheVariants as reason
use Rattle.ipdl_base.specs.declared.kinds.Side.{Side}
use Rattle.ipdl_base.specs.declared.line.Line.{Line}
use Rattle.ipdl_base.specs.declared.line.What.{What}
use Rattle.ipdl_base.specs.declared.line.What.TheVariants as what
use Rattle.ipdl_base.specs.declared.schema.Schema.{Schema}
use Rattle.ipdl_base.specs.declared.value.Values.{Values}
use Rattle.ipdl_base.specs.Signatures.{returns_of}
use Rattle.history_reading.specs.Nulled.{is_nulled, missing}
use Rattle.history_reading.specs.Numbers.{has}
use Rattle.history_reading.specs.SentPacket.{Request, ReplyContent, request, said, rejected, resolved, fault, request_of}
use Rattle.ipdl_base.specs.Sides.{other as other_end}
use Rattle.law_statements.specs.Said.{is_moment, last_event, line_of, said_by}
use Rattle.law_statements.specs.Packets.{has_closed, is_closing, number_settled, sent, settled}
use Rattle.law_statements.specs.Actors.{lives}

-- the end has a promise of this number that is not settled
abbrev pub IsPending : Schema → List What → ℤ → Request → Type 0
IsPending schema own n r = (request_of (sent schema own) n ≡ Some r) × IsTrue r.wants × (has (settled own) n ≡ false)

-- the other end has replied to the request of a number with this content
abbrev pub HasSaid : Schema → List What → ℤ → ReplyContent → Type 0
HasSaid schema other n content = Contains (sent schema other) (said n content)

-- the other end has resolved a promise with these values, except that dead actors are null
abbrev pub HasResolved : Schema → List What → List What → ℤ → Request → Values → Type 0
HasResolved schema own other n r values =
    (given : Values) × HasSaid schema other n (resolved given) × IsTrue (is_nulled schema (lives own) (returns_of schema r.number) given values)

-- the other end has resolved a promise with values in which an actor is missing
abbrev pub HasResolvedMissing : Schema → List What → List What → ℤ → Request → Type 0
HasResolvedMissing schema own other n r =
    (given : Values) × HasSaid schema other n (resolved given) × IsTrue (is_some (missing schema (lives own) (returns_of schema r.number) given))

-- after settlings alone the promise's own actor falls
abbrev pub is_settling : Line → Bool
is_settling line = is_some (number_settled line.what)

abbrev pub FallsNext : Side → ℤ → List Line → Type 0
FallsNext end route following =
    (settlings : List Line) × (why : Destroy) × (later : List Line) × (following ≡ settlings ++ line_of end (what.Fall route why) ∷ later) × IsTrue (list_all is_settling settlings)

-- a rejection has its cause
abbrev pub HasCause : Schema → Side → List Line → List Line → ℤ → Request → Reason → Type 0
HasCause schema end before following n r reason.HandlerRejected = HasSaid schema (said_by (other_end end) before) n rejected
HasCause schema end before following n r reason.ResolverDestroyed = HasSaid schema (said_by (other_end end) before) n (fault reason.ResolverDestroyed)
HasCause schema end before following n r reason.ChannelClosed = IsTrue (option_map_or is_closing (last_event (said_by end before)) false)
HasCause schema end before following n r reason.ActorDestroyed =
    HasSaid schema (said_by (other_end end) before) n (fault reason.ActorDestroyed) ⊎ (HasResolvedMissing schema (said_by end before) (said_by (other_end end) before) n r ⊎ FallsNext end r.route following)

pub record Settled (schema : Schema) (lines : List Line) : Type 0 where
  -- a promise that is settled with values is pending, and the other end has resolved it with these values
  pub resolves : (end : Side) (n : ℤ) (values : Values) (before following : List Line) → lines ≡ before ++ line_of end (what.Resolved n values) ∷ following
      → (r : Request) × IsPending schema (said_by end before) n r × HasResolved schema (said_by end before) (said_by (other_end end) before) n r values
  -- a promise that is rejected is pending, and the rejection has its cause
  pub rejects : (end : Side) (n : ℤ) (why : Reason) (before following : List Line) → lines ≡ before ++ line_of end (what.Rejected n why) ∷ following
      → (r : Request) × IsPending schema (said_by end before) n r × HasCause schema end before following n r why
  -- at each moment an end that has closed has settled all its promises
  pub closings : (end : Side) (r : Request) (before following : List Line) → lines ≡ before ++ following → IsTrue (is_moment following) → IsTrue (has_closed (said_by end before))
      → Contains (sent schema (said_by end before)) (request r) → IsTrue r.wants → IsTrue (has (settled (said_by end before)) r.seq)
