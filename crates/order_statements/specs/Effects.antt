-- The effects that an event owes, by the lines of its own end: actors that it builds or that fall, answers that it
-- gives, and promises that it settles.
use Rattle.std.specs.Prelude.{◌≡◌, ◌≤◌, ℕ, ℤ, Bool, true, false, ◌&&◌, if◌then◌else◌, IsTrue, List, [], ◌∷◌, ◌++◌, Contains, Option, Some, None, length}
use Rattle.std.specs.List.{list_all}
use Rattle.ipdl_base.specs.declared.kinds.Reason.{Reason}
use Rattle.ipdl_base.specs.declared.kinds.Reason.TheVariants as reason
use Rattle.ipdl_base.specs.declared.kinds.Side.{Side}
use Rattle.ipdl_base.specs.declared.line.Line.{Line}
use Rattle.ipdl_base.specs.declared.line.What.{What}
use Rattle.ipdl_base.specs.declared.line.What.TheVariants as what
use Rattle.ipdl_base.specs.declared.schema.Schema.{Schema}
use Rattle.ipdl_base.specs.declared.value.Values.{Values}
use Rattle.history_reading.specs.declared.parts.CallFrame.{CallFrame}
use Rattle.history_reading.specs.declared.parts.CallFrame.TheVariants as frame
use Rattle.history_reading.specs.declared.parts.HandledRequest.{HandledRequest}
use Rattle.history_reading.specs.Numbers.{has}
use Rattle.history_reading.specs.Rows.{is_sync_number, wants_number}
use Rattle.law_statements.specs.Actors.{built, lives}
use Rattle.law_statements.specs.Fallen.{IsBelow}
use Rattle.law_statements.specs.Packets.{number_settled, settled}
use Rattle.law_statements.specs.Said.{line_of, said_by}
use Rattle.law_statements.specs.Stack.{stack}
use Rattle.order_statements.specs.Shape.{HasEffects, answered, constructor_of, is_destructor, is_open_by, kept, owes_reply, request_sent}

-- After the effects of an event an actor does not live, and no actor below it does. (By the definition of `lives`, an
-- actor that has fallen does not live again.)
pub record IsDeleted (end : Side) (own : List What) (id : ℤ) (following : List Line) : Type 0 where
  pub effects : List What
  pub are : HasEffects end effects following
  pub gone : lives (own ++ effects) id ≡ false
  pub below : (under : ℤ) → IsBelow (built (own ++ effects)) under id → lives (own ++ effects) under ≡ false

-- whether a line is the answer by which a resolver is destroyed
abbrev pub lets_go : What → Bool
lets_go (what.AnswerFault n reason.ResolverDestroyed) = true
lets_go _ = false

-- The last effect of an event builds an actor of a protocol, which then lives; the effects before it are these
-- answers for resolvers.
pub record IsBuilt (end : Side) (own : List What) (lost : List What) (protocol : ℕ) (following : List Line) : Type 0 where
  pub id : ℤ
  pub are : HasEffects end (lost ++ what.Built id protocol ∷ []) following
  pub alive : IsTrue (lives (own ++ (lost ++ what.Built id protocol ∷ [])) id)

-- a constructor that is sent builds its actor; the name that the actor gets may have been for a resolver
pub record IsBuiltBySend (end : Side) (own : List What) (protocol : ℕ) (following : List Line) : Type 0 where
  pub lost : List What
  pub few : length lost ≤ 1
  pub answers : IsTrue (list_all lets_go lost)
  pub builds : IsBuilt end own lost protocol following

-- an answer with a fault, where it is due
abbrev pub fault_due : Bool → ℤ → Reason → List What
fault_due due n why = if due then what.AnswerFault n why ∷ [] else []

-- what the return of a handler answers to a sync request: values, or a rejection
pub data IsReturned (n : ℤ) : What → Type 0 where
  with_values : (values : Values) → IsReturned n (what.AnswerOk n values)
  with_rejection : IsReturned n (what.AnswerFault n reason.HandlerRejected)

-- an open end handles a request whose resolver is still there: it makes a promise, and was neither answered nor kept
abbrev pub has_resolver : Schema → List What → HandledRequest → Bool
has_resolver schema own d = is_open_by own && (wants_number schema d.number && (if has (answered own) d.seq then false else (if has (kept own) d.seq then false else true)))

-- What the return of a handler owes at an open end: the answer to a sync request, or for a resolver that is still
-- there. After it the actor of a destructor does not live.
pub record ReturnsAll (schema : Schema) (end : Side) (own : List What) (d : HandledRequest) (following : List Line) : Type 0 where
  pub sync : IsTrue (is_open_by own && is_sync_number schema d.number) → (w : What) × (more : List What) × IsReturned d.seq w × HasEffects end (w ∷ more) following
  pub destroyed : IsTrue (has_resolver schema own d) → (more : List What) × HasEffects end (what.AnswerFault d.seq reason.ResolverDestroyed ∷ more) following
  pub deleted : IsTrue (is_destructor schema d.number) → IsDeleted end (own ++ what.Return d.seq ∷ []) d.route following

-- the name to which a line gives a new content
abbrev pub name_given : What → Option (List ℕ)
name_given (what.Keep n name) = Some name
name_given (what.Let name id) = Some name
name_given _ = None

-- whether a line shows that an act was refused
abbrev pub is_refusal : What → Bool
is_refusal (what.RefusedSend cause number) = true
is_refusal (what.RefusedClose cause) = true
is_refusal (what.RefusedResolve cause) = true
is_refusal (what.RefusedReject cause) = true
is_refusal _ = false

pub record Effects (schema : Schema) (lines : List Line) : Type 0 where
  -- the send of a destructor deletes its actor and all below it, and so does the return of its handler (`returns`)
  pub deletes : (end : Side) (w : What) (q : HandledRequest) (before following : List Line) → lines ≡ before ++ line_of end w ∷ following → request_sent w ≡ Some q → IsTrue (is_destructor schema q.number)
      → IsDeleted end (said_by end before ++ w ∷ []) q.route following
  -- the send of a constructor builds its actor, and so does the take of one
  pub builds : (end : Side) (w : What) (q : HandledRequest) (protocol : ℕ) (before following : List Line) → lines ≡ before ++ line_of end w ∷ following → request_sent w ≡ Some q → constructor_of schema q.number ≡ Some protocol
      → IsBuiltBySend end (said_by end before ++ w ∷ []) protocol following
  pub takes : (end : Side) (n route : ℤ) (number protocol : ℕ) (values : Values) (before following : List Line) → lines ≡ before ++ line_of end (what.Take n route number values) ∷ following → constructor_of schema number ≡ Some protocol
      → IsBuilt end (said_by end before ++ what.Take n route number values ∷ []) [] protocol following
  -- a request that is dropped at an open end is answered if it needs a reply, and nothing else happens
  pub drops : (end : Side) (n route : ℤ) (number : ℕ) (id : ℤ) (before following : List Line) → lines ≡ before ++ line_of end (what.Drop n route number id) ∷ following
      → HasEffects end (fault_due (is_open_by (said_by end before) && owes_reply schema number) n reason.ActorDestroyed) following
  -- the return of a handler has the effects that are due
  pub returns : (end : Side) (n : ℤ) (d : HandledRequest) (below : List CallFrame) (before following : List Line) → lines ≡ before ++ line_of end (what.Return n) ∷ following → stack schema end before ≡ frame.Dispatch d ∷ below
      → ReturnsAll schema end (said_by end before) d following
  -- a name that gets a new content at an open end, and was for a resolver that has not answered, answers for it
  pub renames : (end : Side) (w : What) (name : List ℕ) (n : ℤ) (before following : List Line) → lines ≡ before ++ line_of end w ∷ following → name_given w ≡ Some name → IsTrue (is_open_by (said_by end before))
      → Contains (said_by end before) (what.Keep n name) → has (answered (said_by end before)) n ≡ false → HasEffects end (what.AnswerFault n reason.ResolverDestroyed ∷ []) following
  -- a reply that is taken settles its promise if that is not settled, and does nothing else
  pub settles : (end : Side) (n : ℤ) (before following : List Line) → lines ≡ before ++ line_of end (what.TakeReply n) ∷ following → has (settled (said_by end before)) n ≡ false
      → (w : What) × (number_settled w ≡ Some n) × HasEffects end (w ∷ []) following
  pub late : (end : Side) (n : ℤ) (before following : List Line) → lines ≡ before ++ line_of end (what.TakeReply n) ∷ following → IsTrue (has (settled (said_by end before)) n) → HasEffects end [] following
  -- an act that is refused has no effects
  pub refusals : (end : Side) (w : What) (before following : List Line) → lines ≡ before ++ line_of end w ∷ following → IsTrue (is_refusal w) → HasEffects end [] following
