-- The statement of the law Fallen: an actor falls once, after those that it manages, and only because of a destructor
-- or a closing.
use Rattle.std.specs.Prelude.{◌≡◌, ◌⊎◌, ℕ, ℤ, false, IsTrue, List, ◌∷◌, ◌++◌, Contains}
use Rattle.std.specs.List.{list_all}
use Rattle.ipdl_base.specs.declared.kinds.Destroy.{Destroy}
use Rattle.ipdl_base.specs.declared.kinds.Destroy.TheVariants as destroy
use Rattle.ipdl_base.specs.declared.kinds.Side.{Side}
use Rattle.ipdl_base.specs.declared.line.Line.{Line}
use Rattle.ipdl_base.specs.declared.line.What.{What}
use Rattle.ipdl_base.specs.declared.line.What.TheVariants as what
use Rattle.ipdl_base.specs.declared.schema.Schema.{Schema}
use Rattle.ipdl_base.specs.Lines.{is_effect}
use Rattle.history_reading.specs.declared.parts.BuiltActor.{BuiltActor}
use Rattle.history_reading.specs.declared.parts.CallFrame.{CallFrame}
use Rattle.history_reading.specs.declared.parts.CallFrame.TheVariants as frame
use Rattle.history_reading.specs.declared.parts.Cause.{Cause}
use Rattle.history_reading.specs.declared.parts.Cause.TheVariants as cause
use Rattle.history_reading.specs.EndReading.{was_built}
use Rattle.history_reading.specs.Numbers.{has}
use Rattle.history_reading.specs.Rows.{delete_cause}
use Rattle.law_statements.specs.Said.{is_moment, line_of, said_by}
use Rattle.law_statements.specs.Packets.{has_closed}
use Rattle.law_statements.specs.Actors.{built, fallen, last_actor, lives}
use Rattle.law_statements.specs.Readable.{IsOfLastEvent}
use Rattle.law_statements.specs.Stack.{stack}

-- why actors fall in an event: the send of a destructor, the return of the destructor that is handled on top, or a
-- closing
abbrev pub handled_cause : Schema → List CallFrame → Cause
handled_cause schema (frame.Dispatch d ∷ below) = delete_cause schema d.number d.route
handled_cause schema _ = cause.Nobody

abbrev pub cause_of : Schema → List CallFrame → What → Cause
cause_of schema stack (what.Send n route number values) = delete_cause schema number route
cause_of schema stack (what.Return n) = handled_cause schema stack
cause_of schema stack what.Close = cause.Closing destroy.NormalShutdown
cause_of schema stack what.ShutNormal = cause.Closing destroy.NormalShutdown
cause_of schema stack what.ShutAbnormal = cause.Closing destroy.AbnormalShutdown
cause_of schema stack _ = cause.Nobody

-- an actor is below another: the latest that was built with its id has that manager, or a manager that was below it among those that were built earlier
pub data IsBelow : List BuiltActor → ℤ → ℤ → Type 0 where
  under : (actors earlier later : List BuiltActor) (a : BuiltActor) (id top : ℤ) → actors ≡ earlier ++ a ∷ later → a.id ≡ id → was_built later id ≡ false → a.manager ≡ top → IsBelow actors id top
  further : (actors earlier later : List BuiltActor) (a : BuiltActor) (id top : ℤ) → actors ≡ earlier ++ a ∷ later → a.id ≡ id → was_built later id ≡ false → IsBelow earlier a.manager top → IsBelow actors id top

-- of two actors of one manager the younger was built after the older; where an id was built twice, its first actor
-- counts
pub record IsYounger (actors : List BuiltActor) (young old : ℤ) : Type 0 where
  pub earlier : List BuiltActor
  pub older : BuiltActor
  pub between : List BuiltActor
  pub younger : BuiltActor
  pub later : List BuiltActor
  pub split : actors ≡ earlier ++ older ∷ between ++ younger ∷ later
  pub is_old : older.id ≡ old
  pub is_first_old : was_built earlier old ≡ false
  pub is_young : younger.id ≡ young
  pub is_first_young : was_built (earlier ++ older ∷ between) young ≡ false
  pub one_manager : younger.manager ≡ older.manager

-- a cause makes an actor fall for a reason: the destructor's actor by Deletion, those below it by AncestorDeletion,
-- and all actors by the reason of a closing
abbrev pub LetsFall : List BuiltActor → Cause → ℤ → Destroy → Type 0
LetsFall actors cause.Nobody id why = IsTrue false
LetsFall actors (cause.Delete top) id why = ((why ≡ destroy.Deletion) × (id ≡ top)) ⊎ ((why ≡ destroy.AncestorDeletion) × IsBelow actors id top)
LetsFall actors (cause.Closing reason) id why = why ≡ reason

-- an actor may fall: it lives
pub record MayFall (schema : Schema) (end : Side) (before : List Line) (id : ℤ) (why : Destroy) : Type 0 where
  pub alive : IsTrue (lives (said_by end before) id)
  -- all actors that it manages have fallen
  pub managed : (a : BuiltActor) → Contains (built (said_by end before)) a → a.manager ≡ id → IsTrue (has (fallen (said_by end before)) a.id)
  -- no actor that has fallen after the last event is younger than it
  pub oldest : (other : ℤ) (reason : Destroy) (earlier effects : List Line) → before ≡ earlier ++ line_of end (what.Fall other reason) ∷ effects → IsTrue (list_all (λ line. is_effect line.what) effects)
      → IsYounger (built (said_by end before)) other id → ⊥
  -- the last event makes it fall for this reason
  pub cause : (place : IsOfLastEvent end before) × LetsFall (built (said_by end before)) (cause_of schema (stack schema end place.before) place.event) id why

pub record Fallen (schema : Schema) (lines : List Line) : Type 0 where
  -- no actor is built under an actor that has fallen
  pub builds : (end : Side) (id : ℤ) (protocol : ℕ) (before following : List Line) → lines ≡ before ++ line_of end (what.Built id protocol) ∷ following
      → has (fallen (said_by end before)) (last_actor (said_by end before)) ≡ false
  -- an actor that falls may do so
  pub falls : (end : Side) (id : ℤ) (why : Destroy) (before following : List Line) → lines ≡ before ++ line_of end (what.Fall id why) ∷ following → MayFall schema end before id why
  -- at each moment all actors of an end that has closed have fallen
  pub closings : (end : Side) (a : BuiltActor) (before following : List Line) → lines ≡ before ++ following → IsTrue (is_moment following) → IsTrue (has_closed (said_by end before))
      → Contains (built (said_by end before)) a → IsTrue (has (fallen (said_by end before)) a.id)
