-- What the lines of one end show of its actors: which were built, which have fallen, and why actors fall now.
use Rattle.std.specs.Prelude.{◌≡◌, ◌≢◌, ℤ, Bool, true, false, not, ◌⊎◌, List, [], ◌∷◌, filter, map, Option, Some, None}
use Rattle.std.specs.List.{AllByRecursion}
use Rattle.actor_tree.specs.declared.actor.Actor.{Actor}
use Rattle.actor_tree.specs.Tree.{lives, IsTree}
use Rattle.ipdl_base.specs.declared.line.What.{What}
use Rattle.ipdl_base.specs.declared.message.Body.TheVariants.{Request}
use Rattle.ipdl_base.specs.declared.schema.MessageRow.{MessageRow}
use Rattle.ipdl_base.specs.declared.schema.Schema.{Schema}
use Rattle.ipdl_base.specs.declared.value.Values.{Values}
use Rattle.ipdl_base.specs.Sound.{message_of}
use Rattle.nesting_core.specs.declared.frame.StackFrame.TheVariants.{Dispatch, Wait}
use Rattle.history_reading.specs.declared.parts.ActorPlace.{ActorPlace}
use Rattle.history_reading.specs.declared.parts.BuiltActor.{BuiltActor}
use Rattle.history_reading.specs.declared.parts.CallFrame.{CallFrame}
use Rattle.history_reading.specs.declared.parts.CallFrame.TheVariants as frame
use Rattle.history_reading.specs.declared.parts.Cause.{Cause}
use Rattle.history_reading.specs.declared.parts.Cause.TheVariants as read_cause
use Rattle.history_reading.specs.declared.parts.EventKind.{EventKind}
use Rattle.history_reading.specs.declared.parts.EventKind.TheVariants as read_event
use Rattle.history_reading.specs.declared.parts.HandledRequest.{HandledRequest}
use Rattle.history_reading.specs.EndReading.{EndReading, was_built}
use Rattle.history_reading.specs.Fallen.{fallen_line}
use Rattle.history_reading.specs.Numbers.{has}
use Rattle.channel_model.specs.Actors.{Ids, IsTaken, AreKnown, new_ids}
use Rattle.channel_model.specs.Ends.{End, Packet, message, mark, StackEntry}
use Rattle.channel_model.specs.Numbers.{is_constructor}
use Rattle.channel_model.specs.Outputs.{is_closed}
use Rattle.channel_model.specs.States.{IsInState}
use Rattle.channel_model.specs.Refusals.{expected_id}
use Rattle.channel_model.specs.Phases.{EventStart, sends, takes, ends, closes, other, FallCause, nobody, deletion, closing, Phase}

-- a frame that is read, and one of an end, as the request that is handled there: `None` for a wait
abbrev pub handled_frame : CallFrame → Option HandledRequest
handled_frame (frame.Dispatch d) = Some d
handled_frame (frame.Unanswered c) = None
handled_frame (frame.Answered c) = None

abbrev pub handled_entry : StackEntry → Option HandledRequest
handled_entry entry = elim entry.frame [ Dispatch head ↦ Some (record { seq = head.seq; route = entry.route; number = entry.number }) | Wait head answer ↦ None ]

-- What is read: the actors that were built, those that have fallen, those that fell in the last event, whether the
-- end has closed, the last event and why actors fall in it, and the requests on the stack.
pub record ActorReading : Type 0 where
  pub built : List BuiltActor
  pub fallen : List ℤ
  pub falls : List ActorPlace
  pub over : Bool
  pub event : EventKind
  pub cause : Cause
  pub handled : List (Option HandledRequest)

abbrev pub actor_reading : EndReading → ActorReading
actor_reading own = record { built = own.built; fallen = own.fallen; falls = own.falls; over = own.over; event = own.event; cause = own.cause; handled = map handled_frame own.stack }

-- an actor that lives, as lines show it
abbrev pub shown_actor : Actor → BuiltActor
shown_actor a = record { id = a.id; manager = a.manager }

abbrev pub is_standing : List ℤ → BuiltActor → Bool
is_standing fallen a = not (has fallen a.id)

-- the actors that were built and have not fallen
abbrev pub standing : List ℤ → List BuiltActor → List BuiltActor
standing fallen built = filter (is_standing fallen) built

-- how an event began, and why actors fall in it, as lines show it
abbrev pub shown_event : EventStart → EventKind
shown_event (sends seq route) = read_event.Sends seq route
shown_event (takes seq route) = read_event.Takes seq route
shown_event ends = read_event.Ends
shown_event closes = read_event.Closes
shown_event other = read_event.Other

abbrev pub shown_cause : FallCause → Cause
shown_cause nobody = read_cause.Nobody
shown_cause (deletion id) = read_cause.Delete id
shown_cause (closing why) = read_cause.Closing why

-- The actors that were built and have not fallen are those that live at the end, in the same order, and each actor
-- that has fallen was built.
pub record ShowsLiving (actors : List Actor) (built : List BuiltActor) (fallen : List ℤ) : Type 0 where
  pub living : standing fallen built ≡ map shown_actor actors
  pub fell : AllByRecursion (λ id. was_built built id ≡ true) fallen

-- The last event, why actors fall in it, and the requests that are handled are as the end has them.
pub record ShowsEvent (p : Phase) (e : End) (read : ActorReading) : Type 0 where
  pub event : read.event ≡ shown_event p.start
  pub cause : read.cause ≡ shown_cause p.cause
  pub handled : read.handled ≡ map handled_entry e.stack

-- At an end that has closed no actor lives, except while it closes. Falls that are due have the cause of the event,
-- and no actor has fallen in that event before.
pub record FallsAreWhole (p : Phase) (e : End) (read : ActorReading) : Type 0 where
  pub over : read.over ≡ true → (is_closed e.state ≡ true) ⊎ (e.actors ≡ [])
  pub due : (p.due ≡ nobody) ⊎ ((p.due ≡ p.cause) × (read.falls ≡ []))

-- an actor that was built, with protocol 0 in the place of its own
abbrev pub built_actor : BuiltActor → Actor
built_actor a = record { id = a.id; protocol = 0; manager = a.manager }

-- which ids are taken at an end: those of all actors that were built, and of the constructors that have arrived
abbrev pub built_ids : Schema → End → List BuiltActor → Ids
built_ids schema e built = record { side = e.side; actors = map built_actor built; sent = e.constructors_sent; delivered = e.constructors_delivered; waiting = new_ids schema e.arrived }

-- at most one id is still to be built: it is taken, and belongs to no actor that was built and to no constructor that
-- waits
abbrev pub IsPending : Ids → List ℤ → Type 0
IsPending ids [] = Unit {0}
IsPending ids (id ∷ rest) = IsTaken ids id × (lives id ids.actors ≡ false) × AllByRecursion (λ waiting. waiting ≢ id) ids.waiting × (rest ≡ [])

-- The living actors are a tree. All actors that were built are a tree too, with ids that are taken, none twice. The
-- id that is still to be built, if any, is taken and new.
pub record HasIds (schema : Schema) (fresh : List ℤ) (e : End) (built : List BuiltActor) : Type 0 where
  pub tree : IsTree e.actors
  pub known : AreKnown 0 (built_ids schema e built)
  pub pending : IsPending (built_ids schema e built) fresh

-- What an end keeps of its actors with its own lines, after a phase.
pub record KeepsActors (schema : Schema) (p : Phase) (e : End) (read : ActorReading) : Type 0 where
  pub living : ShowsLiving e.actors read.built read.fallen
  pub event : ShowsEvent p e read
  pub falls : FallsAreWhole p e read
  pub ids : HasIds schema p.fresh e read.built

-- A constructor that is delivered has the next id of the other side. An end that refuses unexpected packets ensures
-- this, whatever it receives.
abbrev pub HasNextId : Schema → End → Packet → Type 0
HasNextId schema e mark = Unit {0}
HasNextId schema e (message m) = (row : MessageRow) (vs : Values) → m.body ≡ Request vs → message_of schema m.number ≡ Some row → is_constructor row.kind ≡ true → m.made ≡ expected_id e

-- a line of an end obeys the law of falls
abbrev pub IsFallenLine : EndReading → What → Type 0
IsFallenLine own said = fallen_line own said ≡ true

-- What an end keeps of its actors with its own lines, between its steps.
pub record ReadsActors (schema : Schema) (e : End) (own : EndReading) : Type 0 where
  pub living : ShowsLiving e.actors own.built own.fallen
  pub handled : map handled_frame own.stack ≡ map handled_entry e.stack
  pub over : own.over ≡ true → e.actors ≡ []
  pub ids : HasIds schema [] e own.built
  pub state : IsInState e
