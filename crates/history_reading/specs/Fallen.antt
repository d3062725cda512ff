-- The law Fallen: an actor falls once, after those that it manages, and only where a destructor or a closing destroys it.
use Rattle.std.specs.Prelude.{ℤ, Bool, true, false, not, ◌&&◌, ◌||◌, nat_lt, if◌then◌else◌, List, [], ◌∷◌, reverse}
use Rattle.std.specs.List.{list_all, list_any}
use Rattle.std.specs.Ordering.{int_eq}
use Rattle.ipdl_base.specs.declared.kinds.Destroy.{Destroy}
use Rattle.ipdl_base.specs.declared.kinds.Destroy.TheVariants as destroy
use Rattle.ipdl_base.specs.declared.line.What.{What}
use Rattle.ipdl_base.specs.declared.line.What.TheVariants as what
use Rattle.history_reading.specs.declared.parts.BuiltActor.{BuiltActor}
use Rattle.history_reading.specs.declared.parts.Cause.{Cause}
use Rattle.history_reading.specs.declared.parts.Cause.TheVariants as cause
use Rattle.history_reading.specs.declared.parts.ActorPlace.{ActorPlace}
use Rattle.history_reading.specs.EndReading.{EndReading, lives}
use Rattle.history_reading.specs.Numbers.{has}
use Rattle.history_reading.specs.Reading.{route_of, actor_place}

-- an actor that lives has this manager
abbrev pub is_living_under : List ℤ → ℤ → BuiltActor → Bool
is_living_under fallen manager a = int_eq a.manager manager && not (has fallen a.id)

abbrev pub manages_living_of : List ℤ → List BuiltActor → ℤ → Bool
manages_living_of fallen built id = list_any (is_living_under fallen id) built

abbrev pub manages_living : EndReading → ℤ → Bool
manages_living own id = manages_living_of own.fallen own.built id

-- a younger one of the same manager has fallen in the event
abbrev pub is_younger : ActorPlace → ActorPlace → Bool
is_younger actor b = int_eq b.manager actor.manager && nat_lt actor.place b.place

abbrev pub younger_fell_of : List ActorPlace → ActorPlace → Bool
younger_fell_of falls actor = list_any (is_younger actor) falls

abbrev pub younger_fell : EndReading → ℤ → Bool
younger_fell own id = younger_fell_of own.falls (actor_place own.built id)

-- the way from an actor to its manager, the manager of that, and so on, among the actors that were built, the latest first, leads to another
abbrev pub climbs : List BuiltActor → ℤ → ℤ → Bool
climbs [] id top = false
climbs (a ∷ earlier) id top = if int_eq a.id id then (int_eq a.manager top || climbs earlier a.manager top) else climbs earlier id top

-- an actor is below another
abbrev pub is_below : List BuiltActor → ℤ → ℤ → Bool
is_below built id top = climbs (reverse built) id top

abbrev pub same_destroy : Destroy → Destroy → Bool
same_destroy destroy.Deletion destroy.Deletion = true
same_destroy destroy.AncestorDeletion destroy.AncestorDeletion = true
same_destroy destroy.NormalShutdown destroy.NormalShutdown = true
same_destroy destroy.AbnormalShutdown destroy.AbnormalShutdown = true
same_destroy _ _ = false

-- why an actor falls by a destructor: it is its actor, or it is below that
abbrev pub is_deleted : List BuiltActor → ℤ → ℤ → Destroy → Bool
is_deleted built top id destroy.Deletion = int_eq id top
is_deleted built top id destroy.AncestorDeletion = is_below built id top
is_deleted built top id _ = false

-- the event destroys an actor for this reason
unfoldable pub lets_fall : List BuiltActor → Cause → ℤ → Destroy → Bool
lets_fall built cause.Nobody id why = false
lets_fall built (cause.Delete top) id why = is_deleted built top id why
lets_fall built (cause.Closing reason) id why = same_destroy why reason

-- an actor is the next to fall: it manages none that lives, and no younger one has fallen before it
unfoldable pub is_next : EndReading → ℤ → Bool
is_next own id = not (manages_living own id) && not (younger_fell own id)

-- and the event destroys it
abbrev pub falls_now : EndReading → ℤ → Destroy → Bool
falls_now own id why = is_next own id && lets_fall own.built own.cause id why

-- an actor may fall now: it lives, and so on
abbrev pub may_fall : EndReading → ℤ → Destroy → Bool
may_fall own id why = lives own id && falls_now own id why

-- a line of an end, after what is read of that end, obeys the law
abbrev pub fallen_line : EndReading → What → Bool
fallen_line own (what.Built id protocol) = not (has own.fallen (route_of own.event))
fallen_line own (what.Fall id why) = may_fall own id why
fallen_line own _ = true

-- all that were built have fallen
abbrev pub all_fallen : List ℤ → List BuiltActor → Bool
all_fallen fallen built = list_all (λ a. has fallen a.id) built

-- at an end that has closed nobody lives
abbrev pub fallen_moment : EndReading → Bool
fallen_moment own = if own.over then all_fallen own.fallen own.built else true
