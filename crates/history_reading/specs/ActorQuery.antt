-- Which actors in values the code looks for.
use Rattle.std.specs.Prelude.{ℤ, Bool, List, find, Option, option_map}
use Rattle.history_reading.specs.declared.nulled.ActorQuery.{ActorQuery}
use Rattle.history_reading.specs.declared.nulled.ActorQuery.TheVariants as wanted
use Rattle.history_reading.specs.Nulled.{TypedActor, is_dead, is_missing}

abbrev pub is_wanted : ActorQuery → (ℤ → Bool) → TypedActor → Bool
is_wanted wanted.Missing lives actor = is_missing lives actor
is_wanted wanted.Dead lives actor = is_dead lives actor

-- the first that is looked for
abbrev pub first_wanted : ActorQuery → (ℤ → Bool) → List TypedActor → Option ℤ
first_wanted wanted lives actors = option_map (λ actor. actor.id) (find (is_wanted wanted lives) actors)
