-- What lines show of the actors in values, by their ids alone, and what ends know of them by ids and protocols.
use Rattle.std.specs.Prelude.{◌≡◌, ℤ, Bool, List}
use Rattle.std.specs.List.{AllByRecursion}
use Rattle.actor_tree.specs.declared.actor.Actor.{Actor}
use Rattle.ipdl_base.specs.declared.schema.ParamRow.{ParamRow}
use Rattle.ipdl_base.specs.declared.schema.Schema.{Schema}
use Rattle.ipdl_base.specs.declared.value.Values.{Values}
use Rattle.channel_model.specs.ValueActors as end
use Rattle.channel_model.specs.ValueActors.{ActorValue, lives_as, actors_in_parts}
use Rattle.history_reading.specs.Nulled as lines

-- an actor in a value lives as one of the protocol of its type exactly where its id lives
abbrev pub LivesAlike : List Actor → (ℤ → Bool) → ActorValue → Type 0
LivesAlike actors lives a = lives_as actors a.protocol a.id ≡ lives a.id

-- If that holds for the actors in values, lines and ends put null in the place of the same actors, and miss the same
-- ones.
pub record ValuesAreReadAlike : Type 0 where
  pub nulled : (schema : Schema) (actors : List Actor) (lives : ℤ → Bool) (types : List ParamRow) (vs : Values) → AllByRecursion (LivesAlike actors lives) (actors_in_parts schema types vs) → lines.nulled_fields schema lives types vs ≡ end.nulled schema actors types vs
  pub missing : (schema : Schema) (actors : List Actor) (lives : ℤ → Bool) (types : List ParamRow) (vs : Values) → AllByRecursion (LivesAlike actors lives) (actors_in_parts schema types vs) → lines.missing schema lives types vs ≡ end.missing schema actors types vs
