-- Which actors in values are looked for.
use Rattle.std.specs.Prelude.{ℤ, pos, Bool, not, ◌&&◌, List, Option, Some, None, option_map, find}
use Rattle.std.specs.Ordering.{int_eq}
use Rattle.actor_tree.specs.declared.actor.Actor.{Actor}
use Rattle.actor_tree.specs.Tree.{without}
use Rattle.channel_model.specs.Refusals.{lives_otherwise}
use Rattle.channel_model.specs.ValueActors.{ActorValue, is_dead}
use Rattle.end_parts.specs.declared.value_actors.ActorTest.{ActorTest}
use Rattle.end_parts.specs.declared.value_actors.ActorTest.TheVariants.{Dead, Missing, Otherwise}

-- whether a test is for this actor, among these that live
abbrev pub is_sought : ActorTest → List Actor → ActorValue → Bool
is_sought Dead actors a = not (int_eq a.id (pos 0)) && is_dead actors a
is_sought Missing actors a = not a.nullable && is_dead actors a
is_sought Otherwise actors a = lives_otherwise actors a.protocol a.id

-- the id of the first actor that passes
abbrev pub first_id : (ActorValue → Bool) → List ActorValue → Option ℤ
first_id test actors = option_map (λ a. a.id) (find test actors)

-- the actors that live, but for the one of an id that is left out, if any
abbrev pub living_beside : Option ℤ → List Actor → List Actor
living_beside None actors = actors
living_beside (Some id) actors = without id actors
