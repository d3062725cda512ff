-- Quiet worlds: no step of an end is left to choose, and nothing can be delivered.
use Rattle.std.specs.Prelude.{◌≡◌, ℕ, Bool, true, not, ◌&&◌, ◌||◌, List, Option, None, is_some, is_none}
use Rattle.std.specs.List.{AllByRecursion}
use Rattle.ipdl_base.specs.declared.kinds.Side.{Side}
use Rattle.ipdl_base.specs.declared.kinds.Side.TheVariants.{Parent, Child}
use Rattle.ipdl_base.specs.declared.schema.Schema.{Schema}
use Rattle.ipdl_base.specs.Sound.{IsSound}
use Rattle.channel_model.specs.Ends.{World, end_of}
use Rattle.channel_model.specs.Events.{Event, Move}
use Rattle.channel_model.specs.Events as event
use Rattle.channel_model.specs.Runs.{is_possible, is_still}
use Rattle.channel_model.specs.Sends.{frames_of}
use Rattle.channel_model.specs.States.{IsAnswered}
use Rattle.channel_laws.specs.Laws.{world_of}

-- a choice of own steps at one moment: what each end does next, or `None`
abbrev pub Choice : Type 0
Choice = Side → Option Event

-- whether an end has work: something to take, to return, to resume or to flush
abbrev pub has_work : Schema → World → Side → Bool
has_work schema w side =
    is_possible schema w side event.take
    || (is_possible schema w side (event.return None)
    || (is_possible schema w side event.resume || is_possible schema w side event.flush))

-- A choice may leave out acts, but no work: an end that has work does something.
abbrev pub LeavesNoWork : Schema → World → Choice → Type 0
LeavesNoWork schema w choice = (side : Side) → has_work schema w side ≡ true → is_some (choice side) ≡ true

-- whether nothing is chosen for an end, and nothing can be delivered to it
abbrev pub is_quiet_at : Schema → World → Choice → Side → Bool
is_quiet_at schema w choice side = is_none (choice side) && not (is_possible schema w side event.deliver)

-- whether a world is quiet for a choice
abbrev pub is_quiet : Schema → World → Choice → Bool
is_quiet schema w choice = is_quiet_at schema w choice Parent && is_quiet_at schema w choice Child

-- A world that is quiet for a choice that leaves no work is still. So in every run of a sound schema each wait that
-- is left there has its answer.
pub record QuietWorldsAreStill : Type 0 where
  pub still : (schema : Schema) (w : World) (choice : Choice) → LeavesNoWork schema w choice → is_quiet schema w choice ≡ true → is_still schema w ≡ true
  pub answered : (schema : Schema) → IsSound schema → (top : ℕ) (moves : List Move) (choice : Choice) → LeavesNoWork schema (world_of schema top moves) choice → is_quiet schema (world_of schema top moves) choice ≡ true → (side : Side) → AllByRecursion IsAnswered (frames_of (end_of side (world_of schema top moves)))
