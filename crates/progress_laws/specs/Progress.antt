-- What happens by itself comes to an end, in whatever order it happens: the weight of a world bounds how many moves
-- it takes.
use Rattle.std.specs.Prelude.{◌≡◌, ℕ, ◌+◌, ◌*◌, ◌<◌, ◌≤◌, ℤ, true, List, [], ◌∷◌, ◌++◌, length}
use Rattle.std.specs.List.{AllByRecursion}
use Rattle.ipdl_base.specs.declared.kinds.Side.{Side}
use Rattle.ipdl_base.specs.declared.schema.Schema.{Schema}
use Rattle.ipdl_base.specs.Sound.{IsSound}
use Rattle.channel_model.specs.Ends.{World, end_of}
use Rattle.channel_model.specs.Events.{Move}
use Rattle.channel_model.specs.Runs.{happens, history_of, is_possible, is_still}
use Rattle.channel_model.specs.Sends.{frames_of}
use Rattle.channel_model.specs.States.{IsAnswered}
use Rattle.channel_laws.specs.Laws.{world_of, waits_for, EndsWait}
use Rattle.progress_laws.specs.Acts.{happens_by_itself, acts, by_themselves}
use Rattle.progress_laws.specs.Weights.{weight, full_weight}

-- In every run of a sound schema a move that happens by itself, where it is possible, lowers a measure of worlds. No
-- move adds more than `most` to the measure.
pub record MovesAreMeasured (measure : World → ℕ) (most : ℕ) : Type 0 where
  pub falls : (schema : Schema) → IsSound schema → (top : ℕ) (moves : List Move) (move : Move) → happens_by_itself move.event ≡ true → is_possible schema (world_of schema top moves) move.side move.event ≡ true
      → measure (happens schema (world_of schema top moves) move).world < measure (world_of schema top moves)
  pub grows : (schema : Schema) → IsSound schema → (top : ℕ) (moves : List Move) (move : Move) → measure (happens schema (world_of schema top moves) move).world ≤ measure (world_of schema top moves) + most

-- The weight is such a measure, to which no move adds more than 8, and so is the full weight, to which none adds more
-- than 6.
pub record MovesAreWeighed : Type 0 where
  pub plain : MovesAreMeasured weight 8
  pub full : MovesAreMeasured full_weight 6

-- In every history the events that happen by themselves, together with the full weight that is left, are at most six
-- for each act.
abbrev pub HistoriesAreWeighed : Type 0
HistoriesAreWeighed =
    (schema : Schema) → IsSound schema → (top : ℕ) (moves : List Move)
    → by_themselves (history_of schema top moves) + full_weight (world_of schema top moves) ≤ 6 * acts (history_of schema top moves)

-- moves from a world, each of which happens by itself and is possible where it is made
abbrev pub HappenByThemselves : Schema → List Move → World → Type 0
HappenByThemselves schema [] w = Unit {0}
HappenByThemselves schema (move ∷ moves) w = (happens_by_itself move.event ≡ true) × (is_possible schema w move.side move.event ≡ true) × HappenByThemselves schema moves (happens schema w move).world

-- After the moves `before`, the moves `moves` happen by themselves, and more moves that happen by themselves lead on
-- to a still world. All of them together are no more than the weight of the world after `before`. In the still world
-- each wait that is left has its answer, and each wait that was there after `before` is ended by one of them.
pub record ComesToRest (schema : Schema) (top : ℕ) (before moves : List Move) : Type 0 where
  pub more : List Move
  pub happen : HappenByThemselves schema (moves ++ more) (world_of schema top before)
  pub few : length (moves ++ more) ≤ weight (world_of schema top before)
  pub still : is_still schema (world_of schema top (before ++ (moves ++ more))) ≡ true
  pub answered : (side : Side) → AllByRecursion IsAnswered (frames_of (end_of side (world_of schema top (before ++ (moves ++ more)))))
  pub ended : (side : Side) (seq : ℤ) → waits_for side seq (world_of schema top before) ≡ true → EndsWait schema side seq (world_of schema top before) (moves ++ more)

-- From the world after any moves, the moves that happen by themselves are no more than its weight, whatever their
-- order. Wherever they have led, the world comes to rest from there.
pub record WorldsComeToRest : Type 0 where
  pub few : (schema : Schema) → IsSound schema → (top : ℕ) (before moves : List Move) → HappenByThemselves schema moves (world_of schema top before) → length moves + weight (world_of schema top (before ++ moves)) ≤ weight (world_of schema top before)
  pub rest : (schema : Schema) → IsSound schema → (top : ℕ) (before moves : List Move) → HappenByThemselves schema moves (world_of schema top before) → ComesToRest schema top before moves
