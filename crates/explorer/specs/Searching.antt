-- A search on its way.
use Rattle.std.specs.Prelude.{◌≡◌, ℕ, ◌+◌, ◌-◌, ◌*◌, ◌<◌, ◌≤◌, Bool, true, false, not, ◌&&◌, List, [], ◌∷◌, ◌++◌, length, map, Contains, Option, Some, None}
use Rattle.ipdl_base.specs.declared.kinds.Side.{Side}
use Rattle.ipdl_base.specs.declared.kinds.Side.TheVariants as sides
use Rattle.channel_model.specs.Runs.{RunState}
use Rattle.schedules.specs.declared.turn.Turn.{Turn}
use Rattle.script_steps.specs.Choices.{Setting}
use Rattle.script_steps.specs.Turns.{leads, outcome}
use Rattle.explorations.specs.Explorations.{AreFew, IsExplored, ways_of}
use Rattle.explorations.specs.Explorations as ways
use Rattle.explorations.specs.Seen.{exploration_seen, way_seen}
use Rattle.explorations.specs.Words.{AreAlike, Point, Precedes, reached}
use Rattle.world_core.specs.declared.side_turns.SideOptions.{SideOptions}
use Rattle.world_core.specs.Options.{AreOptionsAt}
use Rattle.explorer.specs.declared.histories.NextChoice.{NextChoice}
use Rattle.explorer.specs.declared.letters.Offer.{Offer}
use Rattle.explorer.specs.declared.search.Search.{Search}
use Rattle.explorer.specs.declared.search.Spot.{Spot}
use Rattle.explorer.specs.declared.states.StateKey.{StateKey}
use Rattle.explorer.specs.declared.states.States.{States}
use Rattle.explorer.specs.Offers.{offer_by}
use Rattle.explorer.specs.Places.{IsBefore, rank_of}
use Rattle.explorer.specs.Runs.{IsRunner, RunsAt, setting_of}
use Rattle.explorer.specs.Searched.{HasCovered, LeadsTo}
use Rattle.explorer.specs.Keys.{HasStates, IsKeyOf}

abbrev pub options_in : Side → Spot → SideOptions
options_in sides.Parent spot = spot.parent
options_in sides.Child spot = spot.child

-- A spot is that of a state: its key, and what each side may do.
pub record IsSpotOf (setting : Setting) (choices : List NextChoice) (state : RunState) (spot : Spot) : Type 0 where
  pub key : IsKeyOf choices spot.key state
  pub options : (side : Side) → AreOptionsAt (record { setting = setting; state = state }) side (options_in side spot)

-- A word that was found leads to the state of a spot.
pub record StandsAt (setting : Setting) (words : List (List Turn)) (choices : List NextChoice) (word : List Turn) (spot : Spot) : Type 0 where
  pub state : RunState
  pub leads : LeadsTo setting word state
  pub listed : Contains words word
  pub is : IsSpotOf setting choices state spot

-- before each letter of a word is one of these spots
abbrev pub IsPath : (List Turn → Spot → Type 0) → List Turn → List Turn → List Spot → Type 0
IsPath At before [] [] = Unit {0}
IsPath At before [] (spot ∷ spots) = ⊥
IsPath At before (turn ∷ word) [] = ⊥
IsPath At before (turn ∷ word) (spot ∷ spots) = At before spot × IsPath At (before ++ turn ∷ []) word spots

-- What a search has found: words with few ways and states, the keys of the states, and the ways.
pub record HasFound (setting : Setting) (most : ℕ) (words : List (List Turn)) (states : States) (found : List ways.Way) : Type 0 where
  pub few : AreFew setting most words
  pub states_are : HasStates setting words states
  pub ways_are : found ≡ ways_of setting words

-- whether nothing is left to do at a spot
abbrev pub quiet_in : Spot → Bool
quiet_in spot = not spot.parent.acts && not spot.parent.receives && not spot.child.acts && not spot.child.receives

-- A search is at a word, with the spots before its letters and the spot where it is; a letter is next, or none.
pub record IsAt (setting : Setting) (most : ℕ) (word : List Turn) (spots : List Spot) (spot : Spot) (next : Option Turn) (states : States) (found : List ways.Way) : Type 0 where
  pub words : List (List Turn)
  pub covered : HasCovered setting (IsBefore word (rank_of next)) words
  pub path : IsPath (StandsAt setting words states.histories.choices.keys) [] word spots
  pub stands : StandsAt setting words states.histories.choices.keys word spot
  pub has_found : HasFound setting most words states found

-- A search comes to a state that it has not met: all that precedes its word is covered.
pub record IsNew (setting : Setting) (most : ℕ) (word : List Turn) (spots : List Spot) (spot : Spot) (states : States) (found : List ways.Way) : Type 0 where
  pub words : List (List Turn)
  pub covered : HasCovered setting (λ one. Precedes one word) words
  pub path : IsPath (StandsAt setting words states.histories.choices.keys) [] word spots
  pub state : RunState
  pub leads : LeadsTo setting word state
  pub is : IsSpotOf setting states.histories.choices.keys state spot
  pub has_found : HasFound setting most words states found
  pub is_new : (one : List Turn) (same : Point) → Contains words one → reached setting one ≡ Some same → AreAlike same (record { state = state; spent = None }) → ⊥
  pub unmet : Contains states.met.keys spot.key → ⊥

-- what a search runs, and what it has found
abbrev pub setting_in : Search → Setting
setting_in search = setting_of search.runner

abbrev pub found_in : Search → List ways.Way
found_in search = map way_seen search.found.ways.items

-- A search goes on.
pub record IsSearching (search : Search) : Type 0 where
  pub runs : RunsAt search.word.items search.runner
  pub is_at : IsAt (setting_in search) search.most search.word.items search.spots.items search.spot search.next search.states (found_in search)
  pub whole : search.found.whole ≡ true

-- A search comes to a state that it has not met.
pub record IsArriving (search : Search) : Type 0 where
  pub runs : RunsAt search.word.items search.runner
  pub is_new : IsNew (setting_in search) search.most search.word.items search.spots.items search.spot search.states (found_in search)
  pub whole : search.found.whole ≡ true

-- A letter does this at the state of a search.
abbrev pub Offers : Search → Turn → Offer → Type 0
Offers search turn does = offer_by turn.only_deliver (options_in turn.side search.spot).acts (options_in turn.side search.spot).receives (options_in turn.side search.spot).spent ≡ does

-- By its next letter a search may enter a state that it has not met, which has this key.
pub record MayEnter (search : Search) (turn : Turn) (key : StateKey) : Type 0 where
  pub state : RunState
  pub before : LeadsTo (setting_in search) search.word.items state
  pub next : RunState
  pub does : outcome (setting_in search) turn state ≡ leads next
  pub key_is : IsKeyOf search.states.histories.choices.keys key next
  pub unmet : Contains search.states.met.keys key → ⊥

-- The last letter of the word of a search was taken off it.
pub record IsPoppedTo (turn : Turn) (search : Search) : Type 0 where
  pub is : IsRunner search.runner
  pub is_at : IsAt (setting_in search) search.most (search.word.items ++ turn ∷ []) search.spots.items search.spot None search.states (found_in search)
  pub whole : search.found.whole ≡ true

-- What a search has found is what there is to find.
abbrev pub IsFinished : Search → Type 0
IsFinished search = IsExplored (setting_in search) search.most (exploration_seen search.found)

-- what is searched for stays the same
pub record AreLike (before after : Search) : Type 0 where
  pub setting : setting_in after ≡ setting_in before
  pub most : after.most ≡ before.most

-- A bound of what is left to do, by the number of states, the length of the word and the next letter.
abbrev pub left_by : ℕ → ℕ → ℕ → ℕ
left_by states word next = 10 * (100001 - states) + 5 * word + (4 - next)

abbrev pub left_of : Search → ℕ
left_of search = left_by (length search.states.met.keys) (length search.word.items) (rank_of search.next)

-- a search goes on, with less left to do, or it is finished
abbrev pub Goes : Search → Bool → Search → Type 0
Goes before true after = AreLike before after × IsSearching after × (left_of after < left_of before)
Goes before false after = AreLike before after × IsFinished after

-- a search has added a state, or it is finished
abbrev pub Arrives : Search → Bool → Search → Type 0
Arrives before true after = AreLike before after × IsSearching after × (left_of after + 6 ≤ left_by (length before.states.met.keys) (length before.word.items) 4)
Arrives before false after = AreLike before after × IsFinished after
