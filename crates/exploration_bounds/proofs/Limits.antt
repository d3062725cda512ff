-- Where a script comes to rest, no side reaches the limit. So no way is spent, and a greater limit changes nothing.
use Rattle.std.proofs.Common.{◌≡◌, ◌∙◌, ℕ, ◌<◌, ◌≤◌, Bool, true, if◌then◌else◌, List, [], ◌∷◌, ◌++◌, Option, Some, None, refl, sym, ap, arith}
use Rattle.std.proofs.lemmas.Bool.Decides.{Decides-ltb}
use Rattle.ipdl_base.specs.declared.kinds.Side.{Side}
use Rattle.ipdl_base.specs.declared.kinds.Side.TheVariants as sides
use Rattle.ipdl_base.specs.Sides.{other}
use Rattle.channel_model.specs.Runs.{RunState}
use Rattle.schedules.specs.declared.turn.Turn.{Turn}
use Rattle.script_steps.specs.Choices.{Choice, Setting, beginning_of, is_within}
use Rattle.script_steps.specs.Progress.{progress_of}
use Rattle.script_steps.specs.Turns.{Picks, RunEnding, Rests, TurnOutcome, at_rest, exceeds, goes_on, idles, leads, led_to, outcome, outcome_by, passes, rests, stops, turn_choice, turn_exceeds, turn_idles, turn_leads, whole_turn, word_ends}
use Rattle.script_bounds.specs.Laws.{event_count, taken_by}
use Rattle.script_bounds.proofs.Blocks.{again-silent}
use Rattle.script_bounds.proofs.Bounds.{runs_are_bounded}
use Rattle.explorations.specs.Words.{reached}
use Rattle.explorations.proofs.Points.{point-by, points_alike}
use Rattle.explorations.proofs.Same.{explored_too}
use Rattle.exploration_laws.proofs.Futures.{ArePlayed, point-append, reached-played}
use Rattle.exploration_laws.proofs.Ways.{ways_are_run}
use Rattle.exploration_bounds.specs.Laws.{ComesToRest, LimitsDoNotMatter, WaysFinish}

-- A word leads to this state.
record IsVisited (setting : Setting) (state : RunState) : Type 0 where
  word : List Turn
  leads_to : reached setting word ≡ Some (record { state = state; spent = None })

begins : (setting : Setting) → IsVisited setting (beginning_of setting)
begins setting = record { word = []; leads_to = refl }

visits-next : (setting : Setting) (turn : Turn) (state next : RunState) → IsVisited setting state → outcome setting turn state ≡ leads next → IsVisited setting next
visits-next setting turn state next v is = record {
  word = v.word ++ turn ∷ [];
  leads_to = point-append setting v.word (turn ∷ []) (beginning_of setting) state v.leads_to ∙ point-by setting turn [] state (leads next) is;
}

-- What a turn does that has this choice, if its side is within the limit
abbrev unlimited : Setting → RunState → Option Choice → TurnOutcome
unlimited setting state None = idles
unlimited setting state (Some choice) = leads (led_to setting choice state)

never-exceeds : (setting : Setting) (state : RunState) (found : Option Choice) → unlimited setting state found ≡ exceeds → ⊥
never-exceeds setting state None h = cc
never-exceeds setting state (Some choice) h = cc

module _ (setting : Setting) (comes : ComesToRest setting) where
  -- Events

  few-events : (state : RunState) → IsVisited setting state → event_count state < setting.limit
  few-events state v =
      let p : ArePlayed setting v.word (beginning_of setting) (record { state = state; spent = None }) = reached-played setting comes.sound comes.valid comes.small v.word (record { state = state; spent = None }) v.leads_to in
      let bound = runs_are_bounded setting p.choices state comes.sound p.plays in
      let parent = again-silent setting.script comes.again sides.Parent (taken_by sides.Parent state) in
      let child = again-silent setting.script comes.again sides.Child (taken_by sides.Child state) in
      let above = comes.limit in
      omega (arith, above, bound, parent, child)

  few-of : (side : Side) (state : RunState) → IsVisited setting state → (progress_of side state.lines).events < setting.limit
  few-of sides.Parent state v = let few = few-events state v in omega (arith, few)
  few-of sides.Child state v = let few = few-events state v in omega (arith, few)

  -- Turns, under any limit that is not smaller

  module _ (greater : ℕ) (more : setting.limit ≤ greater) where
    abbrev wide : Setting
    wide = record setting { limit = greater }

    within : (side : Side) (state : RunState) → IsVisited setting state → is_within wide side state ≡ true
    within side state v = let few = few-of side state v in (Decides-ltb (progress_of side state.lines).events greater).1 (omega (arith, few, more))

    found-does : (side : Side) (state : RunState) (found : Option Choice) → IsVisited setting state → outcome_by wide side state found ≡ unlimited setting state found
    found-does side state None v = refl
    found-does side state (Some choice) v = ap (λ (b : Bool). if b then leads (led_to setting choice state) else exceeds) (within side state v)

    turn-does : (turn : Turn) (state : RunState) → IsVisited setting state → outcome wide turn state ≡ unlimited setting state (turn_choice setting turn state)
    turn-does turn state v = found-does turn.side state (turn_choice setting turn state) v

  -- No way is spent

  never : (turn : Turn) (state : RunState) → IsVisited setting state → outcome setting turn state ≡ exceeds → ⊥
  never turn state v is = never-exceeds setting state (turn_choice setting turn state) (sym (turn-does setting.limit (omega arith) turn state v) ∙ is)

  rests-so : (side : Side) (idle : ℕ) (state last : RunState) (ending : RunEnding) → IsVisited setting state → Rests setting side idle state last ending → ending ≡ at_rest
  rests-so _ _ _ _ _ v (rests side state) = refl
  rests-so _ _ _ _ _ v (goes_on side idle state next last ending does rest) = rests-so (other side) 2 next last ending (visits-next setting (whole_turn side) state next v does) rest
  rests-so _ _ _ _ _ v (passes side idle state last ending does rest) = rests-so (other side) idle state last ending v rest
  rests-so _ _ _ _ _ v (stops side idle state does) = absurd (never (whole_turn side) state v does)

  picks-so : (word : List Turn) (state last : RunState) (ending : RunEnding) → IsVisited setting state → Picks setting word state last ending → ending ≡ at_rest
  picks-so _ _ _ _ v (word_ends state last ending rest) = rests-so sides.Parent 2 state last ending v rest
  picks-so _ _ _ _ v (turn_leads turn word state next last ending does rest) = picks-so word next last ending (visits-next setting turn state next v does) rest
  picks-so _ _ _ _ v (turn_idles turn word state last ending does rest) = picks-so word state last ending v rest
  picks-so _ _ _ _ v (turn_exceeds turn word state does) = absurd (never turn state v does)

  -- A greater limit changes nothing

  points-same : (greater : ℕ) (more : setting.limit ≤ greater) (word : List Turn) → reached setting word ≡ reached (wide greater more) word
  points-same greater more word =
      points_alike setting (wide greater more) (IsVisited setting) (visits-next setting) (λ turn state v. turn-does setting.limit (omega arith) turn state v ∙ sym (turn-does greater more turn state v)) word
      (beginning_of setting) (begins setting)

pub ways_finish : WaysFinish
ways_finish setting most exploration way comes explored listed =
    let run = ways_are_run setting most exploration way explored listed in
    picks-so setting comes way.word (beginning_of setting) run.point.state way.ending (begins setting) run.runs

pub limits_do_not_matter : LimitsDoNotMatter
limits_do_not_matter setting greater most exploration comes more small explored =
    explored_too setting (record setting { limit = greater }) (points-same setting comes greater more) (λ state. refl) most exploration explored
