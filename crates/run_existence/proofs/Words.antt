-- Every word of turns makes a run that ends.
use Rattle.std.proofs.Common.{◌≡◌, ℕ, zero, suc, ◌+◌, ◌*◌, ◌≤◌, Bool, true, false, not, ◌&&◌, if◌then◌else◌, List, [], ◌∷◌, Option, Some, None, is_some, refl, sym, ap, ◌∙◌, ⊎_elim, arith}
use Rattle.std.proofs.lemmas.Bool.{cases_Bool}
use Rattle.ipdl_base.specs.declared.kinds.Side.{Side}
use Rattle.ipdl_base.specs.declared.kinds.Side.TheVariants as sides
use Rattle.ipdl_base.specs.Lines.{same_side}
use Rattle.channel_model.specs.Ends.{end_of, link_to}
use Rattle.ipdl_base.specs.Sides.{other}
use Rattle.channel_model.specs.Runs.{RunState}
use Rattle.schedules.specs.declared.turn.Turn.{Turn}
use Rattle.script_runs.specs.Endings.{EndsAs}
use Rattle.script_runs.specs.Laws.{EventsArePossible}
use Rattle.script_runs.proofs.CaseRuns.{IsCase, case-next}
use Rattle.script_runs.proofs.Possible.{script_events_are_possible}
use Rattle.script_steps.proofs.Choosing.{HaveSides, begin-sides, choice-happens, plays-one, side-of}
use Rattle.script_steps.proofs.Counting.{choices_are_counted, step-counted}
use Rattle.script_steps.proofs.Playing.{Chooses, chooses}
use Rattle.script_steps.proofs.Rest.{rest_is_quiet}
use Rattle.script_steps.proofs.StepLines.{step-prints}
use Rattle.script_steps.specs.Choices.{Choice, Setting, beginning_of, chosen, is_within, may_deliver, own_event}
use Rattle.script_steps.specs.Progress.{progress_of}
use Rattle.script_steps.specs.Turns.{Picks, RunEnding, Rests, at_limit, at_rest, exceeds, goes_on, idles, is_quiet_at, leads, led_to, outcome, outcome_by, passes, rests, stops, turn_choice, turn_exceeds, turn_idles, turn_leads, whole_turn, word_ends}
use Rattle.run_existence.specs.Laws.{IsRunnable, WordsHaveRuns}

-- the number of events of both sides
abbrev events : RunState → ℕ
events state = (progress_of sides.Parent state.lines).events + (progress_of sides.Child state.lines).events

-- choices lead here, and both ends have their sides
record IsReached (setting : Setting) (state : RunState) : Type 0 where
  case : IsCase setting state
  sided : HaveSides state.world

-- one event more
record IsLonger (setting : Setting) (state next : RunState) : Type 0 where
  reached : IsReached setting next
  more : events next ≡ suc (events state)

-- the result of a turn: one more event, nothing, or a side at its limit
data TurnCase (setting : Setting) (turn : Turn) (state : RunState) : Type 0 where
  goes : (next : RunState) → outcome setting turn state ≡ leads next → IsLonger setting state next → TurnCase setting turn state
  waits : outcome setting turn state ≡ idles → TurnCase setting turn state
  fails : outcome setting turn state ≡ exceeds → is_within setting turn.side state ≡ false → is_quiet_at setting state turn.side ≡ false → TurnCase setting turn state

-- an event of one side counts as one event of both together
one_of_both : (side : Side) → (if same_side side sides.Parent then 1 else 0) + (if same_side side sides.Child then 1 else 0) ≡ 1
one_of_both sides.Parent = refl
one_of_both sides.Child = refl

-- a side that chooses is not quiet
chooses_nothing : (only own may : Bool) (first second : Choice) → (not own && not may) ≡ true → (if not only && own then Some first else (if may then Some second else None)) ≡ None
chooses_nothing true true may first second quiet = cc
chooses_nothing false true may first second quiet = cc
chooses_nothing only false true first second quiet = cc
chooses_nothing true false false first second quiet = refl
chooses_nothing false false false first second quiet = refl

not_quiet : (setting : Setting) (turn : Turn) (state : RunState) (choice : Choice) → turn_choice setting turn state ≡ Some choice → is_quiet_at setting state turn.side ≡ false
not_quiet setting turn state choice e =
    ⊎_elim
    (λ (quiet : is_quiet_at setting state turn.side ≡ true).
    let none = chooses_nothing turn.only_deliver (is_some (own_event setting turn.side state)) (may_deliver turn.side state.world) (record { side = turn.side; delivers = false }) (record { side = turn.side; delivers = true }) quiet in
    absurd (let both : Some choice ≡ None = sym e ∙ none in cc))
    (λ (busy : is_quiet_at setting state turn.side ≡ false). busy)
    (cases_Bool (is_quiet_at setting state turn.side))

module _ (setting : Setting) (is : IsRunnable setting) where
  -- where a side is spent, it still has something to do but has had as many events as it may have
  abbrev IsSpentAt : RunState → RunEnding → Type 0
  IsSpentAt state at_rest = Unit {0}
  IsSpentAt state (at_limit side) = (is_within setting side state ≡ false) × (is_quiet_at setting state side ≡ false)

  few_events : (state : RunState) → IsReached setting state → events state ≤ 2 * setting.limit
  few_events state at =
      let parent = (choices_are_counted setting at.case.choices state at.case.plays sides.Parent).limit in
      let child = (choices_are_counted setting at.case.choices state at.case.plays sides.Child).limit in
      omega (arith, parent, child)

  longer : (state next : RunState) (choice : Choice) → IsReached setting state → chosen setting choice state ≡ Some next → IsLonger setting state next
  longer state next choice at e =
      let c : Chooses setting choice state next = chooses setting choice state next e in
      let made = choice-happens setting choice state next c in
      let own = side-of state.world choice.side at.sided in
      let printed = step-prints setting.schema (end_of choice.side state.world) (link_to choice.side state.world) c.event made.output made.is in
      let grows : (side : Side) → (progress_of side next.lines).events ≡ (progress_of side state.lines).events + (if same_side choice.side side then 1 else 0) =
      λ side.
      ap (λ ls. (progress_of side ls).events) made.lines ∙ step-counted (end_of choice.side state.world) c.event made.output state.lines side printed
      ∙ ap (λ (s : Side). (progress_of side state.lines).events + (if same_side s side then 1 else 0)) own
      in
      let parent = grows sides.Parent in
      let child = grows sides.Child in
      let one = one_of_both choice.side in
      record { reached = record { case = case-next setting choice state next at.case e; sided = (plays-one setting choice state next c at.sided).sides }; more = omega (arith, parent, child, one) }

  by_limit : (turn : Turn) (state : RunState) (choice : Choice) → IsReached setting state → turn_choice setting turn state ≡ Some choice → (within : Bool) → is_within setting turn.side state ≡ within → TurnCase setting turn state
  by_limit turn state choice at e true w =
      let possible : EventsArePossible setting state = script_events_are_possible setting at.case.choices state is.sound is.valid is.limit at.case.plays in
      let next : RunState = led_to setting choice state in
      goes next (ap (outcome_by setting turn.side state) e ∙ ap (λ (b : Bool). if b then leads next else exceeds) w) (longer state next choice at (possible.turn turn choice e w))
  by_limit turn state choice at e false w = fails (ap (outcome_by setting turn.side state) e ∙ ap (λ (b : Bool). if b then leads (led_to setting choice state) else exceeds) w) w (not_quiet setting turn state choice e)

  by_choice : (turn : Turn) (state : RunState) → IsReached setting state → (found : Option Choice) → turn_choice setting turn state ≡ found → TurnCase setting turn state
  by_choice turn state at None e = waits (ap (outcome_by setting turn.side state) e)
  by_choice turn state at (Some choice) e = by_limit turn state choice at e (is_within setting turn.side state) refl

  turn_case : (turn : Turn) (state : RunState) → IsReached setting state → TurnCase setting turn state
  turn_case turn state at = by_choice turn state at (turn_choice setting turn state) refl

  -- the last state of a run from a state, how it ends, and that choices lead to it
  record HasLast (Leads : RunState → RunEnding → Type 0) : Type 0 where
    last : RunState
    ending : RunEnding
    leads_to : Leads last ending
    case : IsCase setting last
    spent : IsSpentAt last ending

  has_rest : (fuel idle : ℕ) (side : Side) (state : RunState) → IsReached setting state → 6 * setting.limit + idle ≤ 3 * events state + fuel → HasLast (Rests setting side idle state)
  has_rest fuel zero side state at few = record { last = state; ending = at_rest; leads_to = rests side state; case = at.case; spent = tt }
  has_rest zero (suc idle) side state at few = let most = few_events state at in absurd (omega (arith, few, most))
  has_rest (suc fuel) (suc idle) side state at few = by (λ left from reached less. has_rest fuel left (other side) from reached less) (turn_case (whole_turn side) state at)
    where
      by : ((left : ℕ) (from : RunState) → IsReached setting from → 6 * setting.limit + left ≤ 3 * events from + fuel → HasLast (Rests setting (other side) left from)) → TurnCase setting (whole_turn side) state → HasLast (Rests setting side (suc idle) state)
      by onward (goes next e l) =
          let more = l.more in
          let rest = onward 2 next l.reached (omega (arith, few, more)) in
          record { last = rest.last; ending = rest.ending; leads_to = goes_on side idle state next rest.last rest.ending e rest.leads_to; case = rest.case; spent = rest.spent }
      by onward (waits e) =
          let rest = onward idle state at (omega (arith, few)) in
          record { last = rest.last; ending = rest.ending; leads_to = passes side idle state rest.last rest.ending e rest.leads_to; case = rest.case; spent = rest.spent }
      by onward (fails e full busy) = record { last = state; ending = at_limit side; leads_to = stops side idle state e; case = at.case; spent = (full, busy) }

  has_run : (word : List Turn) (state : RunState) → IsReached setting state → HasLast (Picks setting word state)
  has_run [] state at =
      let rest = has_rest (6 * setting.limit + 2) 2 sides.Parent state at (omega arith) in
      record { last = rest.last; ending = rest.ending; leads_to = word_ends state rest.last rest.ending rest.leads_to; case = rest.case; spent = rest.spent }
  has_run (turn ∷ word) state at = by (λ from reached. has_run word from reached) (turn_case turn state at)
    where
      by : ((from : RunState) → IsReached setting from → HasLast (Picks setting word from)) → TurnCase setting turn state → HasLast (Picks setting (turn ∷ word) state)
      by onward (goes next e l) =
          let rest = onward next l.reached in
          record { last = rest.last; ending = rest.ending; leads_to = turn_leads turn word state next rest.last rest.ending e rest.leads_to; case = rest.case; spent = rest.spent }
      by onward (waits e) =
          let rest = onward state at in
          record { last = rest.last; ending = rest.ending; leads_to = turn_idles turn word state rest.last rest.ending e rest.leads_to; case = rest.case; spent = rest.spent }
      by onward (fails e full busy) = record { last = state; ending = at_limit turn.side; leads_to = turn_exceeds turn word state e; case = at.case; spent = (full, busy) }

  -- a run that leads to a last state ends there
  ends_so : (word : List Turn) (last : RunState) (ending : RunEnding) → Picks setting word (beginning_of setting) last ending → IsSpentAt last ending → EndsAs setting last ending
  ends_so word last at_rest picks spent = rest_is_quiet setting word (beginning_of setting) last picks
  ends_so word last (at_limit side) picks spent = spent

pub words_have_runs : WordsHaveRuns
words_have_runs setting is word =
    let r = has_run setting is word (beginning_of setting) (record { case = record { choices = []; plays = refl }; sided = begin-sides setting }) in
    record { last = r.last; ending = r.ending; picks = r.leads_to; choices = r.case.choices; plays = r.case.plays; ends = ends_so setting is word r.last r.ending r.leads_to r.spent }
