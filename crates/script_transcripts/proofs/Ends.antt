-- Every run of a valid script can continue until it ends.
use Rattle.std.proofs.Common.{◌≡◌, ℕ, zero, suc, ◌+◌, ◌*◌, ◌<◌, ◌≤◌, Bool, true, false, not, ◌&&◌, cond, if◌then◌else◌, List, [], ◌∷◌, ◌++◌, length, map, filter, Option, Some, None, is_some, option_and_then, inl, inr, ◌⊎◌, refl, sym, ap, subst, ◌∙◌, length-append, arith}
use Rattle.std.specs.List.{cons_option}
use Rattle.handler_script.specs.Valid.{IsValid}
use Rattle.ipdl_base.specs.declared.kinds.Side.{Side}
use Rattle.ipdl_base.specs.declared.kinds.Side.TheVariants as sides
use Rattle.ipdl_base.specs.declared.line.Line.{Line}
use Rattle.ipdl_base.specs.declared.line.What.{What}
use Rattle.ipdl_base.specs.Lines.{is_effect, same_side}
use Rattle.ipdl_base.specs.Sound.{IsSound}
use Rattle.channel_model.specs.Outputs.{line_at}
use Rattle.channel_model.specs.Runs.{RunState}
use Rattle.schedules.specs.declared.turn.Turn.{Turn}
use Rattle.script_runs.specs.Laws.{EventsArePossible, HasLimit, HasRoom}
use Rattle.script_runs.proofs.CaseRuns.{IsCase}
use Rattle.script_runs.proofs.Possible.{script_events_are_possible}
use Rattle.script_runs.proofs.Room.{cases_have_room}
use Rattle.script_steps.proofs.Choosing.{choices_are_read}
use Rattle.script_runs.proofs.Growth.{plays-following}
use Rattle.script_steps.specs.Choices.{Setting, Choice, beginning_of, choice_of, choices_of, chosen, is_delivery_line, is_within, may_deliver, own_event, played}
use Rattle.script_steps.specs.Progress.{lines_of}
use Rattle.script_steps.specs.Turns.{RunEnding, at_limit, at_rest, delivery_choice, is_quiet, is_quiet_at, led_to, turn_choice, whole_turn}
use Rattle.script_transcripts.specs.Laws.{CasesEnd, Ends}

-- There are no more choices than lines

one-told : (b : Bool) (choice : Choice) (choices : List Choice) → length (cons_option (if b then None else Some choice) choices) ≤ suc (length choices)
one-told true choice choices = omega arith
one-told false choice choices = omega arith

told-few : (lines : List Line) → length (choices_of lines) ≤ length (lines_of sides.Parent lines) + length (lines_of sides.Child lines)
told-few [] = omega arith
told-few (line ∷ lines) =
    by line.side line.what (one-told (is_effect line.what) (record { side = line.side; delivers = is_delivery_line line.what }) (choices_of lines)) (told-few lines)
  where
    by : (side : Side) (w : What) → length (choices_of (line ∷ lines)) ≤ suc (length (choices_of lines)) → length (choices_of lines) ≤ length (lines_of sides.Parent lines) + length (lines_of sides.Child lines)
        → length (choices_of (line ∷ lines)) ≤ length (lines_of sides.Parent (line_at side w ∷ lines)) + length (lines_of sides.Child (line_at side w ∷ lines))
    by sides.Parent w h k = omega (arith, h, k)
    by sides.Child w h k = omega (arith, h, k)

-- A side that has something to do has a choice

pub record Wants (setting : Setting) (state : RunState) (side : Side) : Type 0 where
  pub choice : Choice
  pub chooses : turn_choice setting (whole_turn side) state ≡ Some choice

wants-by : (setting : Setting) (state : RunState) (side : Side) (own may : Bool) → is_some (own_event setting side state) ≡ own → may_deliver side state.world ≡ may → (not own && not may) ≡ false → Wants setting state side
wants-by setting state side true may is can h = record {
  choice = record { side = side; delivers = false };
  chooses = ap (λ (b : Bool). if b then Some (record { side = side; delivers = false }) else delivery_choice side state) is;
}
wants-by setting state side false true is can h = record {
  choice = record { side = side; delivers = true };
  chooses =
      ap (λ (b : Bool). if b then Some (record { side = side; delivers = false }) else delivery_choice side state) is
      ∙ ap (λ (b : Bool). if b then Some (record { side = side; delivers = true }) else None) can;
}
wants-by setting state side false false is can h = cc

pub wants : (setting : Setting) (state : RunState) (side : Side) → is_quiet_at setting state side ≡ false → Wants setting state side
wants setting state side h = wants-by setting state side (is_some (own_event setting side state)) (may_deliver side state.world) refl refl h

busy-side : (setting : Setting) (state : RunState) → is_quiet setting state ≡ false → (side : Side) × (is_quiet_at setting state side ≡ false)
busy-side setting state h = by (is_quiet_at setting state sides.Parent) refl h
  where
    by : (b : Bool) → is_quiet_at setting state sides.Parent ≡ b → (b && is_quiet_at setting state sides.Child) ≡ false → (side : Side) × (is_quiet_at setting state side ≡ false)
    by false is k = (sides.Parent, is)
    by true is k = (sides.Child, k)

-- A number of choices that no run has

-- a number above that of the choices of any run
abbrev pub too_many : Setting → ℕ
too_many setting = 10 * setting.limit + 3

module _ (setting : Setting) (sound : IsSound setting.schema) (valid : IsValid setting.schema setting.script) (limit : HasLimit setting) where
  pub few-choices : (choices : List Choice) (state : RunState) → played setting choices (beginning_of setting) ≡ Some state → length choices < too_many setting
  few-choices choices state plays =
      let room : (side : Side) → HasRoom setting state side = cases_have_room setting choices state sound plays in
      let parent = (room sides.Parent).lines in
      let parent_limit = (room sides.Parent).events in
      let child = (room sides.Child).lines in
      let child_limit = (room sides.Child).events in
      let told : length (choices_of state.lines) ≤ length (lines_of sides.Parent state.lines) + length (lines_of sides.Child state.lines) = told-few state.lines in
      let read : length (choices_of state.lines) ≡ length choices = ap length (choices_are_read setting choices state plays) in
      omega (arith, parent, parent_limit, child, child_limit, told, read)

  -- one more choice, and then the others
  ends-following : (state next : RunState) (choice : Choice) → chosen setting choice state ≡ Some next → Ends setting next → Ends setting state
  ends-following state next choice is e = record { more = choice ∷ e.more; last = e.last; plays = ap (option_and_then (played setting e.more)) is ∙ e.plays; ending = e.ending; ends = e.ends }

  ends-busy : (fuel : ℕ) → ((next : RunState) (c : IsCase setting next) → too_many setting ≤ length c.choices + fuel → Ends setting next) → (state : RunState) (c : IsCase setting state) → too_many setting ≤ length c.choices + suc fuel
      → (side : Side) → is_quiet_at setting state side ≡ false → (within : Bool) → is_within setting side state ≡ within → Ends setting state
  ends-busy fuel more state c few side left false is = record { more = []; last = state; plays = refl; ending = at_limit side; ends = (is, left) }
  ends-busy fuel more state c few side left true is =
      let w : Wants setting state side = wants setting state side left in
      let possible : EventsArePossible setting state = script_events_are_possible setting c.choices state sound valid limit c.plays in
      let next : RunState = led_to setting w.choice state in
      let goes : chosen setting w.choice state ≡ Some next = possible.turn (whole_turn side) w.choice w.chooses is in
      let plays : played setting (c.choices ++ w.choice ∷ []) (beginning_of setting) ≡ Some next = plays-following setting c.choices (w.choice ∷ []) (beginning_of setting) state next c.plays (ap (option_and_then (played setting [])) goes) in
      let longer : length (c.choices ++ w.choice ∷ []) ≡ length c.choices + 1 = length-append c.choices (w.choice ∷ []) in
      ends-following state next w.choice goes (more next (record { choices = c.choices ++ w.choice ∷ []; plays = plays }) (omega (arith, few, longer)))

  ends-step : (fuel : ℕ) → ((next : RunState) (c : IsCase setting next) → too_many setting ≤ length c.choices + fuel → Ends setting next) → (state : RunState) (c : IsCase setting state) → too_many setting ≤ length c.choices + suc fuel
      → (quiet : Bool) → is_quiet setting state ≡ quiet → Ends setting state
  ends-step fuel more state c few true is = record { more = []; last = state; plays = refl; ending = at_rest; ends = is }
  ends-step fuel more state c few false is = let b = busy-side setting state is in ends-busy fuel more state c few b.0 b.1 (is_within setting b.0 state) refl

  ends-in : (fuel : ℕ) (state : RunState) (c : IsCase setting state) → too_many setting ≤ length c.choices + fuel → Ends setting state
  ends-in zero state c few = let less = few-choices c.choices state c.plays in absurd (omega (arith, less, few))
  ends-in (suc fuel) state c few = ends-step fuel (ends-in fuel) state c few (is_quiet setting state) refl

pub cases_end : CasesEnd
cases_end setting choices state sound valid limit plays = ends-in setting sound valid limit (too_many setting) state (record { choices = choices; plays = plays }) (omega arith)
