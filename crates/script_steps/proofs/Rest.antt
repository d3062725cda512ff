-- A word that ends at rest leaves nothing to do.
use Rattle.std.proofs.Common.{◌≡◌, ℕ, zero, suc, Bool, true, false, not, ◌&&◌, if◌then◌else◌, List, Option, Some, None, is_some, refl, sym, ap, subst, ◌∙◌}
use Rattle.ipdl_base.specs.declared.kinds.Side.{Side}
use Rattle.ipdl_base.specs.declared.kinds.Side.TheVariants as sides
use Rattle.schedules.specs.declared.turn.Turn.{Turn}
use Rattle.script_steps.specs.Choices.{Setting, Choice, own_event, may_deliver, is_within}
use Rattle.script_steps.specs.Laws.{RestIsQuiet, QuietDoesNothing}
use Rattle.script_steps.specs.Turns.{TurnOutcome, leads, idles, exceeds, turn_choice, delivery_choice, led_to, outcome_by, outcome, RunEnding, at_rest, whole_turn, Rests, rests, goes_on, passes, stops, Picks, word_ends, turn_leads, turn_idles, turn_exceeds, is_quiet_at, is_quiet}
use Rattle.ipdl_base.specs.Sides.{other}
use Rattle.channel_model.specs.Events.{Event}
use Rattle.channel_model.specs.Runs.{RunState}

-- what is known of a world where a given number of turns in a row must still do nothing, this side's first
Known : Setting → Side → ℕ → RunState → Type 0
Known setting side zero state = is_quiet setting state ≡ true
Known setting side (suc zero) state = is_quiet_at setting state (other side) ≡ true
Known setting side (suc (suc idle)) state = Unit {0}

within-some : (b : Bool) (made : RunState) → (if b then leads made else exceeds) ≡ idles → ⊥
within-some true made h = cc
within-some false made h = cc

no-choice : (setting : Setting) (side : Side) (state : RunState) (found : Option Choice) → outcome_by setting side state found ≡ idles → found ≡ None
no-choice setting side state None h = refl
no-choice setting side state (Some choice) h = absurd (within-some (is_within setting side state) (led_to setting choice state) h)

quiet-by : (own : Option Event) (may : Bool) (first second : Choice) → (if not false && is_some own then Some first else (if may then Some second else None)) ≡ None → (not (is_some own) && not may) ≡ true
quiet-by None true first second h = cc
quiet-by None false first second h = refl
quiet-by (Some x) true first second h = cc
quiet-by (Some x) false first second h = cc

turn-quiet : (setting : Setting) (side : Side) (state : RunState) → outcome setting (whole_turn side) state ≡ idles → is_quiet_at setting state side ≡ true
turn-quiet setting side state h =
    quiet-by (own_event setting side state) (may_deliver side state.world) (record { side = side; delivers = false }) (record { side = side; delivers = true }) (no-choice setting side state (turn_choice setting (whole_turn side) state) h)

both-quiet : (setting : Setting) (side : Side) (state : RunState) → is_quiet_at setting state side ≡ true → is_quiet_at setting state (other side) ≡ true → is_quiet setting state ≡ true
both-quiet setting sides.Parent state h k = ap (λ b. b && is_quiet_at setting state sides.Child) h ∙ k
both-quiet setting sides.Child state h k = ap (λ b. b && is_quiet_at setting state sides.Child) k ∙ h

other-other : (side : Side) → other (other side) ≡ side
other-other sides.Parent = refl
other-other sides.Child = refl

known-next : (setting : Setting) (side : Side) (idle : ℕ) (state : RunState) → is_quiet_at setting state side ≡ true → Known setting side (suc idle) state → Known setting (other side) idle state
unfolding Known
known-next setting side zero state h k = both-quiet setting side state h k
known-next setting side (suc zero) state h k = subst (λ s. is_quiet_at setting state s ≡ true) (sym (other-other side)) h
known-next setting side (suc (suc idle)) state h k = tt

known-two : (setting : Setting) (side : Side) (state : RunState) → Known setting side 2 state
unfolding Known
known-two setting side state = tt

known-none : (setting : Setting) (side : Side) (state : RunState) → Known setting side 0 state → is_quiet setting state ≡ true
unfolding Known
known-none setting side state h = h

rests-quiet : (setting : Setting) (side : Side) (idle : ℕ) (from last : RunState) (ending : RunEnding) → Rests setting side idle from last ending → ending ≡ at_rest → Known setting side idle from → is_quiet setting last ≡ true
rests-quiet setting _ _ _ _ _ (rests side from) e k = known-none setting side from k
rests-quiet setting _ _ _ _ _ (goes_on side idle from next last ending is r) e k = rests-quiet setting (other side) 2 next last ending r e (known-two setting (other side) next)
rests-quiet setting _ _ _ _ _ (passes side idle from last ending is r) e k = rests-quiet setting (other side) idle from last ending r e (known-next setting side idle from (turn-quiet setting side from is) k)
rests-quiet setting _ _ _ _ _ (stops side idle from is) e k = cc

picks-quiet : (setting : Setting) (word : List Turn) (from last : RunState) (ending : RunEnding) → Picks setting word from last ending → ending ≡ at_rest → is_quiet setting last ≡ true
picks-quiet setting _ _ _ _ (word_ends from last ending r) e = rests-quiet setting sides.Parent 2 from last ending r e (known-two setting sides.Parent from)
picks-quiet setting _ _ _ _ (turn_leads turn word from next last ending is p) e = picks-quiet setting word next last ending p e
picks-quiet setting _ _ _ _ (turn_idles turn word from last ending is p) e = picks-quiet setting word from last ending p e
picks-quiet setting _ _ _ _ (turn_exceeds turn word from is) e = cc

pub rest_is_quiet : RestIsQuiet
rest_is_quiet setting word from last p = picks-quiet setting word from last at_rest p refl

-- And if nothing is left to do, no turn does anything

both-false : (b : Bool) → (not b && not true) ≡ true → ⊥
both-false true h = cc
both-false false h = cc

no-turn : (only : Bool) (own : Option Event) (may : Bool) (first second : Choice) → (not (is_some own) && not may) ≡ true → (if not only && is_some own then Some first else (if may then Some second else None)) ≡ None
no-turn true own true first second h = absurd (both-false (is_some own) h)
no-turn true own false first second h = refl
no-turn false None true first second h = cc
no-turn false None false first second h = refl
no-turn false (Some x) may first second h = cc

first-true : (a b : Bool) → (a && b) ≡ true → a ≡ true
first-true true b h = refl
first-true false b h = cc

second-true : (a b : Bool) → (a && b) ≡ true → b ≡ true
second-true true b h = h
second-true false b h = cc

quiet-side : (setting : Setting) (side : Side) (state : RunState) → is_quiet setting state ≡ true → is_quiet_at setting state side ≡ true
quiet-side setting sides.Parent state h = first-true (is_quiet_at setting state sides.Parent) (is_quiet_at setting state sides.Child) h
quiet-side setting sides.Child state h = second-true (is_quiet_at setting state sides.Parent) (is_quiet_at setting state sides.Child) h

pub quiet_does_nothing : QuietDoesNothing
quiet_does_nothing setting turn state h =
    ap (outcome_by setting turn.side state)
    (no-turn turn.only_deliver (own_event setting turn.side state) (may_deliver turn.side state.world) (record { side = turn.side; delivers = false }) (record { side = turn.side; delivers = true }) (quiet-side setting turn.side state h))
