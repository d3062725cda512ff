-- A word has one result, which is that of the functions.
use Rattle.std.proofs.Common.{◌≡◌, ℕ, zero, suc, List, [], ◌∷◌, Option, Some, refl, sym, subst, ◌∙◌}
use Rattle.ipdl_base.specs.declared.kinds.Side.{Side}
use Rattle.ipdl_base.specs.declared.kinds.Side.TheVariants as sides
use Rattle.schedules.specs.declared.turn.Turn.{Turn}
use Rattle.script_steps.specs.Choices.{Setting}
use Rattle.script_steps.specs.Laws.{WordsHaveOneResult, FunctionsPick}
use Rattle.script_steps.specs.Turns.{TurnOutcome, leads, idles, exceeds, outcome, RunEnding, at_rest, at_limit, whole_turn, Rests, rests, goes_on, passes, stops, Picks, word_ends, turn_leads, turn_idles, turn_exceeds, RunEnd, rested, picked}
use Rattle.ipdl_base.specs.Sides.{other}
use Rattle.channel_model.specs.Runs.{RunState}

same_next : (x y : RunState) → leads x ≡ leads y → x ≡ y
same_next x y h = cc

not_both : (x : RunState) → leads x ≡ idles → ⊥
not_both x h = cc

not_exceeds : (x : RunState) → leads x ≡ exceeds → ⊥
not_exceeds x h = cc

not_idles : idles ≡ exceeds → ⊥
not_idles h = cc

one-rests : (setting : Setting) (side : Side) (idle : ℕ) (from one other : RunState) (ending end : RunEnding) → Rests setting side idle from one ending → Rests setting side idle from other end → (one ≡ other) × (ending ≡ end)
one-rests setting _ _ _ _ _ _ _ (rests side from) (rests _ _) = (refl, refl)
one-rests setting _ _ _ _ _ _ _ (goes_on side idle from next last ending is r) (goes_on _ _ _ more last' end is' r') =
    one-rests setting (other side) 2 next last last' ending end r (subst (λ x. Rests setting (other side) 2 x last' end) (same_next more next (sym is' ∙ is)) r')
one-rests setting _ _ _ _ _ _ _ (goes_on side idle from next last ending is r) (passes _ _ _ last' end is' r') = absurd (not_both next (sym is ∙ is'))
one-rests setting _ _ _ _ _ _ _ (goes_on side idle from next last ending is r) (stops _ _ _ is') = absurd (not_exceeds next (sym is ∙ is'))
one-rests setting _ _ _ _ _ _ _ (passes side idle from last ending is r) (goes_on _ _ _ more last' end is' r') = absurd (not_both more (sym is' ∙ is))
one-rests setting _ _ _ _ _ _ _ (passes side idle from last ending is r) (passes _ _ _ last' end is' r') = one-rests setting (other side) idle from last last' ending end r r'
one-rests setting _ _ _ _ _ _ _ (passes side idle from last ending is r) (stops _ _ _ is') = absurd (not_idles (sym is ∙ is'))
one-rests setting _ _ _ _ _ _ _ (stops side idle from is) (goes_on _ _ _ more last' end is' r') = absurd (not_exceeds more (sym is' ∙ is))
one-rests setting _ _ _ _ _ _ _ (stops side idle from is) (passes _ _ _ last' end is' r') = absurd (not_idles (sym is' ∙ is))
one-rests setting _ _ _ _ _ _ _ (stops side idle from is) (stops _ _ _ is') = (refl, refl)

pub words_have_one_result : WordsHaveOneResult
words_have_one_result setting _ _ _ _ _ _ (word_ends from last ending r) (word_ends _ last' end r') = one-rests setting sides.Parent 2 from last last' ending end r r'
words_have_one_result setting _ _ _ _ _ _ (turn_leads turn word from next last ending is r) (turn_leads _ _ _ more last' end is' r') =
    words_have_one_result setting word next last last' ending end r (subst (λ x. Picks setting word x last' end) (same_next more next (sym is' ∙ is)) r')
words_have_one_result setting _ _ _ _ _ _ (turn_leads turn word from next last ending is r) (turn_idles _ _ _ last' end is' r') = absurd (not_both next (sym is ∙ is'))
words_have_one_result setting _ _ _ _ _ _ (turn_leads turn word from next last ending is r) (turn_exceeds _ _ _ is') = absurd (not_exceeds next (sym is ∙ is'))
words_have_one_result setting _ _ _ _ _ _ (turn_idles turn word from last ending is r) (turn_leads _ _ _ more last' end is' r') = absurd (not_both more (sym is' ∙ is))
words_have_one_result setting _ _ _ _ _ _ (turn_idles turn word from last ending is r) (turn_idles _ _ _ last' end is' r') = words_have_one_result setting word from last last' ending end r r'
words_have_one_result setting _ _ _ _ _ _ (turn_idles turn word from last ending is r) (turn_exceeds _ _ _ is') = absurd (not_idles (sym is ∙ is'))
words_have_one_result setting _ _ _ _ _ _ (turn_exceeds turn word from is) (turn_leads _ _ _ more last' end is' r') = absurd (not_exceeds more (sym is' ∙ is))
words_have_one_result setting _ _ _ _ _ _ (turn_exceeds turn word from is) (turn_idles _ _ _ last' end is' r') = absurd (not_idles (sym is' ∙ is))
words_have_one_result setting _ _ _ _ _ _ (turn_exceeds turn word from is) (turn_exceeds _ _ _ is') = (refl, refl)

-- The functions

same_end : (x y : RunEnd) → Some x ≡ Some y → x ≡ y
same_end x y h = cc

rested-next : (setting : Setting) (fuel : ℕ) (side : Side) (idle : ℕ) (from : RunState) (found : TurnOutcome) (end : RunEnd) → outcome setting (whole_turn side) from ≡ found
    → ((next : RunState) → rested setting fuel (other side) 2 next ≡ Some end → Rests setting (other side) 2 next end.state end.ending)
    → (rested setting fuel (other side) idle from ≡ Some end → Rests setting (other side) idle from end.state end.ending)
    → (elim found as (λ t. Option RunEnd) [ leads next ↦ rested setting fuel (other side) 2 next | idles ↦ rested setting fuel (other side) idle from | exceeds ↦ Some (record { state = from; ending = at_limit side }) ]) ≡ Some end
    → Rests setting side (suc idle) from end.state end.ending
rested-next setting fuel side idle from (leads next) end is h k e = goes_on side idle from next end.state end.ending is (h next e)
rested-next setting fuel side idle from idles end is h k e = passes side idle from end.state end.ending is (k e)
rested-next setting fuel side idle from exceeds end is h k e =
    subst (λ x. Rests setting side (suc idle) from x.state x.ending) (same_end (record { state = from; ending = at_limit side }) end e) (stops side idle from is)

rested-rests : (setting : Setting) (fuel : ℕ) (side : Side) (idle : ℕ) (from : RunState) (end : RunEnd) → rested setting fuel side idle from ≡ Some end → Rests setting side idle from end.state end.ending
rested-rests setting zero side zero from end e = subst (λ x. Rests setting side 0 from x.state x.ending) (same_end (record { state = from; ending = at_rest }) end e) (rests side from)
rested-rests setting (suc fuel) side zero from end e = subst (λ x. Rests setting side 0 from x.state x.ending) (same_end (record { state = from; ending = at_rest }) end e) (rests side from)
rested-rests setting zero side (suc idle) from end e = cc
rested-rests setting (suc fuel) side (suc idle) from end e =
    rested-next setting fuel side idle from (outcome setting (whole_turn side) from) end refl
    (λ next. rested-rests setting fuel (other side) 2 next end) (rested-rests setting fuel (other side) idle from end) e

picked-next : (setting : Setting) (fuel : ℕ) (turn : Turn) (word : List Turn) (from : RunState) (found : TurnOutcome) (end : RunEnd) → outcome setting turn from ≡ found
    → ((next : RunState) → picked setting fuel word next ≡ Some end → Picks setting word next end.state end.ending)
    → (elim found as (λ t. Option RunEnd) [ leads next ↦ picked setting fuel word next | idles ↦ picked setting fuel word from | exceeds ↦ Some (record { state = from; ending = at_limit turn.side }) ]) ≡ Some end
    → Picks setting (turn ∷ word) from end.state end.ending
picked-next setting fuel turn word from (leads next) end is h e = turn_leads turn word from next end.state end.ending is (h next e)
picked-next setting fuel turn word from idles end is h e = turn_idles turn word from end.state end.ending is (h from e)
picked-next setting fuel turn word from exceeds end is h e =
    subst (λ x. Picks setting (turn ∷ word) from x.state x.ending) (same_end (record { state = from; ending = at_limit turn.side }) end e) (turn_exceeds turn word from is)

pub functions_pick : FunctionsPick
functions_pick setting fuel [] from end e = word_ends from end.state end.ending (rested-rests setting fuel sides.Parent 2 from end e)
functions_pick setting fuel (turn ∷ word) from end e =
    picked-next setting fuel turn word from (outcome setting turn from) end refl (λ next. functions_pick setting fuel word next end) e
