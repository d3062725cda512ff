-- What letters do, by what sides may do.
use Rattle.std.proofs.Common.{◌≡◌, ◌⊎◌, inl, inr, ◌+◌, ◌<◌, Bool, true, false, not, if◌then◌else◌, Option, Some, None, is_some, refl, sym, ap, subst, ◌∙◌, arith}
use Rattle.ipdl_base.specs.declared.kinds.Side.{Side}
use Rattle.ipdl_base.specs.declared.kinds.Side.TheVariants as sides
use Rattle.channel_model.specs.Runs.{RunState}
use Rattle.schedules.specs.declared.turn.Turn.{Turn}
use Rattle.script_steps.specs.Choices.{Setting, Choice, is_within, may_deliver, own_event}
use Rattle.script_steps.specs.Turns.{leads, idles, exceeds, delivery_choice, led_to, outcome, turn_choice}
use Rattle.explorations.specs.Words.{place_in_order, rank}
use Rattle.explorer.proofs.Points.{outcome-so, outcome_so}
use Rattle.explorer.specs.declared.letters.Offer.TheVariants as offer
use Rattle.explorer.specs.Offers.{following, offer_by}
use Rattle.explorer.specs.Places.{rank_of}

pub next-rank : (turn : Turn) → rank_of (following turn.only_deliver turn.side) ≡ rank turn + 1
next-rank turn = by turn.only_deliver turn.side
  where
    by : (only : Bool) (side : Side) → rank_of (following only side) ≡ place_in_order only side + 1
    by false sides.Parent = refl
    by false sides.Child = refl
    by true sides.Parent = refl
    by true sides.Child = refl

-- the choice of a turn of a side that may do this
abbrev choice_so : Side → Bool → Bool → Bool → Option Choice
choice_so side true acts receives = if receives then Some (record { side = side; delivers = true }) else None
choice_so side false true receives = Some (record { side = side; delivers = false })
choice_so side false false receives = if receives then Some (record { side = side; delivers = true }) else None

-- What a side may do at a state.
pub record MayDo (setting : Setting) (side : Side) (state : RunState) (acts receives spent : Bool) : Type 0 where
  pub own : acts ≡ is_some (own_event setting side state)
  pub delivery : receives ≡ may_deliver side state.world
  pub full : spent ≡ not (is_within setting side state)

not-twice : (b : Bool) → not (not b) ≡ b
not-twice true = refl
not-twice false = refl

module _ (setting : Setting) (side : Side) (state : RunState) (acts receives spent : Bool) (may : MayDo setting side state acts receives spent) where
  delivery-so : delivery_choice side state ≡ (if receives then Some (record { side = side; delivers = true }) else None)
  delivery-so = ap (λ (b : Bool). if b then Some (record { side = side; delivers = true }) else None) (sym may.delivery)

  whole-so : (b : Bool) → acts ≡ b → turn_choice setting (record { side = side; only_deliver = false }) state ≡ choice_so side false b receives
  whole-so true e = ap (λ (b : Bool). if b then Some (record { side = side; delivers = false }) else delivery_choice side state) (sym may.own ∙ e)
  whole-so false e = ap (λ (b : Bool). if b then Some (record { side = side; delivers = false }) else delivery_choice side state) (sym may.own ∙ e) ∙ delivery-so

  choice-is : (only : Bool) → turn_choice setting (record { side = side; only_deliver = only }) state ≡ choice_so side only acts receives
  choice-is true = delivery-so
  choice-is false = whole-so acts refl

  does : (only : Bool) → outcome setting (record { side = side; only_deliver = only }) state ≡ outcome_so setting side state (choice_so side only acts receives) (not spent)
  does only = outcome-so setting (record { side = side; only_deliver = only }) state (choice_so side only acts receives) (not spent) (choice-is only) (sym (not-twice (is_within setting side state)) ∙ ap not (sym may.full))

-- What an earlier letter of the same side does too.
pub record IsDoneBefore (setting : Setting) (turn : Turn) (state : RunState) : Type 0 where
  pub letter : Turn
  pub earlier : rank letter < rank turn
  pub side_is : letter.side ≡ turn.side
  pub both : ((next : RunState) × (outcome setting turn state ≡ leads next) × (outcome setting letter state ≡ leads next)) ⊎ ((outcome setting turn state ≡ exceeds) × (outcome setting letter state ≡ exceeds))

small-later : (side : Side) → place_in_order false side < place_in_order true side
small-later sides.Parent = omega arith
small-later sides.Child = omega arith

done-by : (setting : Setting) (side : Side) (state : RunState) (acts spent : Bool) → MayDo setting side state acts true spent → offer_by true acts true spent ≡ offer.Nothing → IsDoneBefore setting (record { side = side; only_deliver = true }) state
done-by setting side state true false may h = cc
done-by setting side state false false may h = record {
  letter = record { side = side; only_deliver = false };
  earlier = small-later side;
  side_is = refl;
  both = inl (led_to setting (record { side = side; delivers = true }) state, does setting side state false true false may true, does setting side state false true false may false);
}
done-by setting side state true true may h = record {
  letter = record { side = side; only_deliver = false };
  earlier = small-later side;
  side_is = refl;
  both = inr (does setting side state true true true may true, does setting side state true true true may false);
}
done-by setting side state false true may h = record {
  letter = record { side = side; only_deliver = false };
  earlier = small-later side;
  side_is = refl;
  both = inr (does setting side state false true true may true, does setting side state false true true may false);
}

nothing-by : (setting : Setting) (side : Side) (state : RunState) (only acts receives spent : Bool) → MayDo setting side state acts receives spent → offer_by only acts receives spent ≡ offer.Nothing
    → (outcome setting (record { side = side; only_deliver = only }) state ≡ idles) ⊎ IsDoneBefore setting (record { side = side; only_deliver = only }) state
nothing-by setting side state true acts false spent may h = inl (does setting side state acts false spent may true)
nothing-by setting side state true acts true spent may h = inr (done-by setting side state acts spent may h)
nothing-by setting side state false true receives true may h = cc
nothing-by setting side state false true receives false may h = cc
nothing-by setting side state false false true true may h = cc
nothing-by setting side state false false true false may h = cc
nothing-by setting side state false false false spent may h = inl (does setting side state false false spent may false)

pub nothing-new : (setting : Setting) (turn : Turn) (state : RunState) (acts receives spent : Bool) → MayDo setting turn.side state acts receives spent → offer_by turn.only_deliver acts receives spent ≡ offer.Nothing
    → (outcome setting turn state ≡ idles) ⊎ IsDoneBefore setting turn state
nothing-new setting turn state acts receives spent may h = nothing-by setting turn.side state turn.only_deliver acts receives spent may h

spent-by : (setting : Setting) (side : Side) (state : RunState) (only acts receives spent : Bool) → MayDo setting side state acts receives spent → offer_by only acts receives spent ≡ offer.Spent
    → (outcome setting (record { side = side; only_deliver = only }) state ≡ exceeds) × (only ≡ false)
spent-by setting side state true true true true may h = cc
spent-by setting side state true true true false may h = cc
spent-by setting side state true true false spent may h = cc
spent-by setting side state true false receives spent may h = cc
spent-by setting side state false true receives true may h = (does setting side state true receives true may false, refl)
spent-by setting side state false true receives false may h = cc
spent-by setting side state false false true true may h = (does setting side state false true true may false, refl)
spent-by setting side state false false true false may h = cc
spent-by setting side state false false false spent may h = cc

pub spent-does : (setting : Setting) (turn : Turn) (state : RunState) (acts receives spent : Bool) → MayDo setting turn.side state acts receives spent → offer_by turn.only_deliver acts receives spent ≡ offer.Spent
    → (outcome setting turn state ≡ exceeds) × (turn.only_deliver ≡ false)
spent-does setting turn state acts receives spent may h = spent-by setting turn.side state turn.only_deliver acts receives spent may h

-- A letter by which its side makes a step.
pub record Steps (setting : Setting) (turn : Turn) (state : RunState) (delivers : Bool) : Type 0 where
  pub chooses : turn_choice setting turn state ≡ Some (record { side = turn.side; delivers = delivers })
  pub goes : outcome setting turn state ≡ leads (led_to setting (record { side = turn.side; delivers = delivers }) state)

step-of : {b delivers : Bool} → offer.Step b ≡ offer.Step delivers → b ≡ delivers
step-of h = cc

steps-so : (setting : Setting) (side : Side) (state : RunState) (only b delivers : Bool) → b ≡ delivers → turn_choice setting (record { side = side; only_deliver = only }) state ≡ Some (record { side = side; delivers = b })
    → outcome setting (record { side = side; only_deliver = only }) state ≡ leads (led_to setting (record { side = side; delivers = b }) state) → Steps setting (record { side = side; only_deliver = only }) state delivers
steps-so setting side state only b delivers e c o = subst (λ (x : Bool). Steps setting (record { side = side; only_deliver = only }) state x) e (record { chooses = c; goes = o })

step-by : (setting : Setting) (side : Side) (state : RunState) (only acts receives spent delivers : Bool) → MayDo setting side state acts receives spent → offer_by only acts receives spent ≡ offer.Step delivers
    → Steps setting (record { side = side; only_deliver = only }) state delivers
step-by setting side state true true true true delivers may h = cc
step-by setting side state true true true false delivers may h = steps-so setting side state true true delivers (step-of h) (choice-is setting side state true true false may true) (does setting side state true true false may true)
step-by setting side state true true false spent delivers may h = cc
step-by setting side state true false receives spent delivers may h = cc
step-by setting side state false true receives true delivers may h = cc
step-by setting side state false true receives false delivers may h =
    steps-so setting side state false false delivers (step-of h) (choice-is setting side state true receives false may false) (does setting side state true receives false may false)
step-by setting side state false false true true delivers may h = cc
step-by setting side state false false true false delivers may h = steps-so setting side state false true delivers (step-of h) (choice-is setting side state false true false may false) (does setting side state false true false may false)
step-by setting side state false false false spent delivers may h = cc

pub step-does : (setting : Setting) (turn : Turn) (state : RunState) (acts receives spent delivers : Bool) → MayDo setting turn.side state acts receives spent → offer_by turn.only_deliver acts receives spent ≡ offer.Step delivers → Steps setting turn state delivers
step-does setting turn state acts receives spent delivers may h = step-by setting turn.side state turn.only_deliver acts receives spent delivers may h
