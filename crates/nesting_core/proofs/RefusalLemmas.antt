use Rattle.std.proofs.Common.{◌≡◌, ◌↔◌, ◌<◌, Bool, true, false, ◌&&◌, nat_le, cond, IsTrue, List, length, Option, Some, None, refl, ap, sym, ◌∙◌}
use Rattle.std.proofs.lemmas.Bool.{leb-false}
use Rattle.ipdl_base.specs.declared.kinds.SendRefusal.{SendRefusal}
use Rattle.ipdl_base.specs.declared.kinds.SendRefusal.TheVariants.{NestedInNormal, InsideCpow, LevelTooLow, TooDeep}
use Rattle.nesting_core.specs.declared.frame.StackFrame.{StackFrame}
use Rattle.nesting_core.specs.declared.frame.SendHead.{SendHead}
use Rattle.nesting_core.specs.Refusals.{is_nested_in_normal, is_inside_cpow, is_level_too_low, is_too_deep, refusal_of, IsNestedInNormal, IsInsideCpow, IsLevelTooLow, IsTooDeep}

-- the first of four causes
abbrev first : Bool → Bool → Bool → Bool → Option SendRefusal
first a b c d = cond a (Some NestedInNormal) (cond b (Some InsideCpow) (cond c (Some LevelTooLow) (cond d (Some TooDeep) None)))

-- when none of four causes holds
free_of : (a b c d : Bool) → first a b c d ≡ None → (a ≡ false) × (b ≡ false) × (c ≡ false) × (d ≡ false)
free_of true b c d h = cc
free_of false true c d h = cc
free_of false false true d h = cc
free_of false false false true h = cc
free_of false false false false h = (refl, refl, refl, refl)

first-1 : (a b c d : Bool) → (first a b c d ≡ Some NestedInNormal) ↔ IsTrue a
first-1 true b c d = (λ h. refl, λ t. refl)
first-1 false true c d = (λ h. cc, λ t. cc)
first-1 false false true d = (λ h. cc, λ t. cc)
first-1 false false false true = (λ h. cc, λ t. cc)
first-1 false false false false = (λ h. cc, λ t. cc)

first-2 : (a b c d : Bool) → (first a b c d ≡ Some InsideCpow) ↔ (¬ IsTrue a × IsTrue b)
first-2 true b c d = (λ h. cc, λ t. absurd (t.0 refl))
first-2 false true c d = (λ h. (λ (no : IsTrue false). cc, refl), λ t. refl)
first-2 false false true d = (λ h. cc, λ t. cc)
first-2 false false false true = (λ h. cc, λ t. cc)
first-2 false false false false = (λ h. cc, λ t. cc)

first-3 : (a b c d : Bool) → (first a b c d ≡ Some LevelTooLow) ↔ (¬ IsTrue a × ¬ IsTrue b × IsTrue c)
first-3 true b c d = (λ h. cc, λ t. absurd (t.0 refl))
first-3 false true c d = (λ h. cc, λ t. absurd (t.1 refl))
first-3 false false true d = (λ h. (λ (no : IsTrue false). cc, λ (no : IsTrue false). cc, refl), λ t. refl)
first-3 false false false true = (λ h. cc, λ t. cc)
first-3 false false false false = (λ h. cc, λ t. cc)

first-4 : (a b c d : Bool) → (first a b c d ≡ Some TooDeep) ↔ (¬ IsTrue a × ¬ IsTrue b × ¬ IsTrue c × IsTrue d)
first-4 true b c d = (λ h. cc, λ t. absurd (t.0 refl))
first-4 false true c d = (λ h. cc, λ t. absurd (t.1 refl))
first-4 false false true d = (λ h. cc, λ t. absurd (t.2 refl))
first-4 false false false true = (λ h. (λ (no : IsTrue false). cc, λ (no : IsTrue false). cc, λ (no : IsTrue false). cc, refl), λ t. refl)
first-4 false false false false = (λ h. cc, λ t. cc)

-- exactly where each cause is the answer: it holds, and none before it does

pub refusal_of-NestedInNormal : (frames : List StackFrame) (send : SendHead) → (refusal_of frames send ≡ Some NestedInNormal) ↔ IsNestedInNormal frames send
refusal_of-NestedInNormal frames send = first-1 (is_nested_in_normal frames send) (is_inside_cpow frames send) (is_level_too_low frames send) (is_too_deep frames send)

pub refusal_of-InsideCpow : (frames : List StackFrame) (send : SendHead) → (refusal_of frames send ≡ Some InsideCpow) ↔ (¬ IsNestedInNormal frames send × IsInsideCpow frames send)
refusal_of-InsideCpow frames send = first-2 (is_nested_in_normal frames send) (is_inside_cpow frames send) (is_level_too_low frames send) (is_too_deep frames send)

pub refusal_of-LevelTooLow : (frames : List StackFrame) (send : SendHead) → (refusal_of frames send ≡ Some LevelTooLow) ↔ (¬ IsNestedInNormal frames send × ¬ IsInsideCpow frames send × IsLevelTooLow frames send)
refusal_of-LevelTooLow frames send = first-3 (is_nested_in_normal frames send) (is_inside_cpow frames send) (is_level_too_low frames send) (is_too_deep frames send)

pub refusal_of-TooDeep : (frames : List StackFrame) (send : SendHead) → (refusal_of frames send ≡ Some TooDeep) ↔ (¬ IsNestedInNormal frames send × ¬ IsInsideCpow frames send × ¬ IsLevelTooLow frames send × IsTooDeep frames send)
refusal_of-TooDeep frames send = first-4 (is_nested_in_normal frames send) (is_inside_cpow frames send) (is_level_too_low frames send) (is_too_deep frames send)

-- a sync send that is not refused leaves room for its wait
pub room_for_wait : (frames : List StackFrame) (send : SendHead) → send.sync ≡ true → refusal_of frames send ≡ None → length frames < 63
room_for_wait frames send sync free =
    let none = free_of (is_nested_in_normal frames send) (is_inside_cpow frames send) (is_level_too_low frames send) (is_too_deep frames send) free in
    let shallow : (true && nat_le 63 (length frames)) ≡ false = ap (λ b. b && nat_le 63 (length frames)) (sym sync) ∙ none.3 in
    leb-false 63 (length frames) shallow
