-- Lists of choices and their numbers.
use Rattle.std.proofs.Common.{◌≡◌, ◌⊎◌, inl, inr, ℕ, suc, ◌+◌, ◌<◌, Bool, true, false, eqb, ◌&&◌, if◌then◌else◌, List, [], ◌∷◌, ◌++◌, get_or, slice_get, Some, refl, sym, ap, subst, ◌∙◌, true≢false, arith}
use Rattle.std.specs.List.{IsDistinct}
use Rattle.std.proofs.lemmas.Bool.{cases_order, eq-eqb, eqb-true}
use Rattle.std.proofs.lemmas.List.{append-nil}
use Rattle.std.proofs.Math.Bool.{beq}
use Rattle.std.proofs.lemmas.Map.Keys.{apart_from_distinct}
use Rattle.std.proofs.lemmas.Option.{get_or_from_slice_get, slice_get_within}
use Rattle.explorer.proofs.Lists.{get-append, none-last, same-last}
use Rattle.explorer.specs.declared.histories.NextChoice.{NextChoice}
use Rattle.explorer.specs.Numbering.{IsListOf, begins, follows}

-- a number stays that of its list
pub list-kept : (choices more : List NextChoice) {number : ℕ} {list : List Bool} → IsListOf choices number list → IsListOf (choices ++ more) number list
list-kept choices more (begins number list n l) = begins number list n l
list-kept choices more (follows number place choice before list n at first l) = follows number place choice before list n (get-append choices more place choice at) (list-kept choices more first) l

-- a number is that of one list
pub one-list : (choices : List NextChoice) {number : ℕ} {list : List Bool} → IsListOf choices number list → (same : ℕ) (again : List Bool) → IsListOf choices same again → number ≡ same → list ≡ again
one-list choices (begins number list n l) same again (begins _ _ m k) e = l ∙ sym k
one-list choices (begins number list n l) same again (follows _ place choice before _ m at first k) e = let z : 0 ≡ suc place = sym n ∙ e ∙ m in cc
one-list choices (follows number place choice before list n at first l) same again (begins _ _ m k) e = let z : 0 ≡ suc place = sym m ∙ sym e ∙ n in cc
one-list choices (follows number place choice before list n at first l) same again (follows _ other step front _ m at_too first_too k) e =
    let p : suc place ≡ suc other = sym n ∙ e ∙ m in
    let q : place ≡ other = cc in
    let c : Some choice ≡ Some step = sym at ∙ ap (slice_get choices) q ∙ at_too in
    let d : choice ≡ step = cc in
    l ∙ ap (λ bs. bs ++ choice.delivers ∷ []) (one-list choices first step.before front first_too (ap (λ (x : NextChoice). x.before) d)) ∙ ap (λ (x : NextChoice). front ++ x.delivers ∷ []) d ∙ sym k

-- and a list has one number, if no two places have the same choice
pub one-number : (choices : List NextChoice) → ((one other : ℕ) (choice : NextChoice) → slice_get choices one ≡ Some choice → slice_get choices other ≡ Some choice → one ≡ other)
    → {number : ℕ} {list : List Bool} → IsListOf choices number list → (same : ℕ) (again : List Bool) → IsListOf choices same again → list ≡ again → number ≡ same
one-number choices apart (begins number list n l) same again (begins _ _ m k) e = n ∙ sym m
one-number choices apart (begins number list n l) same again (follows _ place choice before _ m at first k) e = absurd (none-last before choice.delivers (sym l ∙ e ∙ k))
one-number choices apart (follows number place choice before list n at first l) same again (begins _ _ m k) e = absurd (none-last before choice.delivers (sym k ∙ sym e ∙ l))
one-number choices apart (follows number place choice before list n at first l) same again (follows _ other step front _ m at_too first_too k) e =
    let both = same-last before front choice.delivers step.delivers (sym l ∙ e ∙ k) in
    let b : choice.before ≡ step.before = one-number choices apart first step.before front first_too both.0 in
    let d : choice ≡ step = ap (λ (x : ℕ). record { before = x; delivers = choice.delivers }) b ∙ ap (λ (x : Bool). record { before = step.before; delivers = x }) both.1 in
    n ∙ ap suc (apart place other choice at (at_too ∙ ap Some (sym d))) ∙ sym m

-- A set has each choice once

abbrev pub choice_eq : NextChoice → NextChoice → Bool
choice_eq one other = eqb one.before other.before && beq one.delivers other.delivers

beq-true : (p q : Bool) → beq p q ≡ true → p ≡ q
beq-true true true h = refl
beq-true true false h = cc
beq-true false true h = cc
beq-true false false h = refl

beq-self : (p : Bool) → beq p p ≡ true
beq-self true = refl
beq-self false = refl

pub both-true : (p q : Bool) → (p && q) ≡ true → (p ≡ true) × (q ≡ true)
both-true true q h = (refl, h)
both-true false q h = cc

pub choice-same : (one other : NextChoice) → choice_eq one other ≡ true → one ≡ other
choice-same one other h =
    let both = both-true (eqb one.before other.before) (beq one.delivers other.delivers) h in
    ap (λ (x : ℕ). record { before = x; delivers = one.delivers }) (eqb-true one.before other.before both.0) ∙ ap (λ (x : Bool). record { before = other.before; delivers = x }) (beq-true one.delivers other.delivers both.1)

choice-self : (choice : NextChoice) → choice_eq choice choice ≡ true
choice-self choice = ap (λ (b : Bool). b && beq choice.delivers choice.delivers) (eq-eqb choice.before choice.before refl) ∙ beq-self choice.delivers

pub apart-from : (choices : List NextChoice) → IsDistinct choice_eq choices → (one other : ℕ) (choice : NextChoice) → slice_get choices one ≡ Some choice → slice_get choices other ≡ Some choice → one ≡ other
apart-from choices apart one other choice h k = by (cases_order one other)
  where
    never : (i j : ℕ) → i < j → slice_get choices i ≡ Some choice → slice_get choices j ≡ Some choice → ⊥
    never i j less at at_too =
        let e = apart_from_distinct choice_eq choices i j choice apart less (slice_get_within choices j choice at_too) in
        let p = get_or_from_slice_get choices i choice choice at in
        let q = get_or_from_slice_get choices j choice choice at_too in
        true≢false (sym (choice-self choice) ∙ sym (ap (λ x. choice_eq x choice) p) ∙ sym (ap (λ x. choice_eq (get_or choices i choice) x) q) ∙ e)

    by : (one ≡ other) ⊎ ((one < other) ⊎ (other < one)) → one ≡ other
    by (inl e) = e
    by (inr (inl l)) = absurd (never one other l h k)
    by (inr (inr l)) = absurd (never other one l k h)

-- The number after one more choice

pub inserted : (b : Bool) (choices after : List NextChoice) (choice : NextChoice) → after ≡ (if b then choices else choices ++ choice ∷ []) → (more : List NextChoice) × (after ≡ choices ++ more)
inserted true choices after choice h = ([], h ∙ sym (append-nil choices))
inserted false choices after choice h = (choice ∷ [], h)

pub list-after : (choices after more : List NextChoice) (before place : ℕ) (delivers : Bool) (stored : NextChoice) (list : List Bool) → after ≡ choices ++ more → slice_get after place ≡ Some stored
    → choice_eq (record { before = before; delivers = delivers }) stored ≡ true → IsListOf choices before list → IsListOf after (place + 1) (list ++ delivers ∷ [])
list-after choices after more before place delivers stored list grown at same h =
    let e : record { before = before; delivers = delivers } ≡ stored = choice-same (record { before = before; delivers = delivers }) stored same in
    follows (place + 1) place (record { before = before; delivers = delivers }) list (list ++ delivers ∷ []) (omega arith) (at ∙ ap Some (sym e))
    (subst (λ (cs : List NextChoice). IsListOf cs before list) (sym grown) (list-kept choices more h)) refl
