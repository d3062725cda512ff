-- Numbers of promises.
use Rattle.std.proofs.Common.{◌≡◌, ℤ, ◌<◌, ◌≤◌, Bool, true, false, List, length, get_or, Option, Some, None, sym, refl, ap, ◌∙◌, arith, cond, ◌&&◌, ◌↔◌, inl, inr}
use Rattle.std.specs.List.{position_or_len}
use Rattle.std.proofs.lemmas.Bool.Decides.{Decides-int_eq}
use Rattle.std.proofs.lemmas.Bool.{cases_lt, false≢true}
use Rattle.std.proofs.lemmas.List.Sums.{fails_before_first, passes_at_first}
use Rattle.std.proofs.lemmas.List.Folds.{find_at}
use Rattle.std.proofs.lemmas.List.{get_or-map, length-map}
use Rattle.std.proofs.lemmas.Option.{slice_get-get_or, slice_get_past}
use Rattle.promise_table.specs.declared.promise.Outcome.{Outcome}
use Rattle.promise_table.specs.declared.promise.Promise.{Promise}
use Rattle.promise_table.specs.declared.promise.Settling.{Settling}
use Rattle.promise_table.specs.declared.promise.Settling.TheVariants.{Now, Already, Unknown}
use Rattle.promise_table.specs.Promises.{made, has_number, is_pending, settled, with_settled, settling_of, promise_of, HaveDistinctNumbers, IsUnmade}

-- a promise keeps its number
pub seq-settled : (seq : ℤ) (outcome : Outcome) (p : Promise) → (settled seq outcome p).seq ≡ p.seq
seq-settled seq outcome p = go (has_number seq p && is_pending p) where
  go : (b : Bool) → (cond b (record p { outcome = Some outcome }) p).seq ≡ p.seq
  go true = refl
  go false = refl

-- numbers stay apart
pub distinct_settled : (ps : List Promise) (seq : ℤ) (outcome : Outcome) → HaveDistinctNumbers ps → HaveDistinctNumbers (with_settled ps seq outcome)
distinct_settled ps seq outcome apart i j d l m e =
    let n : j < length ps = omega (arith, length-map ps (settled seq outcome)) in
    let k : i < length ps = omega arith in
    let first : get_or (with_settled ps seq outcome) i d ≡ settled seq outcome (get_or ps i d) = get_or-map (settled seq outcome) ps i d d k in
    let second : get_or (with_settled ps seq outcome) j d ≡ settled seq outcome (get_or ps j d) = get_or-map (settled seq outcome) ps j d d n in
    apart i j d l n (sym (seq-settled seq outcome (get_or ps i d)) ∙ ap (λ (p : Promise). p.seq) (sym first) ∙ e ∙ ap (λ (p : Promise). p.seq) second ∙ seq-settled seq outcome (get_or ps j d))

-- where nothing is found, no promise has the number
unmade_if : (ps : List Promise) (seq : ℤ) → promise_of ps seq ≡ None → IsUnmade ps seq
unmade_if ps seq h k d l e =
    let first = position_or_len (has_number seq) ps in
    let past : length ps ≤ first = elim (cases_lt first (length ps)) [
      | inl m ↦ (let e : None ≡ Some (get_or ps first d) = sym h ∙ find_at (has_number seq) ps ∙ slice_get-get_or ps first d m in cc)
      | inr m ↦ m
    ] in
    false≢true (sym (fails_before_first (has_number seq) ps k d (omega arith)) ∙ (Decides-int_eq (get_or ps k d).seq seq).1 e)

-- where no promise has the number, nothing is found
pub none_if : (ps : List Promise) (seq : ℤ) → IsUnmade ps seq → promise_of ps seq ≡ None
none_if ps seq h =
    let first = position_or_len (has_number seq) ps in
    let d : Promise = made seq seq in
    elim (cases_lt first (length ps)) [
      | inl m ↦ absurd (h first d m ((Decides-int_eq (get_or ps first d).seq seq).0 (passes_at_first (has_number seq) ps d m)))
      | inr m ↦ find_at (has_number seq) ps ∙ slice_get_past ps first m
    ]

-- a settling is unknown exactly where nothing is found
unknown_if : (o : Option Promise) → Unknown ≡ settling_of o → o ≡ None
unknown_if None e = refl
unknown_if (Some p) e = go (is_pending p) e where
  go : (b : Bool) → Unknown ≡ cond b Now Already → Some p ≡ None
  go true e = cc
  go false e = cc

-- a settling is unknown exactly where no promise has the number
pub unknown_unmade : (ps : List Promise) (seq : ℤ) (s : Settling) → s ≡ settling_of (promise_of ps seq) → (s ≡ Unknown) ↔ IsUnmade ps seq
unknown_unmade ps seq s h =
    (λ e. unmade_if ps seq (unknown_if (promise_of ps seq) (sym e ∙ h)), λ u. h ∙ ap settling_of (none_if ps seq u))
