-- A list up to the first element that passes a test, and up to the first `*/`.
use Rattle.std.proofs.Common.{◌≡◌, ℕ, ◌+◌, ◌<◌, ◌≤◌, Bool, true, false, List, [], ◌∷◌, ◌++◌, Option, Some, None, length, take, drop, unwrap_or, position, refl, subst, sym, ap, ◌∙◌, ⊎_elim, arith}
use Rattle.std.specs.List.{AllByRecursion, position_or_len}
use Rattle.std.proofs.lemmas.Bool.{cases_Bool, cases_lt, cond-true, cond-false, lt-ltb, le-ltb}
use Rattle.std.proofs.lemmas.List.{append-nil, drop_more, get_or_past, get_or_at, get_or-append-add, take-append-drop, length-take-le, length-append}
use Rattle.ipdl_lex.specs.Scan.{ClosesAt}

-- the list is empty or passes the test with its first element
abbrev pub StopsAt : (ℕ → Bool) → List ℕ → Type 0
StopsAt test [] = Unit {0}
StopsAt test (c ∷ cs) = test c ≡ true

-- a list cut before the first element that passes the test
pub record Run (test : ℕ → Bool) (text front rest : List ℕ) : Type 0 where
  pub split : text ≡ front ++ rest
  pub fails : AllByRecursion (λ b. test b ≡ false) front
  pub stops : StopsAt test rest

-- each list is cut so, and the length of the first part is what `position_or_len` gives
pub run_of : (test : ℕ → Bool) (text : List ℕ) → (front : List ℕ) × (rest : List ℕ) × Run test text front rest × (length front ≡ position_or_len test text)
run_of test [] = ([], [], record { split = refl; fails = tt; stops = tt }, refl)
run_of test (x ∷ xs) =
    let r = run_of test xs in
    ⊎_elim
    (λ (passes : test x ≡ true). ([], x ∷ xs, record { split = refl; fails = tt; stops = passes }, rw passes refl))
    (λ (fails : test x ≡ false). (
      x ∷ r.0,
      r.1,
      record { split = ap (λ l. x ∷ l) r.2.split; fails = (fails, r.2.fails); stops = r.2.stops },
      rw fails (omega (arith, r.3)),
    ))
    (cases_Bool (test x))

position-at : (test : ℕ → Bool) (text : List ℕ) → position_or_len test text < length text → position test text ≡ Some (position_or_len test text)
position-at test text h = cond-true _ _ _ (lt-ltb (position_or_len test text) (length text) h)

position-past : (test : ℕ → Bool) (text : List ℕ) → length text ≤ position_or_len test text → position test text ≡ None
position-past test text h = cond-false _ _ _ (le-ltb (position_or_len test text) (length text) h)

run_short : (test : ℕ → Bool) (text front rest : List ℕ) → Run test text front rest → length front + length rest ≡ length text
run_short test text front rest run = sym (ap length run.split ∙ length-append front rest)

-- the first part goes up to the index that `position` gives, or to the end
pub run_up_to : (test : ℕ → Bool) (text : List ℕ) (n : ℕ) → n ≡ unwrap_or (position test text) (length text) → (front : List ℕ) × (rest : List ℕ) × Run test text front rest × (length front ≡ n)
run_up_to test text n e =
    let r = run_of test text in
    let sum = run_short test text r.0 r.1 r.2 in
    let same : unwrap_or (position test text) (length text) ≡ position_or_len test text =
    ⊎_elim
    (λ (inside : position_or_len test text < length text). ap (λ o. unwrap_or o (length text)) (position-at test text inside))
    (λ (past : length text ≤ position_or_len test text). ap (λ o. unwrap_or o (length text)) (position-past test text past) ∙ (let r3 = r.3 in omega arith))
    (cases_lt (position_or_len test text) (length text)) in
    (r.0, r.1, r.2, r.3 ∙ sym same ∙ sym e)

-- what `position` means for a list: no element passes the test, or it is cut at the first that does
abbrev pub CutBy : (ℕ → Bool) → List ℕ → Option ℕ → Type 0
CutBy test text None = AllByRecursion (λ b. test b ≡ false) text
CutBy test text (Some n) =
    (front : List ℕ) × (b : ℕ) × (rest : List ℕ) × (text ≡ front ++ b ∷ rest) × AllByRecursion (λ c. test c ≡ false) front × (test b ≡ true) × (length front ≡ n)

cut_by_run : (test : ℕ → Bool) (text front rest : List ℕ) → Run test text front rest → length front ≡ position_or_len test text → CutBy test text (position test text)
cut_by_run test text front [] run is =
    let sum = run_short test text front [] run in
    let whole : text ≡ front = run.split ∙ append-nil front in
    subst (CutBy test text) (sym (position-past test text (omega arith))) (subst (AllByRecursion (λ b. test b ≡ false)) (sym whole) run.fails)
cut_by_run test text front (b ∷ bs) run is =
    let sum = run_short test text front (b ∷ bs) run in
    subst (CutBy test text) (sym (position-at test text (omega arith))) (front, b, bs, run.split, run.fails, run.stops, is)

pub cut_by : (test : ℕ → Bool) (text : List ℕ) (o : Option ℕ) → o ≡ position test text → CutBy test text o
cut_by test text o e =
    let r = run_of test text in
    subst (CutBy test text) (sym e) (cut_by_run test text r.0 r.1 r.2 r.3)

-- `*/` is where it is written
pub closes_at : (before after : List ℕ) → ClosesAt (before ++ 42 ∷ 47 ∷ after) (length before)
closes_at before after = record {
  star = get_or_at before 42 (47 ∷ after) 0 (length before) refl;
  slash = get_or-append-add before (42 ∷ 47 ∷ after) 1 0;
}

closes_within : (text : List ℕ) (k : ℕ) → ClosesAt text k → k + 1 < length text
closes_within text k h =
    ⊎_elim (λ inside. inside) (λ past. absurd (let e = get_or_past text (k + 1) 0 past in let s = h.slash in omega arith)) (cases_lt (k + 1) (length text))

-- `*/` is written where it is
pub closes_split : (text : List ℕ) (k : ℕ) → ClosesAt text k → (before : List ℕ) × (after : List ℕ) × (text ≡ before ++ 42 ∷ 47 ∷ after) × (length before ≡ k)
closes_split text k h =
    let inside = closes_within text k h in
    let first = drop_more text k 0 (omega arith) in
    let second = drop_more text (k + 1) 0 inside in
    let star = h.star in
    let slash = h.slash in
    let following : drop k text ≡ 42 ∷ 47 ∷ drop (k + 1 + 1) text = cc in (
      take k text,
      drop (k + 1 + 1) text,
      sym (take-append-drop k text) ∙ ap (λ l. take k text ++ l) following,
      length-take-le k text (omega arith),
    )
