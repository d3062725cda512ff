-- A least set over finitely many candidates is decided, by rounds that mark one candidate each.
use Rattle.std.proofs.Common.{◌≡◌, ◌⊎◌, ℕ, zero, suc, ◌≤◌, List, [], ◌∷◌, Contains, length, refl, sym, ap, subst, inl, inr, ⊎_elim, arith}
use Rattle.report_existence.proofs.Finite.{contains_none, contains_more, contains_cases}

-- an element with a property is taken out of a list, and each other one is in the rest
record IsTaken {X : Type 0} (Holds : X → Type 0) (xs : List X) (x : X) (rest : List X) : Type 0 where
  pub holds : Holds x
  pub shorter : length xs ≡ suc (length rest)
  pub left : (y : X) → Contains xs y → (x ≡ y) ⊎ Contains rest y

abbrev Taken : {X : Type 0} → (X → Type 0) → List X → Type 0
Taken {X} Holds xs = (x : X) × (rest : List X) × IsTaken Holds xs x rest

taken_later : {X : Type 0} (Holds : X → Type 0) (z : X) (xs : List X) → Taken Holds xs → Taken Holds (z ∷ xs)
taken_later Holds z xs (x, rest, t) = (
  x,
  z ∷ rest,
  record {
    holds = t.holds;
    shorter = ap suc t.shorter;
    left = λ y c.
        ⊎_elim
        (λ (e : z ≡ y). inr (contains_more z rest y (inl e)))
        (λ (more : Contains xs y). ⊎_elim (λ (e : x ≡ y). inl e) (λ (other : Contains rest y). inr (contains_more z rest y (inr other))) (t.left y more))
        (contains_cases z xs y c);
  },
)

-- one is taken, or no element has the property
taken_or_none : {X : Type 0} (Holds : X → Type 0) → ((x : X) → Holds x ⊎ (Holds x → ⊥)) → (xs : List X) → Taken Holds xs ⊎ ((y : X) → Contains xs y → Holds y → ⊥)
taken_or_none Holds each [] = inr (λ y c. absurd (contains_none y c))
taken_or_none {X} Holds each (z ∷ xs) =
    ⊎_elim
    (λ (here : Holds z). inl (z, xs, record { holds = here; shorter = refl; left = contains_cases z xs }))
    (λ (not_here : Holds z → ⊥).
    ⊎_elim
    (λ (later : Taken Holds xs). inl (taken_later Holds z xs later))
    (λ (none : (y : X) → Contains xs y → Holds y → ⊥).
    inr (λ y c h.
    ⊎_elim (λ (e : z ≡ y). not_here (subst Holds (sym e) h)) (λ (more : Contains xs y). none y more h) (contains_cases z xs y c)))
    (taken_or_none Holds each xs))
    (each z)

-- Marks at the end of the rounds: what is marked is in the set, and each candidate to which a step leads from the marks is marked.
pub record AreClosed {X : Type 0} (all : List X) (P : X → Type 0) (Step : List X → X → Type 0) (marks : List X) : Type 0 where
  pub sound : (x : X) → Contains marks x → P x
  pub closed : (x : X) → Contains all x → Step marks x → Contains marks x

-- marks between two rounds, and the candidates that are left
record AreMarks {X : Type 0} (all : List X) (P : X → Type 0) (marks left : List X) : Type 0 where
  pub sound : (x : X) → Contains marks x → P x
  pub whole : (x : X) → Contains all x → Contains marks x ⊎ Contains left x

module _ {X : Type 0} (all : List X) (P : X → Type 0) (Step : List X → X → Type 0) where
  round : ((marks : List X) → ((y : X) → Contains marks y → P y) → (x : X) → Step marks x → P x) → (marks left : List X) → AreMarks all P marks left → (x : X) (rest : List X) → IsTaken (Step marks) left x rest → AreMarks all P (x ∷ marks) rest
  round sound marks left are x rest t = record {
    sound = λ y c. ⊎_elim (λ (e : x ≡ y). subst P e (sound marks are.sound x t.holds)) (λ (old : Contains marks y). are.sound y old) (contains_cases x marks y c);
    whole = λ y c.
        ⊎_elim
        (λ (old : Contains marks y). inl (contains_more x marks y (inr old)))
        (λ (other : Contains left y). ⊎_elim (λ (e : x ≡ y). inl (contains_more x marks y (inl e))) (λ (more : Contains rest y). inr more) (t.left y other))
        (are.whole y c);
  }

  -- if no step leads to one that is left, the marks are closed
  last : (marks left : List X) → AreMarks all P marks left → ((y : X) → Contains left y → Step marks y → ⊥) → AreClosed all P Step marks
  last marks left are none = record {
    sound = are.sound;
    closed = λ x c s. ⊎_elim (λ (here : Contains marks x). here) (λ (other : Contains left x). absurd (none x other s)) (are.whole x c);
  }

  rounds : ((marks : List X) (x : X) → Step marks x ⊎ (Step marks x → ⊥)) → ((marks : List X) → ((y : X) → Contains marks y → P y) → (x : X) → Step marks x → P x)
      → (fuel : ℕ) (marks left : List X) → length left ≤ fuel → AreMarks all P marks left → (end : List X) × AreClosed all P Step end
  rounds decided sound zero marks left enough are =
      ⊎_elim
      (λ (t : Taken (Step marks) left). let s = t.2.shorter in absurd (omega (arith, enough, s)))
      (λ (none : (y : X) → Contains left y → Step marks y → ⊥). (marks, last marks left are none))
      (taken_or_none (Step marks) (decided marks) left)
  rounds decided sound (suc fuel) marks left enough are =
      ⊎_elim
      (λ (t : Taken (Step marks) left). let s = t.2.shorter in rounds decided sound fuel (t.0 ∷ marks) t.1 (omega (arith, enough, s)) (round sound marks left are t.0 t.1 t.2))
      (λ (none : (y : X) → Contains left y → Step marks y → ⊥). (marks, last marks left are none))
      (taken_or_none (Step marks) (decided marks) left)

  -- Marking ends, if steps are decided and lead from elements of the set to elements of the set.
  pub closed_marks : ((marks : List X) (x : X) → Step marks x ⊎ (Step marks x → ⊥)) → ((marks : List X) → ((y : X) → Contains marks y → P y) → (x : X) → Step marks x → P x) → (end : List X) × AreClosed all P Step end
  closed_marks decided sound =
      rounds decided sound (length all) [] all (omega arith) (record { sound = λ x c. absurd (contains_none x c); whole = λ x c. inr c })

  -- The set is decided, if from closed marks a step also leads to everything that is in the set.
  pub least_or_not : ((marks : List X) (x : X) → Step marks x ⊎ (Step marks x → ⊥)) → ((marks : List X) → ((y : X) → Contains marks y → P y) → (x : X) → Step marks x → P x)
      → ((marks : List X) → ((y : X) → Contains all y → Step marks y → Contains marks y) → (x : X) → P x → Step marks x)
      → (x : X) → P x ⊎ (P x → ⊥)
  least_or_not decided sound complete x =
      let end = closed_marks decided sound in
      ⊎_elim (λ (s : Step end.0 x). inl (sound end.0 end.1.sound x s)) (λ (none : Step end.0 x → ⊥). inr (λ h. none (complete end.0 end.1.closed x h))) (decided end.0 x)
