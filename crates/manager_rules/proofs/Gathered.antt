-- How the findings of several rules and of several protocols are gathered.
use Rattle.std.proofs.Common.{◌≡◌, ℕ, ◌+◌, ◌<◌, ◌≤◌, List, [], ◌∷◌, ◌++◌, length, take, get_or, Some, slice_get, ◌⊎◌, inl, inr, refl, sym, ◌∙◌, subst, arith}
use Rattle.std.specs.List.{Any}
use Rattle.std.proofs.lemmas.Bool.{cases_lt}
use Rattle.std.proofs.lemmas.Option.{same_Some, slice_get_within}
use Rattle.ipdl_base.specs.declared.finding.Finding.{Finding}
use Rattle.ipdl_base.specs.declared.finding.Place.{Place}
use Rattle.ipdl_base.specs.declared.finding.Rule.{Rule}
use Rattle.findings.specs.Adds.{Adds}
use Rattle.findings.specs.Gains.{Gains, AtSome}
use Rattle.findings.proofs.Gains.{Adds-none, Adds-like, Adds-push, Adds-more}

-- a finding if this holds
pub adds_here : (rule : Rule) (at : Place) (P : Type 0) (old new : List Finding) → P → new ≡ old ++ record { place = at; rule = rule } ∷ [] → Adds rule (λ place. P × (at ≡ place)) old new
adds_here rule at P old new holds e =
    rw e (Adds-like rule (λ place. at ≡ place) (λ place. P × (at ≡ place)) old _ (Adds-push rule at old) (λ place h. (holds, h)) (λ place h. h.1))

-- no finding otherwise
pub adds_nothing : (rule : Rule) (P : Place → Type 0) (old new : List Finding) → ((place : Place) → ¬ P place) → new ≡ old → Adds rule P old new
adds_nothing rule P old new never e = rw e (Adds-none rule P old never)

-- no finding at no element
pub adds_first : {X : Type 0} (rule : Rule) (P : Place → X → Type 0) (old : List Finding) → Adds rule (λ place. Any (P place) []) old old
adds_first rule P old = Adds-none rule (λ place. Any (P place) []) old (λ place h. omega (arith, h.2))

-- a finding at the next element, with this property
pub adds_hit : {X : Type 0} (rule : Rule) (P : X → Type 0) (place_of : X → Place) (xs : List X) (i : ℕ) (x : X) (a b c : List Finding) → i < length xs → x ≡ get_or xs i x → P x → c ≡ b ++ record { place = place_of x; rule = rule } ∷ []
    → Adds rule (λ place. Any (λ y. P y × (place_of y ≡ place)) (take i xs)) a b → Adds rule (λ place. Any (λ y. P y × (place_of y ≡ place)) (take (i + 1) xs)) a c
adds_hit {X} rule P place_of xs i x a b c lt at holds e before =
    let Q : X → Type 0 = λ y. Adds rule (λ place. P y × (place_of y ≡ place)) b c in
    Adds-more rule (λ place y. P y × (place_of y ≡ place)) xs i x a b c lt before (subst Q at (adds_here rule (place_of x) (P x) b c holds e))

-- no finding at the next element, which does not have the property
pub adds_miss : {X : Type 0} (rule : Rule) (P : X → Type 0) (place_of : X → Place) (xs : List X) (i : ℕ) (x : X) (a b c : List Finding) → i < length xs → x ≡ get_or xs i x → ¬ P x → c ≡ b
    → Adds rule (λ place. Any (λ y. P y × (place_of y ≡ place)) (take i xs)) a b → Adds rule (λ place. Any (λ y. P y × (place_of y ≡ place)) (take (i + 1) xs)) a c
adds_miss {X} rule P place_of xs i x a b c lt at never e before =
    let Q : X → Type 0 = λ y. Adds rule (λ place. P y × (place_of y ≡ place)) b c in
    Adds-more rule (λ place y. P y × (place_of y ≡ place)) xs i x a b c lt before (subst Q at (adds_nothing rule (λ place. P x × (place_of x ≡ place)) b c (λ place h. never h.0) e))

-- the findings of one rule
pub gains_of : (rule : Rule) (P : Place → Type 0) (a b : List Finding) → Adds rule P a b → Gains (λ f. (f.rule ≡ rule) × P f.place) a b
gains_of rule P a b adds = record { exact = adds.exact }

-- the same, in other words
pub gains_like : (P Q : Finding → Type 0) (a b : List Finding) → ((f : Finding) → P f → Q f) → ((f : Finding) → Q f → P f) → Gains P a b → Gains Q a b
gains_like P Q a b to from g = record {
  exact = λ f. (
    λ c. elim ((g.exact f).0 c) [ inl old ↦ inl old | inr p ↦ inr (to f p) ],
    λ h. (g.exact f).1 (elim h [ inl old ↦ inl old | inr q ↦ inr (from f q) ]),
  );
}

-- no finding if the property holds nowhere
pub gains_none : (P : Finding → Type 0) (a b : List Finding) → b ≡ a → ((f : Finding) → ¬ P f) → Gains P a b
gains_none P a b e never = rw e (record { exact = λ f. (λ c. inl c, λ h. elim h [ inl old ↦ old | inr p ↦ absurd (never f p) ]) })

-- one gain, and another after it
pub gains_both : (P Q : Finding → Type 0) (a b c : List Finding) → Gains P a b → Gains Q b c → Gains (λ f. P f ⊎ Q f) a c
gains_both P Q a b c g h = record {
  exact = λ f. (
    λ d. elim ((h.exact f).0 d) [ inl mid ↦ elim ((g.exact f).0 mid) [ inl old ↦ inl old | inr p ↦ inr (inl p) ] | inr q ↦ inr (inr q) ],
    λ d. (h.exact f).1 (elim d [ inl old ↦ inl ((g.exact f).1 (inl old)) | inr r ↦ elim r [ inl p ↦ inl ((g.exact f).1 (inr p)) | inr q ↦ inr q ] ]),
  );
}

-- this holds of an element of an index below the bound
abbrev pub AtBelow : {X : Type 0} → ℕ → (ℕ → X → Type 0) → List X → Type 0
AtBelow {X} bound Holds xs = (index : ℕ) × (x : X) × (index < bound) × (slice_get xs index ≡ Some x) × Holds index x

at_most : {X : Type 0} (Holds : ℕ → X → Type 0) (xs : List X) (n : ℕ) (x : X) → slice_get xs n ≡ Some x → AtBelow (n + 1) Holds xs → AtBelow n Holds xs ⊎ Holds n x
at_most {X} Holds xs n x there p = elim (cases_lt p.0 n) [
  | inl less ↦ inl (p.0, p.1, less, p.3, p.4)
  | inr more ↦ (
      let within = p.2 in
      let is : p.0 ≡ n = omega arith in
      let P : ℕ → Type 0 = λ k. slice_get xs k ≡ Some p.1 in
      let Q : ℕ → Type 0 = λ k. Holds k p.1 in
      let R : X → Type 0 = λ y. Holds n y in
      inr (subst R (same_Some p.1 x (sym (subst P is p.3) ∙ there)) (subst Q is p.4))
      )
]

-- the findings of one more element
pub gains_more : {X : Type 0} (Holds : Finding → ℕ → X → Type 0) (xs : List X) (n : ℕ) (x : X) (a b c : List Finding) → slice_get xs n ≡ Some x → Gains (λ f. AtBelow n (Holds f) xs) a b → Gains (λ f. Holds f n x) b c → Gains (λ f. AtBelow (n + 1) (Holds f) xs) a c
gains_more Holds xs n x a b c there before one =
    gains_like (λ f. AtBelow n (Holds f) xs ⊎ Holds f n x) (λ f. AtBelow (n + 1) (Holds f) xs) a c
    (λ f p. elim p [ inl below ↦ (below.0, below.1, (let k = below.2 in omega arith), below.3, below.4) | inr here ↦ (n, x, omega arith, there, here) ])
    (λ f p. at_most (Holds f) xs n x there p)
    (gains_both (λ f. AtBelow n (Holds f) xs) (λ f. Holds f n x) a b c before one)

-- of no element
pub gains_first : {X : Type 0} (Holds : Finding → ℕ → X → Type 0) (xs : List X) (a : List Finding) → Gains (λ f. AtBelow 0 (Holds f) xs) a a
gains_first Holds xs a = gains_none (λ f. AtBelow 0 (Holds f) xs) a a refl (λ f p. let k = p.2 in omega arith)

-- of all elements
pub gains_all : {X : Type 0} (Holds : Finding → ℕ → X → Type 0) (xs : List X) (n : ℕ) (a b : List Finding) → length xs ≤ n → Gains (λ f. AtBelow n (Holds f) xs) a b → Gains (λ f. AtSome (Holds f) xs) a b
gains_all Holds xs n a b past g =
    gains_like (λ f. AtBelow n (Holds f) xs) (λ f. AtSome (Holds f) xs) a b
    (λ f p. (p.0, p.1, p.3, p.4))
    (λ f p. (p.0, p.1, (let within = slice_get_within xs p.0 p.1 p.2 in omega arith), p.2, p.3))
    g
