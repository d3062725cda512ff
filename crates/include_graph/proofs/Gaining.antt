-- How a list of findings grows.
use Rattle.std.proofs.Common.{◌≡◌, ◌⊎◌, inl, inr, refl, Bool, true, false, IsTrue, ℕ, ◌+◌, ◌<◌, List, [], sym, ◌∙◌, subst, arith}
use Rattle.std.specs.Prelude.{Some, slice_get, ◌↔◌}
use Rattle.std.specs.List.{Contains}
use Rattle.std.proofs.lemmas.Bool.{cases_lt}
use Rattle.std.proofs.lemmas.Option.{same_Some}
use Rattle.ipdl_base.specs.declared.finding.Finding.{Finding}
use Rattle.findings.specs.Gains.{Gains}
use Rattle.findings.proofs.Gathers.{Gains-like, Gains-then}
use Rattle.ipdl_syntax.specs.declared.tree.Include.{Include}
use Rattle.include_graph.specs.declared.walk.ReachedFile.{ReachedFile}
use Rattle.include_graph.specs.declared.walk.Target.{Target}
use Rattle.include_graph.specs.Additions.{Below, IsFoundFor, IsFoundAt, IsFoundIn, IsFoundOf}

at_most : (P : ℕ → Finding → Type 0) (n : ℕ) (f : Finding) → Below (n + 1) P f → Below n P f ⊎ P n f
at_most P n f p = elim (cases_lt p.0 n) [
  | inl less ↦ inl (p.0, less, p.2)
  | inr more ↦ (let within = p.1 in let is : p.0 ≡ n = omega arith in inr (subst (λ k. P k f) is p.2))
]

pub below_more : {P : ℕ → Finding → Type 0} (n : ℕ) {a b c : List Finding} → Gains (Below n P) a b → Gains (P n) b c → Gains (Below (n + 1) P) a c
below_more {P} n g h = Gains-like _ _ _ _ (Gains-then _ _ _ _ _ g h)
    (λ f p. elim p [ inl below ↦ (below.0, (let k = below.1 in omega arith), below.2) | inr here ↦ (n, omega arith, here) ])
    (λ f p. at_most P n f p)

pub below_all : {P : ℕ → Finding → Type 0} (n : ℕ) {a b : List Finding} → ((k : ℕ) (f : Finding) → P k f → k < n) → Gains (Below n P) a b → Gains (λ f. (k : ℕ) × P k f) a b
below_all n within g = Gains-like _ _ _ _ g (λ f p. (p.0, p.2)) (λ f p. (p.0, within p.0 f p.1, p.1))

-- the findings on the include of an index
pub found_at : (files : List ReachedFile) (includes : List Include) (targets : List Target) (n : ℕ) (i : Include) (t : Target) {a b : List Finding}
    → slice_get includes n ≡ Some i → slice_get targets n ≡ Some t → Gains (IsFoundFor files i t) a b → Gains (IsFoundAt files includes targets n) a b
found_at files includes targets n i t here there g = Gains-like _ _ _ _ g
    (λ f p. (i, t, here, there, p))
    (λ f p.
    let one : p.0 ≡ i = same_Some _ _ (sym p.2 ∙ here) in
    let two : p.1 ≡ t = same_Some _ _ (sym p.3 ∙ there) in
    subst (λ (j : Include). IsFoundFor files j t f) one (subst (λ (u : Target). IsFoundFor files p.0 u f) two p.4))

-- two answers to one question
one_answer : (one other : Bool) {P : Type 0} → (IsTrue one ↔ P) → (IsTrue other ↔ P) → one ≡ other
one_answer true true h k = refl
one_answer true false h k = sym (k.1 (h.0 refl))
one_answer false true h k = h.1 (k.0 refl)
one_answer false false h k = refl

-- the findings on the file of a number
pub found_of : (words : ℕ) (keys : List (List ℕ)) (files : List ReachedFile) (n : ℕ) (word : Bool) (key : List ℕ) (file : ReachedFile) {a b : List Finding}
    → (IsTrue word ↔ (n < words)) → slice_get keys n ≡ Some key → slice_get files n ≡ Some file
    → Gains (IsFoundIn files n word key file.source.content file.targets.items) a b → Gains (IsFoundOf words keys files n) a b
found_of words keys files n word key file is here there g = Gains-like _ _ _ _ g
    (λ f p. (word, key, file, is, here, there, p))
    (λ f p.
    let one : p.0 ≡ word = one_answer p.0 word p.3 is in
    let two : p.1 ≡ key = same_Some _ _ (sym p.4 ∙ here) in
    let three : p.2 ≡ file = same_Some _ _ (sym p.5 ∙ there) in
    subst (λ (w : Bool). IsFoundIn files n w key file.source.content file.targets.items f) one
    (subst (λ (k : List ℕ). IsFoundIn files n p.0 k file.source.content file.targets.items f) two
    (subst (λ (r : ReachedFile). IsFoundIn files n p.0 p.1 r.source.content r.targets.items f) three p.6)))

-- a list that was empty has exactly what it gained
pub from_nothing : {P : Finding → Type 0} {b : List Finding} → Gains P [] b → (f : Finding) → Contains b f ↔ P f
from_nothing g f = (λ c. elim ((g.exact f).0 c) [ inl old ↦ (let k = old.1 in absurd (omega arith)) | inr p ↦ p ], λ p. (g.exact f).1 (inr p))
