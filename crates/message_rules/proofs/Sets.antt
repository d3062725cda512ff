-- The names of what a protocol manages, as a set.
use Rattle.std.proofs.Common.{◌≡◌, ℕ, ◌+◌, ◌<◌, Bool, true, false, cond, List, [], ◌∷◌, length, take, get_or, Bor, inl, inr, sym, ◌∙◌, ap, arith}
use Rattle.std.specs.HashSet.{HashSet, contains}
use Rattle.std.specs.List.{list_any}
use Rattle.std.specs.Str.{bytes_eq}
use Rattle.std.proofs.lemmas.Bool.{true≢false, cases_Bool}
use Rattle.std.proofs.lemmas.List.{take_more}
use Rattle.std.proofs.lemmas.List.Folds.{Any-from_list_any, list_any-from_Any}
use Rattle.std.proofs.lemmas.List.Quantifiers.{Any-push}
use Rattle.std.proofs.lemmas.Slice.Eq.{bytes_eq-Decides}
use Rattle.ipdl_syntax.specs.declared.tree.NameAt.{NameAt}
use Rattle.findings.proofs.Elements.{any_cases, any_left}
use Rattle.findings.proofs.Repeated.{cond_true, true_cond}
use Rattle.message_rules.specs.Breaches.{same_name, HasNames}

-- a set without keys has the names of nothing
pub HasNames-none : {S : Type 0} (set : HashSet (Bor (List ℕ)) S) → set.keys ≡ [] → HasNames set []
HasNames-none set none = record {
  exact = λ q. ((λ h. absurd (true≢false (sym h ∙ ap (list_any (same_name q)) none))), (λ h. let no : ⊥ = omega (arith, h.2) in absurd no));
}

-- one more name
pub HasNames-more : {S : Type 0} (old new : HashSet (Bor (List ℕ)) S) (names : List NameAt) (i : ℕ) (d : NameAt) (key : Bor (List ℕ)) → i < length names → key.now ≡ (get_or names i d).name
    → ((q : Bor (List ℕ)) → contains same_name new q ≡ cond (same_name key q) true (contains same_name old q)) → HasNames old (take i names) → HasNames new (take (i + 1) names)
HasNames-more old new names i d key lt is put has =
    let y = get_or names i d in
    rw (take_more names i d lt)
    (record {
      exact = λ q.
          let P : NameAt → Type 0 = λ n. n.name ≡ q.now in (
            (λ h. elim (cond_true (same_name key q) (contains same_name old q) (sym (put q) ∙ h)) [
              | inl same ↦ Any-push P (take i names) y (sym is ∙ (bytes_eq-Decides key.now q.now).0 same)
              | inr was ↦ any_left P (take i names) (y ∷ []) ((has.exact q).0 was)
            ]),
            (λ h. elim (any_cases P (take i names) y h) [
              | inl was ↦ put q ∙ true_cond (same_name key q) (contains same_name old q) ((has.exact q).1 was)
              | inr same ↦ put q ∙ ap (λ b. cond b true (contains same_name old q)) ((bytes_eq-Decides key.now q.now).1 (is ∙ same))
            ]),
          );
    })

-- the set decides for a name the same as the test of all names
pub HasNames-tells : {S : Type 0} (set : HashSet (Bor (List ℕ)) S) (names : List NameAt) (q : Bor (List ℕ)) (name : List ℕ) → q.now ≡ name → HasNames set names → (b : Bool) → contains same_name set q ≡ b → list_any (λ (n : NameAt). bytes_eq n.name name) names ≡ b
HasNames-tells set names q name is has true told =
    let any = (has.exact q).0 told in
    list_any-from_Any (λ (n : NameAt). bytes_eq n.name name) names (any.0, any.1, any.2, any.3, (bytes_eq-Decides any.1.name name).1 (any.4 ∙ is))
HasNames-tells set names q name is has false told = elim (cases_Bool (list_any (λ (n : NameAt). bytes_eq n.name name) names)) [
  | inl yes_any ↦ (
      let any = Any-from_list_any (λ (n : NameAt). bytes_eq n.name name) names yes_any in
      absurd (true≢false (sym ((has.exact q).1 (any.0, any.1, any.2, any.3, (bytes_eq-Decides any.1.name name).0 any.4 ∙ sym is)) ∙ told))
      )
  | inr none ↦ none
]
