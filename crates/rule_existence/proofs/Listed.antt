-- Lists of exactly the places at which a rule is broken, by the shapes that the rules have.
use Rattle.report_existence.proofs.Lists.{text_or_not}
use Rattle.std.proofs.Common.{◌≡◌, ◌⊎◌, ℕ, List, Contains, map, take}
use Rattle.ipdl_base.specs.declared.finding.Place.{Place}
use Rattle.findings.specs.Repeats.{IsRepeatedAt}
use Rattle.report_existence.specs.Laws.{IsListed}
use Rattle.report_existence.proofs.Finite.{same_places, when, of_some}
use Rattle.name_existence.proofs.Decisions.{contains_or_not}

-- the one place of a decided property
pub at_place : {X : Type 0} (D : Type 0) → D ⊎ (D → ⊥) → (q : X) → IsListed (λ p. D × (q ≡ p))
at_place D decided q = same_places (λ p. (q ≡ p) × D) (λ p. D × (q ≡ p)) (λ p h. (h.1, h.0)) (λ p h. (h.1, h.0)) (when D decided q)

-- the places of names that are earlier in the list too
pub of_repeated : (names : List (List ℕ × Place)) → IsListed (IsRepeatedAt names)
of_repeated names =
    of_some names (λ index name place. Contains (take index (map (λ n. n.0) names)) name.0 × (name.1 ≡ place))
    (λ index name. at_place (Contains (take index (map (λ n. n.0) names)) name.0) (contains_or_not text_or_not (take index (map (λ n. n.0) names)) name.0) name.1)
