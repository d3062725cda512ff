-- Lists of the places at which some file, or the tree of some file, has a property.
use Rattle.std.proofs.Common.{◌≡◌, ◌⊎◌, ℕ, zero, suc, List, [], ◌∷◌, Any, refl, sym, subst, inl, inr}
use Rattle.std.specs.Prelude.{◌↔◌}
use Rattle.std.proofs.lemmas.Option.{same_Some}
use Rattle.ipdl_base.specs.declared.finding.Place.{Place}
use Rattle.ipdl_syntax.specs.declared.tree.Unit.{Unit as FileUnit}
use Rattle.ipdl_syntax.specs.Programs.{named_key}
use Rattle.grammar_laws.specs.Boxes.{unboxed}
use Rattle.include_graph.specs.Reach.{IsUnitOf}
use Rattle.include_graph.specs.Rules.{IncludesAt, OfFile, OfUnit}
use Rattle.include_graph.specs.Sources.{LoadInput, content}
use Rattle.report_existence.specs.Laws.{IsListed}
use Rattle.report_existence.proofs.Finite.{any_or_not, either_place, no_place, of_any, same_places, when}
use Rattle.file_existence.proofs.Contents.{one_unit, unit_or_none}

-- a file is the first, or one of the others

no_file : (Holds : ℕ → List ℕ → Type 0) → OfFile [] Holds → ⊥
no_file Holds (number, key, e, h) = cc

first_or_later : (key : List ℕ) (keys : List (List ℕ)) (Holds : ℕ → List ℕ → Type 0) → OfFile (key ∷ keys) Holds → Holds 0 key ⊎ OfFile keys (λ n. Holds (suc n))
first_or_later key keys Holds (zero, k, e, h) = inl (subst (Holds 0) (sym (same_Some _ _ e)) h)
first_or_later key keys Holds (suc n, k, e, h) = inr (n, k, e, h)

of_either : (key : List ℕ) (keys : List (List ℕ)) (Holds : ℕ → List ℕ → Type 0) → Holds 0 key ⊎ OfFile keys (λ n. Holds (suc n)) → OfFile (key ∷ keys) Holds
of_either key keys Holds (inl h) = (0, key, refl, h)
of_either key keys Holds (inr (n, k, e, h)) = (suc n, k, e, h)

pub of_files : (keys : List (List ℕ)) (Holds : ℕ → List ℕ → Place → Type 0) → ((n : ℕ) (key : List ℕ) → IsListed (Holds n key)) → IsListed (λ p. OfFile keys (λ n key. Holds n key p))
of_files [] Holds each = no_place (λ p. OfFile [] (λ n key. Holds n key p)) (λ p. no_file (λ n key. Holds n key p))
of_files (key ∷ keys) Holds each =
    same_places (λ p. Holds 0 key p ⊎ OfFile keys (λ n k. Holds (suc n) k p)) (λ p. OfFile (key ∷ keys) (λ n k. Holds n k p))
    (λ p. of_either key keys (λ n k. Holds n k p)) (λ p. first_or_later key keys (λ n k. Holds n k p))
    (either_place (Holds 0 key) (λ p. OfFile keys (λ n k. Holds (suc n) k p)) (each 0 key) (of_files keys (λ n. Holds (suc n)) (λ n k. each (suc n) k)))

-- a property of a tree that does not depend on where its boxes lie
pub of_units : (given : LoadInput) (keys : List (List ℕ)) (Holds : List ℕ → FileUnit → Place → Type 0)
    → ((key : List ℕ) (unit : FileUnit) (p : Place) → Holds key unit p ↔ Holds key (unboxed unit) p)
    → ((key : List ℕ) (unit : FileUnit) → IsListed (Holds key unit)) → IsListed (λ p. OfUnit given keys (λ key unit. Holds key unit p))
of_units given keys Holds plain each = of_files keys InFile in_file
  where
    InFile : ℕ → List ℕ → Place → Type 0
    InFile number key p = (unit : FileUnit) × IsUnitOf number key (content given key) unit × Holds key unit p

    in_file : (number : ℕ) (key : List ℕ) → IsListed (InFile number key)
    in_file number key = elim (unit_or_none number key (content given key)) [
      | inl (unit, is) ↦ same_places (Holds key unit) (InFile number key) (λ p h. (unit, is, h))
          (λ p h. (plain key unit p).1 (subst (λ u. Holds key u p) (one_unit number key (content given key) h.0 unit h.1 is) ((plain key h.0 p).0 h.2)))
          (each key unit)
      | inr none ↦ no_place (InFile number key) (λ p h. none h.0 h.1)
    ]

-- includes that name a key with this property
pub of_includes : (given : LoadInput) (keys : List (List ℕ)) (D : List ℕ → Type 0) → ((key : List ℕ) → D key ⊎ (D key → ⊥)) → IsListed (λ p. OfUnit given keys (λ _. IncludesAt p D))
of_includes given keys D decide =
    of_units given keys (λ _ unit p. IncludesAt p D unit) (λ key unit p. ((λ h. h), (λ h. h)))
    (λ key unit. of_any unit.includes (λ i p. (i.place ≡ p) × Any D (named_key i.kind i.name)) (λ i. when (Any D (named_key i.kind i.name)) (any_or_not D decide (named_key i.kind i.name)) i.place))
