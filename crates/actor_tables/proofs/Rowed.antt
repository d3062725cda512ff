-- Rows together with what they are rows of.
use Rattle.std.proofs.Common.{◌≡◌, ℕ, ◌+◌, ◌<◌, List, [], ◌∷◌, ◌++◌, length, take, get_or, subst, sym, ap, ◌∙◌, refl, arith, Bool, Option, Some, None, IsSomeAnd, ◌⊎◌, add-zero, length-take}
use Rattle.std.specs.Prelude.{◌↔◌, IsTrue}
use Rattle.std.specs.List.{Any, AllZip, filter_map, cons_option}
use Rattle.std.specs.Option.{option_to_list}
use Rattle.std.proofs.lemmas.List.Elements.{filter_map-append}
use Rattle.std.proofs.lemmas.List.{take_more}
use Rattle.std.proofs.lemmas.Slice.Zip.{all_zipped_more}
use Rattle.ipdl_base.specs.Sound.{MentionsUncarried}
use Rattle.ipdl_base.specs.declared.schema.ParamRow.{ParamRow}
use Rattle.ipdl_base.specs.declared.schema.TypeRow.{TypeRow}
use Rattle.program_schema.specs.SchemaOf.{AreRows}

-- one more row
pub zip_at : {X Y : Type 0} (R : X → Y → Type 0) (xs : List X) (ys : List Y) (i : ℕ) (d : X) (y : Y) → i < length xs → AllZip R (take i xs) ys → R (get_or xs i d) y → AllZip R (take (i + 1) xs) (ys ++ y ∷ [])
zip_at {X = X} {Y = Y} R xs ys i d y below so_far here =
    let P : List X → Type 0 = λ zs. AllZip R zs (ys ++ y ∷ []) in
    subst P (sym (take_more xs i d below)) (all_zipped_more R (take i xs) ys (get_or xs i d) y so_far here)

pub zip_next : {X Y : Type 0} (R : X → Y → Type 0) (xs : List X) (ys : List Y) (i : ℕ) (x : X) (y : Y) → i < length xs → x ≡ get_or xs i x → AllZip R (take i xs) ys → R x y → AllZip R (take (i + 1) xs) (ys ++ y ∷ [])
zip_next {X = X} R xs ys i x y below at so_far here = zip_at R xs ys i x y below so_far (subst (λ (z : X). R z y) at here)

-- the results of a function on one more element
pub filter_map_next : {X Y : Type 0} (f : X → Option Y) (xs : List X) (i : ℕ) (x : X) (old new : List Y) → i < length xs → x ≡ get_or xs i x → old ≡ filter_map f (take i xs) → new ≡ old ++ option_to_list (f x)
    → new ≡ filter_map f (take (i + 1) xs)
filter_map_next {X = X} f xs i x old new below at so_far more =
    more ∙ ap (λ ys. ys ++ option_to_list (f x)) so_far ∙ ap (λ ys. filter_map f (take i xs) ++ ys) (one (f x) refl) ∙ sym (filter_map-append f (take i xs) (x ∷ []))
    ∙ ap (λ (z : X). filter_map f (take i xs ++ z ∷ [])) at ∙ sym (ap (filter_map f) (take_more xs i x below))
  where
    one : (o : Option _) → f x ≡ o → option_to_list o ≡ cons_option o []
    one None e = refl
    one (Some y) e = refl

rows_push : {X Y : Type 0} (R : ℕ → X → Y → Type 0) (from : ℕ) (xs : List X) (ys : List Y) (at : ℕ) (x : X) (y : Y) → at ≡ from + length xs → AreRows R from xs ys → R at x y → AreRows R from (xs ++ x ∷ []) (ys ++ y ∷ [])
rows_push R from [] [] at x y is rows here = (subst (λ (n : ℕ). R n x y) (is ∙ add-zero from) here, tt)
rows_push R from [] (v ∷ ys) at x y is rows here = absurd rows
rows_push R from (u ∷ xs) [] at x y is rows here = absurd rows
rows_push R from (u ∷ xs) (v ∷ ys) at x y is rows here = (rows.0, rows_push R (from + 1) xs ys at x y (let next : at ≡ from + 1 + length xs = omega arith in next) rows.1 here)

-- one more row, by indices
pub rows_next : {X Y : Type 0} (R : ℕ → X → Y → Type 0) (xs : List X) (ys : List Y) (i : ℕ) (d : X) (y : Y) → i < length xs → AreRows R 0 (take i xs) ys → R i (get_or xs i d) y → AreRows R 0 (take (i + 1) xs) (ys ++ y ∷ [])
rows_next {X = X} R xs ys i d y below so_far here =
    let P : List X → Type 0 = λ zs. AreRows R 0 zs (ys ++ y ∷ []) in
    let long : i ≡ 0 + length (take i xs) = simp length-take (omega arith) in
    subst P (sym (take_more xs i d below)) (rows_push R 0 (take i xs) ys i (get_or xs i d) y long so_far here)

-- a property of lists passes to equal lists
pub carried_like : (types : List TypeRow) (a b : List ParamRow) (o p : Option (List ParamRow)) (r : Bool) → a ≡ b → o ≡ p
    → IsTrue r ↔ ¬ (Any (λ (q : ParamRow). MentionsUncarried types q.shape) a ⊎ IsSomeAnd o (λ rows. Any (λ (q : ParamRow). MentionsUncarried types q.shape) rows))
    → IsTrue r ↔ ¬ (Any (λ (q : ParamRow). MentionsUncarried types q.shape) b ⊎ IsSomeAnd p (λ rows. Any (λ (q : ParamRow). MentionsUncarried types q.shape) rows))
carried_like types a b o p r params returns h =
    let P : List ParamRow → Option (List ParamRow) → Type 0 = λ xs ys. IsTrue r ↔ ¬ (Any (λ (q : ParamRow). MentionsUncarried types q.shape) xs ⊎ IsSomeAnd ys (λ rows. Any (λ (q : ParamRow). MentionsUncarried types q.shape) rows)) in
    subst (λ (ys : Option (List ParamRow)). P b ys) returns (subst (λ (xs : List ParamRow). P xs o) params h)
