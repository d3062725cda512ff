-- Sums and least values of lists, as loops compute them.
use Rattle.std.proofs.Common.{◌≡◌, ℕ, ◌+◌, ◌≤◌, min, Bool, List, [], ◌∷◌, drop, length, subst, arith}
use Rattle.std.proofs.lemmas.List.{drop_all}
use Rattle.ipdl_base.specs.declared.schema.ParamRow.{ParamRow}
use Rattle.ipdl_base.specs.declared.schema.Shape.{Shape}
use Rattle.wait_report.specs.Least.{too_many, sum_of, least_in}

pub sum-few : (types : List ℕ) (built : List Bool) (fields : List ParamRow) → sum_of types built fields ≤ too_many
sum-few types built [] = omega arith
sum-few types built (field ∷ fields) = omega arith

pub least-few : (types : List ℕ) (built : List Bool) (components : List Shape) → least_in types built components ≤ too_many
least-few types built [] = omega arith
least-few types built (component ∷ components) = let rest = least-few types built components in omega arith

pub sum-whole : (types : List ℕ) (built : List Bool) (fields : List ParamRow) (i bytes : ℕ) → length fields ≤ i → bytes ≤ too_many → min too_many (bytes + sum_of types built (drop i fields)) ≡ sum_of types built fields → bytes ≡ sum_of types built fields
sum-whole types built fields i bytes past few is =
    let last : min too_many (bytes + 0) ≡ sum_of types built fields = subst (λ (fs : List ParamRow). min too_many (bytes + sum_of types built fs) ≡ sum_of types built fields) (drop_all i fields past) is in
    omega (arith, last, few)

pub least-whole : (types : List ℕ) (built : List Bool) (components : List Shape) (i bytes : ℕ) → length components ≤ i → bytes ≤ too_many → min bytes (least_in types built (drop i components)) ≡ least_in types built components → bytes ≡ least_in types built components
least-whole types built components i bytes past few is =
    let last : min bytes too_many ≡ least_in types built components = subst (λ (cs : List Shape). min bytes (least_in types built cs) ≡ least_in types built components) (drop_all i components past) is in
    omega (arith, last, few)
