-- Findings of one rule, at places with a property.
use Rattle.std.proofs.Common.{◌≡◌, ℕ, ◌+◌, ◌<◌, List, [], ◌∷◌, ◌++◌, length, map, take, get_or, subst}
use Rattle.std.specs.List.{Any}
use Rattle.ipdl_base.specs.declared.finding.Finding.{Finding}
use Rattle.ipdl_base.specs.declared.finding.Place.{Place}
use Rattle.ipdl_base.specs.declared.finding.Rule.{Rule}
use Rattle.findings.specs.Adds.{Adds}
use Rattle.findings.proofs.Gains.{Adds-none, Adds-like, Adds-push, Adds-more}
use Rattle.type_rules.proofs.Lists.{any_of_map, any_to_map}

-- a finding if this holds
pub Adds-found : (rule : Rule) (at : Place) (P : Type 0) (old new : List Finding) → P → new ≡ old ++ record { place = at; rule = rule } ∷ [] → Adds rule (λ place. P × (at ≡ place)) old new
Adds-found rule at P old new holds e =
    rw e (Adds-like rule (λ place. at ≡ place) (λ place. P × (at ≡ place)) old _ (Adds-push rule at old) (λ place h. (holds, h)) (λ place h. h.1))

-- no finding otherwise
pub Adds-quiet : (rule : Rule) (P : Place → Type 0) (old new : List Finding) → ((place : Place) → ¬ P place) → new ≡ old → Adds rule P old new
Adds-quiet rule P old new never e = rw e (Adds-none rule P old never)

-- a turn of a loop over a list: those of the first elements, and then those of the next
pub Adds-turn : {X : Type 0} (rule : Rule) (P : Place → X → Type 0) (xs : List X) (i : ℕ) (x : X) (a b c : List Finding) → i < length xs → x ≡ get_or xs i x → Adds rule (λ place. Any (P place) (take i xs)) a b → Adds rule (λ place. P place x) b c → Adds rule (λ place. Any (P place) (take (i + 1) xs)) a c
Adds-turn {X} rule P xs i x a b c lt is one two =
    let Q : X → Type 0 = λ y. Adds rule (λ place. P place y) b c in
    Adds-more rule P xs i x a b c lt one (subst Q is two)

-- the findings of a list that the code has in another form
pub Adds-listed : {Y Z : Type 0} (rule : Rule) (P : Place → Z → Type 0) (view : Y → Z) (ys : List Y) (zs : List Z) (old new : List Finding) → map view ys ≡ zs → Adds rule (λ place. Any (λ y. P place (view y)) ys) old new → Adds rule (λ place. Any (P place) zs) old new
Adds-listed {Y} {Z} rule P view ys zs old new same adds =
    let Q : List Z → Type 0 = λ l. Adds rule (λ place. Any (P place) l) old new in
    subst Q same (Adds-like rule (λ place. Any (λ y. P place (view y)) ys) (λ place. Any (P place) (map view ys)) old new adds (λ place. any_to_map view (P place) ys) (λ place. any_of_map view (P place) ys))
