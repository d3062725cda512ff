-- Findings at places with a property.
use Rattle.std.proofs.Common.{◌≡◌, List, [], ◌∷◌, ◌++◌, Option, Some, None, subst, sym, arith}
use Rattle.std.specs.Prelude.{IsSomeAnd}
use Rattle.std.specs.List.{Any}
use Rattle.ipdl_base.specs.declared.finding.Finding.{Finding}
use Rattle.ipdl_base.specs.declared.finding.Place.{Place}
use Rattle.ipdl_base.specs.declared.finding.Rule.{Rule}
use Rattle.findings.specs.Adds.{Adds}
use Rattle.findings.proofs.Gains.{Adds-none, Adds-like, Adds-push}

-- a finding if this holds
pub Adds-found : (rule : Rule) (at : Place) (P : Type 0) (old new : List Finding) → P → new ≡ old ++ record { place = at; rule = rule } ∷ [] → Adds rule (λ place. P × (at ≡ place)) old new
Adds-found rule at P old new holds e =
    rw e (Adds-like rule (λ place. at ≡ place) (λ place. P × (at ≡ place)) old _ (Adds-push rule at old) (λ place h. (holds, h)) (λ place h. h.1))

-- no finding otherwise
pub Adds-quiet : (rule : Rule) (P : Place → Type 0) (old new : List Finding) → ((place : Place) → ¬ P place) → new ≡ old → Adds rule P old new
Adds-quiet rule P old new never e = rw e (Adds-none rule P old never)

-- no finding at no element
pub Adds-at_none : {X : Type 0} (rule : Rule) (P : Place → X → Type 0) (old : List Finding) → Adds rule (λ place. Any (P place) []) old old
Adds-at_none rule P old = Adds-none rule (λ place. Any (P place) []) old (λ place h. omega (arith, h.2))

-- the findings of the value of an option
pub Adds-of_some : {X : Type 0} (rule : Rule) (P : Place → X → Type 0) (o : Option X) (x : X) (old new : List Finding) → o ≡ Some x → Adds rule (λ place. P place x) old new → Adds rule (λ place. IsSomeAnd o (P place)) old new
Adds-of_some {X} rule P o x old new e adds = let Q : Option X → Type 0 = λ o. Adds rule (λ place. IsSomeAnd o (P place)) old new in subst Q (sym e) adds

-- or of no value
pub Adds-of_none : {X : Type 0} (rule : Rule) (P : Place → X → Type 0) (o : Option X) (old new : List Finding) → o ≡ None → new ≡ old → Adds rule (λ place. IsSomeAnd o (P place)) old new
Adds-of_none {X} rule P o old new e same =
    Adds-quiet rule (λ place. IsSomeAnd o (P place)) old new (λ place h. let Q : Option X → Type 0 = λ o. IsSomeAnd o (P place) in subst Q e h) same
