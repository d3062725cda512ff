-- The first places of names among the declarations of a file. They serve the code alone.
use Rattle.std.specs.Prelude.{◌≡◌, ◌↔◌, ℕ, ◌⊎◌, Bool, List, Option, Some, IsTrue}
use Rattle.std.specs.Borrow.{Bor}
use Rattle.std.specs.HashMap.{HashMap, get_by}
use Rattle.std.specs.List.{Any}
use Rattle.std.specs.Str.{bytes_eq}
use Rattle.std.specs.declared.cmp.Ordering.TheVariants.{Less}
use Rattle.ipdl_base.specs.declared.finding.Place.{Place}
use Rattle.findings.specs.Order.{place_cmp}
use Rattle.type_rules.specs.Declarations.{Declaration, Repeats, TakesTypeWord}
use Rattle.type_rules.specs.declared.declarations.Declaration.{Declaration as Listed}

-- a declaration of the code, as definitions see it
abbrev pub told : Listed → Declaration
told d = record { full = d.full.now; place = d.place; is_using = d.is_using }

-- one place is before another
abbrev pub IsBefore : Place → Place → Type 0
IsBefore one other = place_cmp one other ≡ Less

-- the place that a map has for a name
abbrev pub first_of : {S : Type 0} → HashMap (Bor (List ℕ)) Place S → List ℕ → Option Place
first_of firsts name = get_by (λ k. bytes_eq name k.now) firsts

-- the place that a map has for a name is before this one
abbrev pub StandsBefore : {S : Type 0} → HashMap (Bor (List ℕ)) Place S → List ℕ → Place → Type 0
StandsBefore firsts name place = (first : Place) × (first_of firsts name ≡ Some first) × IsBefore first place

-- a declaration has this name and is before this place; if `own` is set, it is not a `using`
pub record IsEarlier (own : Bool) (name : List ℕ) (place : Place) (d : Declaration) : Type 0 where
  pub named : d.full ≡ name
  pub before : IsBefore d.place place
  pub counts : IsTrue own → ¬ IsTrue d.is_using

-- a map decides for each name and place whether a declaration has the name and is before the place
pub record FirstsAre {S : Type 0} (own : Bool) (declarations : List Declaration) (firsts : HashMap (Bor (List ℕ)) Place S) : Type 0 where
  pub exact : (name : List ℕ) (place : Place) → StandsBefore firsts name place ↔ Any (IsEarlier own name place) declarations

-- the declaration repeats one of these, or takes the word of a type
abbrev pub IsRepeatedAmong : List Declaration → Declaration → Type 0
IsRepeatedAmong all d = Any (λ earlier. Repeats earlier d) all ⊎ TakesTypeWord d
