-- What a list of findings gains, of any rules.
use Rattle.std.specs.Prelude.{◌≡◌, ◌↔◌, ◌⊎◌, ℕ, List, slice_get, Some}
use Rattle.std.specs.List.{Contains}
use Rattle.ipdl_base.specs.declared.finding.Finding.{Finding}

-- the new list has exactly the findings of the old one and those with this property
pub record Gains (Holds : Finding → Type 0) (old new : List Finding) : Type 0 where
  pub exact : (f : Finding) → Contains new f ↔ (Contains old f ⊎ Holds f)

-- this holds of the index of an element and of the element
abbrev pub AtSome : {X : Type 0} → (ℕ → X → Type 0) → List X → Type 0
AtSome {X} Holds xs = (index : ℕ) × (x : X) × (slice_get xs index ≡ Some x) × Holds index x
