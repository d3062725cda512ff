-- What a list of findings gains, of one rule.
use Rattle.std.specs.Prelude.{◌≡◌, ◌↔◌, ◌⊎◌, List}
use Rattle.std.specs.List.{Contains}
use Rattle.ipdl_base.specs.declared.finding.Finding.{Finding}
use Rattle.ipdl_base.specs.declared.finding.Place.{Place}
use Rattle.ipdl_base.specs.declared.finding.Rule.{Rule}

-- the new list has exactly the findings of the old one, and a finding of this rule at each place with this property
pub record Adds (rule : Rule) (Holds : Place → Type 0) (old new : List Finding) : Type 0 where
  pub exact : (f : Finding) → Contains new f ↔ (Contains old f ⊎ ((f.rule ≡ rule) × Holds f.place))
