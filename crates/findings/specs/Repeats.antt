-- Repeated names.
use Rattle.std.specs.Prelude.{◌≡◌, ℕ, List, map, take}
use Rattle.std.specs.List.{Contains}
use Rattle.ipdl_base.specs.declared.finding.Place.{Place}
use Rattle.findings.specs.Gains.{AtSome}

-- among these names with their places, the one at this place is earlier in the list too
abbrev pub IsRepeatedAt : List (List ℕ × Place) → Place → Type 0
IsRepeatedAt names place = AtSome (λ index name. Contains (take index (map (λ n. n.0) names)) name.0 × (name.1 ≡ place)) names
