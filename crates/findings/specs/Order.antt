-- The order of findings.
use Rattle.std.specs.Prelude.{◌≡◌, List}
use Rattle.std.specs.List.{AllPairs}
use Rattle.std.specs.declared.cmp.Ordering.{Ordering}
use Rattle.std.specs.declared.cmp.Ordering.TheVariants.{Less}
use Rattle.std.specs.Ordering.{nat_cmp, ordering_then}
use Rattle.ipdl_base.specs.declared.finding.Finding.{Finding}
use Rattle.ipdl_base.specs.declared.finding.Place.{Place}
use Rattle.ipdl_base.specs.declared.finding.Rule.{Rule}

-- the order of places: by file, line and column
abbrev pub place_cmp : Place → Place → Ordering
place_cmp a b = ordering_then (nat_cmp a.file b.file) (ordering_then (nat_cmp a.line b.line) (nat_cmp a.column b.column))

-- the order of rules: by letter and number
abbrev pub rule_cmp : Rule → Rule → Ordering
rule_cmp a b = ordering_then (nat_cmp a.letter b.letter) (nat_cmp a.number b.number)

-- the order of findings: by place, and at one place by rule
abbrev pub finding_cmp : Finding → Finding → Ordering
finding_cmp a b = ordering_then (place_cmp a.place b.place) (rule_cmp a.rule b.rule)

-- each finding is before all that are greater, and no finding is there twice
abbrev pub IsIncreasing : List Finding → Type 0
IsIncreasing findings = AllPairs (λ a b. finding_cmp a b ≡ Less) findings
