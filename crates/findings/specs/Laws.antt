-- What follows from the definitions, for every list of findings.
use Rattle.std.specs.Prelude.{◌≡◌, ◌↔◌, List}
use Rattle.std.specs.List.{Contains}
use Rattle.ipdl_base.specs.declared.finding.Finding.{Finding}
use Rattle.findings.specs.Order.{IsIncreasing}

-- Two increasing lists that have the same findings are the same list.
abbrev pub OneReport : Type 0
OneReport = (a b : List Finding) → IsIncreasing a → IsIncreasing b → ((f : Finding) → Contains a f ↔ Contains b f) → a ≡ b
