-- Lists of exactly the things with a property, and reports of findings.
use Rattle.std.specs.Prelude.{◌↔◌, List}
use Rattle.std.specs.List.{Contains}
use Rattle.ipdl_base.specs.declared.finding.Finding.{Finding}
use Rattle.findings.specs.Report.{IsReport}

-- some list has exactly the things with this property
abbrev pub IsListed : {X : Type 0} → (X → Type 0) → Type 0
IsListed {X} Holds = (all : List X) × ((x : X) → Contains all x ↔ Holds x)

-- Every list of findings has a report.
abbrev pub FindingsHaveReports : Type 0
FindingsHaveReports = (found : List Finding) → (report : List Finding) × IsReport (Contains found) report
