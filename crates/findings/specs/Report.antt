-- The report of rules that can be broken.
use Rattle.std.specs.Prelude.{◌↔◌, List}
use Rattle.std.specs.List.{Contains}
use Rattle.ipdl_base.specs.declared.finding.Finding.{Finding}
use Rattle.findings.specs.Order.{IsIncreasing}

-- the report: exactly the broken findings, each once, in their order
pub record IsReport (Broken : Finding → Type 0) (findings : List Finding) : Type 0 where
  pub ordered : IsIncreasing findings
  pub exact : (f : Finding) → Contains findings f ↔ Broken f
