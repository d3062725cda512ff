-- Reports with the same findings and names have the same text.
use Rattle.std.proofs.Common.{◌≡◌, ◌∙◌, ℕ, List, ap}
use Rattle.ipdl_base.specs.declared.finding.Finding.{Finding}
use Rattle.ipdl_base.specs.declared.finding.Report.{Report}
use Rattle.ipdl_top.specs.declared.status.Status.{Status}
use Rattle.ipdl_top.specs.Report.{broken_answer}

pub told_alike : (status : Status) (one other : Report) → one.findings ≡ other.findings → one.names ≡ other.names → broken_answer status one ≡ broken_answer status other
told_alike status one other findings names =
    ap (λ (fs : List Finding). broken_answer status (record { findings = fs; names = one.names })) findings
    ∙ ap (λ (ns : List (List ℕ)). broken_answer status (record { findings = other.findings; names = ns })) names
