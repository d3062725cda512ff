use Rattle.schema_laws.proofs.WaitsAlike.{one_report}
use Rattle.schema_laws.proofs.waits.one_wait_report.Goals as goal

pub returns : goal.returns
returns c = one_report
