use Rattle.relay_runs.proofs.HalfRuns as law
use Rattle.relay_runs.proofs.laws.marks_come_last.Goals as goal

pub returns : goal.returns
returns c = law.marks_come_last
