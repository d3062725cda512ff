use Rattle.wait_laws.proofs.SendableRuns as law
use Rattle.wait_laws.proofs.laws.sendable_in_every_run.Goals as goal

pub returns : goal.returns
returns c = law.sendable_in_every_run
