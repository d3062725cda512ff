use Rattle.wait_laws.proofs.Interruptions as law
use Rattle.wait_laws.proofs.laws.only_reported_interrupt.Goals as goal

pub returns : goal.returns
returns c = law.only_reported_interrupt
