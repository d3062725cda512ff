use Rattle.progress_laws.proofs.PromisesUnderWay as law
use Rattle.progress_laws.proofs.laws.still_promises_are_kept.Goals as goal

pub returns : goal.returns
returns c = law.still_promises_are_kept
