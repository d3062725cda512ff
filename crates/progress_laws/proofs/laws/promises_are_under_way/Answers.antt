use Rattle.progress_laws.proofs.PromisesUnderWay as law
use Rattle.progress_laws.proofs.laws.promises_are_under_way.Goals as goal

pub returns : goal.returns
returns c = law.promises_are_under_way
