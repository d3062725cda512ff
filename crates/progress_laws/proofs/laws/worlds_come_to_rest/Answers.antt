use Rattle.progress_laws.proofs.ComingToRest as law
use Rattle.progress_laws.proofs.laws.worlds_come_to_rest.Goals as goal

pub returns : goal.returns
returns c = law.worlds_come_to_rest
