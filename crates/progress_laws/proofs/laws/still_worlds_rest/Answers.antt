use Rattle.progress_laws.proofs.RestingWorlds as law
use Rattle.progress_laws.proofs.laws.still_worlds_rest.Goals as goal

pub returns : goal.returns
returns c = law.still_worlds_rest
