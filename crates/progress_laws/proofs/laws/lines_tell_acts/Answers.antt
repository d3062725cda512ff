use Rattle.progress_laws.proofs.WeighedRuns as law
use Rattle.progress_laws.proofs.laws.lines_tell_acts.Goals as goal

pub returns : goal.returns
returns c = law.lines_tell_acts
