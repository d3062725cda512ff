use Rattle.script_transcripts.proofs.Ends as law
use Rattle.script_transcripts.proofs.laws.cases_end.Goals as goal

pub returns : goal.returns
returns c = law.cases_end
