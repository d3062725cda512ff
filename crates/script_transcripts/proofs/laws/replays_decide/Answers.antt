use Rattle.script_transcripts.proofs.Fronts as law
use Rattle.script_transcripts.proofs.laws.replays_decide.Goals as goal

pub returns : goal.returns
returns c = law.replays_decide
