use Rattle.script_transcripts.proofs.Fronts as law
use Rattle.script_transcripts.proofs.laws.legal_texts_decide.Goals as goal

pub returns : goal.returns
returns c = law.legal_texts_decide
