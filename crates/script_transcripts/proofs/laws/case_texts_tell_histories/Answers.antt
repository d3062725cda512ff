use Rattle.script_transcripts.proofs.Texts as law
use Rattle.script_transcripts.proofs.laws.case_texts_tell_histories.Goals as goal

pub returns : goal.returns
returns c = law.case_texts_tell_histories
