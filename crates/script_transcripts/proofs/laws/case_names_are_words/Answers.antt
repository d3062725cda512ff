use Rattle.script_transcripts.proofs.Names as law
use Rattle.script_transcripts.proofs.laws.case_names_are_words.Goals as goal

pub returns : goal.returns
returns c = law.case_names_are_words
