use Rattle.ipdl_lex.proofs.Spelled as law
use Rattle.ipdl_lex.proofs.laws.words_hold.Goals as goal

pub returns : goal.returns
returns c = law.words_hold
