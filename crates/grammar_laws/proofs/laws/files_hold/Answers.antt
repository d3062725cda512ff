use Rattle.grammar_laws.proofs.FileKinds as law
use Rattle.grammar_laws.proofs.laws.files_hold.Goals as goal

pub returns : goal.returns
returns c = law.files_hold
