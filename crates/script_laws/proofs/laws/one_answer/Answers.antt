use Rattle.script_laws.proofs.One as law
use Rattle.script_laws.proofs.laws.one_answer.Goals as goal

pub returns : goal.returns
returns c = law.one_answer
