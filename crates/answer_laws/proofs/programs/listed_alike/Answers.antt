use Rattle.answer_laws.proofs.SyncList as law
use Rattle.answer_laws.proofs.programs.listed_alike.Goals as goal

pub returns : goal.returns
returns c = λ program other list f alike. law.listed_alike program other alike list f
