use Rattle.nesting_laws.proofs.Progress as law
use Rattle.nesting_laws.proofs.laws.nobody_is_stuck.Goals as goal

pub returns : goal.returns
returns c = law.nobody_is_stuck
