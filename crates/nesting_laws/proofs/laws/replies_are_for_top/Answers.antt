use Rattle.nesting_laws.proofs.Replies as law
use Rattle.nesting_laws.proofs.laws.replies_are_for_top.Goals as goal

pub returns : goal.returns
returns c = law.replies_are_for_top
