use Rattle.order_statements.proofs.NeverAgain as law
use Rattle.order_statements.proofs.owed.fallen_actors_stay_fallen.Goals as goal

pub returns : goal.returns
returns c = law.fallen_actors_stay_fallen
