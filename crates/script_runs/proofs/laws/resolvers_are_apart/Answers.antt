use Rattle.script_runs.proofs.Changes as law
use Rattle.script_runs.proofs.laws.resolvers_are_apart.Goals as goal

pub returns : goal.returns
returns c = law.resolvers_are_apart
