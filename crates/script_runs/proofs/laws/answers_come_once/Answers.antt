use Rattle.script_runs.proofs.ValidBlocks as law
use Rattle.script_runs.proofs.laws.answers_come_once.Goals as goal

pub returns : goal.returns
returns c = law.answers_come_once
