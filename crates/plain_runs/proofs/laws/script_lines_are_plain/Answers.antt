use Rattle.plain_runs.proofs.Runs as law
use Rattle.plain_runs.proofs.laws.script_lines_are_plain.Goals as goal

pub returns : goal.returns
returns c = law.script_lines_are_plain
