use Rattle.plain_runs.proofs.Relays as law
use Rattle.plain_runs.proofs.laws.relay_lines_are_plain.Goals as goal

pub returns : goal.returns
returns c = law.relay_lines_are_plain
