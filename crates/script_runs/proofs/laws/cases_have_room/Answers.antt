use Rattle.script_runs.proofs.Room as law
use Rattle.script_runs.proofs.laws.cases_have_room.Goals as goal

pub returns : goal.returns
returns c = law.cases_have_room
