use Rattle.script_existence.proofs.LineReader as law
use Rattle.script_existence.proofs.laws.lines_have_readings.Goals as goal

pub returns : goal.returns
returns c = law.lines_have_readings
