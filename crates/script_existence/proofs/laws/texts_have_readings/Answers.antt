use Rattle.script_existence.proofs.LineReader as law
use Rattle.script_existence.proofs.laws.texts_have_readings.Goals as goal

pub returns : goal.returns
returns c = law.texts_have_readings
