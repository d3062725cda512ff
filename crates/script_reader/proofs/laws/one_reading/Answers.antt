use Rattle.script_reader.proofs.Unique.{one_reading}
use Rattle.script_reader.proofs.laws.one_reading.Goals as goal

pub returns : goal.returns
returns c = one_reading
