use Rattle.command_existence.proofs.Topics as law
use Rattle.command_existence.proofs.laws.asking_is_decided.Goals as goal

pub returns : goal.returns
returns c = law.asking_is_decided
