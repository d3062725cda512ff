use Rattle.command_existence.proofs.Words as law
use Rattle.command_existence.proofs.laws.words_are_decided.Goals as goal

pub returns : goal.returns
returns c = law.words_are_decided
