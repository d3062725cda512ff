use Rattle.command_words.proofs.Asking as law
use Rattle.command_words.proofs.laws.asking_is_no_command.Goals as goal

pub returns : goal.returns
returns c = law.asking_is_no_command
