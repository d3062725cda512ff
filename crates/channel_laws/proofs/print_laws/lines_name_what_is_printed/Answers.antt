use Rattle.channel_laws.proofs.PrintedNames as law
use Rattle.channel_laws.proofs.print_laws.lines_name_what_is_printed.Goals as goal

pub returns : goal.returns
returns c = law.lines_name_what_is_printed
