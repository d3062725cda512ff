use Rattle.file_existence.proofs.Programs as law
use Rattle.file_existence.proofs.laws.clean_files_have_programs.Goals as goal

pub returns : goal.returns
returns c = law.clean_files_have_programs
