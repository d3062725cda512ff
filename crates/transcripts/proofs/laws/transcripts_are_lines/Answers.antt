use Rattle.transcripts.proofs.Lines as law
use Rattle.transcripts.proofs.laws.transcripts_are_lines.Goals as goal

pub returns : goal.returns
returns c = law.transcripts_are_lines
