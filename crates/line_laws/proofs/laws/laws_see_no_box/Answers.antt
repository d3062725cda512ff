use Rattle.line_laws.proofs.PlainLaws as law
use Rattle.line_laws.proofs.laws.laws_see_no_box.Goals as goal

pub returns : goal.returns
returns c = law.laws_see_no_box
