use Rattle.line_laws.proofs.Texts as law
use Rattle.line_laws.proofs.laws.texts_see_no_box.Goals as goal

pub returns : goal.returns
returns c = law.texts_see_no_box c.boxes_say_nothing.ensures
