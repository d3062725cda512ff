use Rattle.std.proofs.Common.{sym, ◌∙◌}
use Rattle.std.proofs.lemmas.Bool.Decides.{not_from_Decides}
use Rattle.std.proofs.lemmas.Slice.Eq.{bytes_eq-Decides}
use Rattle.script_reader.proofs.statements.is.Goals as goal

pub returns-clause-yes : goal.returns-clause-yes
returns-clause-yes c h = (bytes_eq-Decides c.args.word.now c.args.other.now).0 (sym c.eq.ensures ∙ h)

pub returns-clause-not : goal.returns-clause-not
returns-clause-not c h = not_from_Decides _ (bytes_eq-Decides c.args.word.now c.args.other.now) (sym c.eq.ensures ∙ h)
