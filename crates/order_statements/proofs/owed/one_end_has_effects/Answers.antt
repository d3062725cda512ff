use Rattle.order_statements.proofs.EffectsLaw as law
use Rattle.order_statements.proofs.owed.one_end_has_effects.Goals as goal

pub returns : goal.returns
returns c = law.one_end_has_effects
