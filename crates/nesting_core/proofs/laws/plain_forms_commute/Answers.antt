use Rattle.nesting_core.proofs.PlainLemmas as plain
use Rattle.nesting_core.proofs.laws.plain_forms_commute.Goals as goal

pub returns : goal.returns
returns c = plain.plain_forms_commute
