use Rattle.order_statements.proofs.OwedLaw as law
use Rattle.order_statements.proofs.owed.histories_give_what_they_owe.Goals as goal

pub returns : goal.returns
returns c = law.histories_give_what_they_owe
