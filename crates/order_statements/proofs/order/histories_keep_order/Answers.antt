use Rattle.order_statements.proofs.OrderLaw as law
use Rattle.order_statements.proofs.order.histories_keep_order.Goals as goal

pub returns : goal.returns
returns c = law.histories_keep_order
