use Rattle.channel_laws.proofs.OrderRuns as law
use Rattle.channel_laws.proofs.two_end_laws.requests_come_in_order.Goals as goal

pub returns : goal.returns
returns c = law.requests_come_in_order
