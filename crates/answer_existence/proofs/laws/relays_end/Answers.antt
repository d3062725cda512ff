use Rattle.answer_existence.proofs.Relays as law
use Rattle.answer_existence.proofs.laws.relays_end.Goals as goal

pub returns : goal.returns
returns c = law.relays_end c.relays_come_in_order.ensures
