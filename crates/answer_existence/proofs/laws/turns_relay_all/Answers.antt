use Rattle.answer_existence.proofs.TurnRelays as law
use Rattle.answer_existence.proofs.laws.turns_relay_all.Goals as goal

pub returns : goal.returns
returns c = law.turns_relay_all c.relays_end.ensures c.turns_are_relays.ensures c.relay_lines_are_plain.ensures
