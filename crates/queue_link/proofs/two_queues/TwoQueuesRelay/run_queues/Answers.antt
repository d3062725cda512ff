use Rattle.queue_link.proofs.HalvesAlone.{halves_alone}
use Rattle.queue_link.proofs.two_queues.TwoQueuesRelay.run_queues.Goals as goal

pub returns-clause-alone : goal.returns-clause-alone
returns-clause-alone g c = λ sound limit. halves_alone c.relays_come_in_order.ensures c.relays_obey_alone.ensures _ sound limit c.run_world.result.0 c.run_world.result.1 c.run_world.ensures
