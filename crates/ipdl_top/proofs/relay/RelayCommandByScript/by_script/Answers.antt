use Rattle.std.proofs.lemmas.Result.{IfOk-weaker}
use Rattle.command_words.specs.Command.{relay_course}
use Rattle.ipdl_top.proofs.Relays.{opens-itself, says_relayed}
use Rattle.ipdl_top.proofs.relay.RelayCommandByScript.by_script.Goals as goal

pub run_queues-halves-requires-clause-opening : goal.run_queues-halves-requires-clause-opening
run_queues-halves-requires-clause-opening g c = opens-itself c.in_ok-world.world _ c.in_ok-world.ensures.opened

pub returns : goal.returns
returns g c =
    IfOk-weaker c.halves_answer.result _ _
    (λ answer printed. says_relayed (record {
      alone = c.relays_obey_alone.ensures;
      in_order = c.relays_come_in_order.ensures;
      histories = c.relays_are_histories.ensures;
      answered = c.finished_relays_wait_for_nothing.ensures;
      runs = c.choices_are_runs.ensures;
      lawful = c.histories_are_lawful.ensures;
      order = c.histories_keep_order.ensures;
      owed = c.histories_give_what_they_owe.ensures;
      still = c.rest_of_cases_is_still.ensures;
      rests = c.still_worlds_rest.ensures;
      weighed = c.histories_are_weighed.ensures;
      decides_readable = c.decides_readable.ensures;
      decides_fallen = c.decides_fallen.ensures;
      want = c.laws_want_readable_lines.ensures;
    }) (g.Q.Relay.Gives c.args.self.relay.now) (relay_course c.args.self.options.now) c.args.schema.now c.args.script.now
    c.in_ok-world.world c.run_queues-halves.result.0 c.run_queues-halves.result.1 answer c.requires.sound c.requires.ready.0 c.in_ok-world.ensures.opened c.run_queues-halves.ensures.gives c.run_queues-halves.ensures.relayed printed) c.halves_answer.ensures
