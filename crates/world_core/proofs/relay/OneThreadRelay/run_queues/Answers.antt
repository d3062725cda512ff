use Rattle.relay_runs.specs.RelaySteps.{opening_relay}
use Rattle.world_core.proofs.RelayLoop.{begins-apart, gives-unless, relayed-by-turns, turns-relayed}
use Rattle.world_core.proofs.relay.OneThreadRelay.run_queues.Goals as goal
use Rattle.world_core.specs.declared.answers.RunAnswer.{RunAnswer}
use Rattle.world_core.specs.declared.relay.Halves.{Halves}
use Rattle.world_core.specs.Relaying.{IsRelayedByTurns}
use Rattle.world_core.specs.WorldView.{WorldView}

pub take_turns-answer-requires : goal.take_turns-answer-requires
take_turns-answer-requires c = record {
  setting = c.args.world.setting;
  state = opening_relay c.args.world.setting;
  apart = begins-apart c.args.world.setting c.into_halves-parent.result.0 c.into_halves-parent.result.1 c.into_halves-parent.ensures.parent c.into_halves-parent.ensures.child;
}

pub returns-clause-gives : goal.returns-clause-gives
returns-clause-gives c =
    let apart = begins-apart c.args.world.setting c.into_halves-parent.result.0 c.into_halves-parent.result.1 c.into_halves-parent.ensures.parent c.into_halves-parent.ensures.child in
    gives-unless (λ (before : WorldView) (halves : Halves) (told : RunAnswer). IsRelayedByTurns before.setting halves told) c.args.world (record { parent = c.into_lines.result; child = c.into_lines-2.result }) c.take_turns-answer.result
    (relayed-by-turns c.args.world.setting (record { parent = c.into_lines.result; child = c.into_lines-2.result }) c.take_turns-answer.result c.take_turns-answer.new.parent c.take_turns-answer.new.child c.into_lines.ensures c.into_lines-2.ensures
    (c.take_turns-answer.ensures c.args.world.setting (opening_relay c.args.world.setting) apart))

pub returns-clause-relayed : goal.returns-clause-relayed
returns-clause-relayed c =
    let apart = begins-apart c.args.world.setting c.into_halves-parent.result.0 c.into_halves-parent.result.1 c.into_halves-parent.ensures.parent c.into_halves-parent.ensures.child in
    turns-relayed c.args.world.setting (record { parent = c.into_lines.result; child = c.into_lines-2.result }) c.take_turns-answer.result c.take_turns-answer.new.parent c.take_turns-answer.new.child c.into_lines.ensures c.into_lines-2.ensures
    (c.take_turns-answer.ensures c.args.world.setting (opening_relay c.args.world.setting) apart)
