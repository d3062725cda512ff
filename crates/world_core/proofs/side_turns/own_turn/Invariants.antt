use Rattle.script_steps.specs.Progress.{progress_of}
use Rattle.world_core.proofs.side_turns.own_turn.Given as goal

abbrev pub ghost-own_step : goal.ghost-own_step
ghost-own_step g a = progress_of g.at.1 g.at.0.state.lines
