use Rattle.script_steps.specs.Progress.{progress_of}
use Rattle.world_core.proofs.side_turns.hand_over.Given as goal

abbrev pub ghost-deliver : goal.ghost-deliver
ghost-deliver g a = progress_of g.at.1 g.at.0.state.lines
