use Rattle.std.proofs.Common.{◌++◌}
use Rattle.script_steps.specs.Progress.{progress_of}
use Rattle.world_core.proofs.half.Half.own.Given as goal

abbrev pub ghost-own_step : goal.ghost-own_step
ghost-own_step g a = progress_of g.at.1 (g.at.2 ++ a.self.now.end.lines)
