use Rattle.std.proofs.Common.{ap, ◌∙◌}
use Rattle.world_core.proofs.world.World.history.Goals as goal
use Rattle.world_core.specs.WorldView.{WorldView}

pub returns-clause-lines : goal.returns-clause-lines
returns-clause-lines c = c.history.ensures ∙ c.self.invariant.run.lines ∙ ap (λ (w : WorldView). w.state.lines) c.self.view_is
