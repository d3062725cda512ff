use Rattle.std.proofs.Common.{ap, subst, ◌∙◌}
use Rattle.script_steps.specs.Choices.{Setting}
use Rattle.world_core.proofs.Apart.{world-is-split}
use Rattle.world_core.proofs.world.World.split.Goals as goal
use Rattle.world_core.specs.Halves.{IsSplit}
use Rattle.world_core.specs.WorldView.{WorldView, state_of}

pub returns-clause-apart : goal.returns-clause-apart
returns-clause-apart c =
    let w = c.self.inside in
    let setting : Setting = record { schema = w.schema.now; script = w.script.now; stop = w.stop; limit = w.limit } in
    subst (λ (v : WorldView). IsSplit v.setting w.parent w.child w.link) c.self.view_is (world-is-split setting w.parent w.child w.link c.self.invariant)

pub returns-clause-same : goal.returns-clause-same
returns-clause-same c =
    let w = c.self.inside in
    ap (λ (s : Setting). record { setting = s; state = state_of s w.link.lines }) c.self.invariant.parent_is.about ∙ c.self.view_is
