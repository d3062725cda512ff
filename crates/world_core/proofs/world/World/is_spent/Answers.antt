use Rattle.std.proofs.Common.{◌≡◌, refl, subst}
use Rattle.schedules.specs.declared.turn.Turn.{Turn}
use Rattle.script_steps.specs.Turns.{exceeds, outcome}
use Rattle.world_core.proofs.Trying.{did-or-idle, full-busy}
use Rattle.world_core.proofs.world.World.is_spent.Goals as goal

pub returns-in-Spent : goal.returns-in-Spent
returns-in-Spent c =
    let w = c.args.self.now in
    (λ h. full-busy w.setting w.state c.args.side (subst (λ (t : Turn). outcome w.setting t w.state ≡ exceeds) c.whole.ensures c.in-Spent.ensures.gives.0), λ h. refl)

pub returns-in-Did : goal.returns-in-Did
returns-in-Did c = (λ h. cc, λ ends. absurd (did-or-idle c.args.self.now c.step.new.self c.whole.result c.args.side c.step.result c.whole.ensures c.step.ensures.gives c.in-Did.is ends))
