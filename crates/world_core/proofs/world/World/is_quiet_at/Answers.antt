use Rattle.std.proofs.Common.{◌≡◌, subst, sym}
use Rattle.schedules.specs.declared.turn.Turn.{Turn}
use Rattle.script_steps.specs.Turns.{idles, outcome}
use Rattle.world_core.proofs.Trying.{did-or-spent, idle-quiet}
use Rattle.world_core.proofs.world.World.is_quiet_at.Goals as goal

pub returns-in-Nothing-clause-says : goal.returns-in-Nothing-clause-says
returns-in-Nothing-clause-says c =
    let w = c.args.self.now in
    sym (idle-quiet w.setting w.state c.args.side (subst (λ (t : Turn). outcome w.setting t w.state ≡ idles) c.whole.ensures c.in-Nothing.ensures.gives.0))

pub returns-in-Did-clause-says : goal.returns-in-Did-clause-says
returns-in-Did-clause-says c = sym (did-or-spent c.args.self.now c.step.new.self c.whole.result c.args.side c.step.result c.whole.ensures c.step.ensures.gives c.in-Did.is)
