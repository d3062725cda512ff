use Rattle.std.proofs.Common.{subst}
use Rattle.ipdl_base.specs.Sound.{IsSound}
use Rattle.world_core.proofs.Histories.{case-of, lawful-of}
use Rattle.world_core.proofs.world.World.is_lawful.Goals as goal
use Rattle.world_core.specs.WorldView.{WorldView}
use Rattle.world_core.specs.Worlds.{IsCase, IsLawful}

pub returns-clause-sound : goal.returns-clause-sound
returns-clause-sound c = subst (λ (w : WorldView). IsSound w.setting.schema) c.self.view_is c.self.invariant.run.sound

pub returns-clause-case : goal.returns-clause-case
returns-clause-case c = subst IsCase c.self.view_is (case-of _ _ c.self.inside.link c.self.invariant.run)

pub returns-clause-laws : goal.returns-clause-laws
returns-clause-laws c = subst IsLawful c.self.view_is (lawful-of _ _ c.self.inside.link c.self.invariant.run)
