use Rattle.std.proofs.Common.{arith, subst, sym}
use Rattle.ipdl_top.proofs.Audits.{audited, replay-few}
use Rattle.ipdl_top.specs.declared.audit.outcome.Audit.{Audit}
use Rattle.ipdl_top.specs.Audited.{IsAudited}
use Rattle.ipdl_top.proofs.audit.text.audit_from.Goals as goal

pub audit_by-requires : goal.audit_by-requires
audit_by-requires c = replay-few c.args.world.now.setting c.args.text.now c.in_ok-replay.replay c.requires.few c.in_ok-replay.ensures

pub returns : goal.returns
returns c =
    subst (λ (a : Audit). IsAudited c.args.world.now.setting c.args.text.now a) (sym c.audit_by.ensures)
    (audited c.args.world.now.setting c.requires.sound c.requires.valid (omega (arith, c.requires.small)) c.args.text.now c.in_ok-replay.replay c.in_ok-replay.ensures)
