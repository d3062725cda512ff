use Rattle.std.proofs.lemmas.Result.{on_ok_weaker}
use Rattle.ipdl_base.specs.declared.finding.TheConstants.Rule as rule
use Rattle.findings.proofs.Gains.{Adds-then}
use Rattle.type_rules.specs.Attributes.{HasRepeat, HasUnlisted}
use Rattle.type_rules.proofs.attributes.add_bad_of.Goals as goal

pub returns : goal.returns
returns c =
    let l = c.args.list.now in
    on_ok_weaker c.add_unlisted_of.result (λ g. Adds-then rule.BAD_ATTRIBUTE (λ place. HasRepeat place l.attributes.now) (λ place. HasUnlisted place l.bearer l.attributes.now) _ _ _ c.in_ok-add_repeated_of.ensures g) c.add_unlisted_of.ensures
