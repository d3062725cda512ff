use Rattle.std.proofs.Common.{refl}
use Rattle.type_rules.specs.Breaks.{Breaks}
use Rattle.type_rules.proofs.Broken.{Gains-rule, Gains-no_rule}
use Rattle.type_rules.proofs.written.add_broken.Goals as goal

pub returns-in_ok-push : goal.returns-in_ok-push
returns-in_ok-push c =
    let spec = c.args.spec.now in
    Gains-rule (Breaks c.args.names.now c.args.file spec.nullable spec.base) spec.place c.broken_rule.result c.in-Some.rule _ _ c.broken_rule.ensures c.in-Some.is c.in_ok-push.ensures.items

pub returns-in_default : goal.returns-in_default
returns-in_default c =
    let spec = c.args.spec.now in
    Gains-no_rule (Breaks c.args.names.now c.args.file spec.nullable spec.base) spec.place c.broken_rule.result _ _ c.broken_rule.ensures c.in_default.is refl
