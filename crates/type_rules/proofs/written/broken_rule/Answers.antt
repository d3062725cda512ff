use Rattle.type_rules.proofs.written.broken_rule.Goals as goal

pub returns-in-Named : goal.returns-in-Named
returns-in-Named c = rw c.in-Named.is (c.rule_of.ensures c.args.names.now c.args.file c.in-Named.name c.in-Named.argument (rw c.as_ref.ensures.value at c.find.ensures))
