use Rattle.order_checks.proofs.walk.decide.Goals as goal

pub all_pass-passed-requires-clause-nothing : goal.all_pass-passed-requires-clause-nothing
all_pass-passed-requires-clause-nothing c = c.new-waiting.ensures c.args.schema.now
