use Rattle.explorer.proofs.Going.{options-both}
use Rattle.explorer.proofs.search.spot_at.Goals as goal

pub returns-clause-options : goal.returns-clause-options
returns-clause-options c = options-both c.args.runner.now.world (record { key = c.args.key; parent = c.options.result; child = c.options-2.result }) c.options.ensures c.options-2.ensures
