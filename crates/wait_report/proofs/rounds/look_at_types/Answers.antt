use Rattle.wait_report.proofs.Looks.{types-none}
use Rattle.wait_report.proofs.rounds.look_at_types.Goals as goal

pub loop-number-init : goal.loop-number-init
loop-number-init c = types-none c.args.schema.now c.args.built.now c.args.types.now.items
