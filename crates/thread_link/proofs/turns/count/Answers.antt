use Rattle.std.proofs.Common.{arith}
use mathlib.Core.Option.{none}
use Rattle.atomic_table.specs.Table.{step}
use Rattle.thread_link.proofs.RuleSteps.{counts}
use Rattle.thread_link.proofs.turns.count.Goals as goal
use Rattle.world_core.specs.HalfView.{setting_of}

pub fetch_add-requires : goal.fetch_add-requires
fetch_add-requires c =
    let z = c.args.board.now.table_id in
    let seat = c.args.seat.now in
    (c.requires.board.1, omega (arith, c.requires.board.0.0), counts (setting_of c.args.board.now.key.half.value) z.slots seat.id seat.me 1 (step z.slots 1 1 0 none))
