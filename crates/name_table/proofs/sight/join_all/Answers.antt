use Rattle.std.proofs.Common.{rules, arith}
use Rattle.std.proofs.lemmas.List.{take_more}
use Rattle.name_table.proofs.Marking.{joins_more}
use Rattle.name_table.proofs.sight.join_all.Goals as goal

pub loop-file-preserved : goal.loop-file-preserved
loop-file-preserved c =
    let l = c.loop-file in
    rw (take_more c.args.these.now l.file-index 0 (omega arith)) (joins_more _ _ _ _ _ _ l.invariant (search rules))
