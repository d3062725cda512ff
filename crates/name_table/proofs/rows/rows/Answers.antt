use Rattle.name_table.proofs.Listing.{rows_next}
use Rattle.name_table.proofs.rows.rows.Goals as goal

pub loop-file-preserved : goal.loop-file-preserved
loop-file-preserved c =
    rows_next c.args.program.now c.loop-file.file c.index-program-file.result c.loop-file.all c.declare_file.new.rows c.loop-file-test.true c.index-program-file.is c.loop-file.invariant c.in_ok-declare_file.ensures
