use Rattle.std.proofs.Common.{length}
use Rattle.charts.proofs.rows.Rows.of.Goals as goal

pub note_all-requires-clause-new : goal.note_all-requires-clause-new
note_all-requires-clause-new c = c.new-rows.ensures c.args.schema.now (length c.args.lines.now)
