use Rattle.std.proofs.Common.{sym}
use Rattle.actor_tables.proofs.CleanProtocols.{protocol_sole}
use Rattle.actor_tables.proofs.messages.row_of_file.Goals as goal

pub protocol_row-requires-clause-sole : goal.protocol_row-requires-clause-sole
protocol_row-requires-clause-sole c = protocol_sole c.args.source.now.program.now c.args.file c.in-Some.protocol.now c.requires.clean (sym c.in-Some.ensures)
