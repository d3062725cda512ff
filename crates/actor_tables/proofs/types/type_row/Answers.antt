use Rattle.std.proofs.Common.{sym}
use Rattle.actor_tables.proofs.CleanTypes.{struct_sole, union_sole}
use Rattle.actor_tables.proofs.types.type_row.Goals as goal

pub union_row-requires-clause-sole : goal.union_row-requires-clause-sole
union_row-requires-clause-sole c = union_sole c.args.source.now.program.now c.args.id.file c.args.id.index c.in-Some.item.now c.requires.clean (sym c.in-Some.ensures)

pub struct_row-requires-clause-sole : goal.struct_row-requires-clause-sole
struct_row-requires-clause-sole c = struct_sole c.args.source.now.program.now c.args.id.file c.args.id.index c.in-Some-struct_of.item.now c.requires.clean (sym c.in-Some-struct_of.ensures)
