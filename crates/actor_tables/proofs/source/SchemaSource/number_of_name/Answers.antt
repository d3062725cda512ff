use Rattle.name_table.specs.declared.decl.Found.TheVariants.{One}
use Rattle.actor_tables.proofs.Sight.{found_protocol_in, one_protocol, protocol_found, never_no_protocol, never_other_decl}
use Rattle.actor_tables.proofs.source.SchemaSource.number_of_name.Goals as goal

pub unreachable-requires : goal.unreachable-requires
unreachable-requires c =
    never_no_protocol c.args.self.now.program.now c.args.file c.args.name.now c.find_protocol.result c.requires.sole
    (found_protocol_in c.args.self.now.program.now c.args.self.now.names.now c.args.file c.args.name.now c.find_protocol.result c.requires.source.names c.find_protocol.ensures)
    c.in_default.not-One

pub unreachable-requires-in_default-id : goal.unreachable-requires-in_default-id
unreachable-requires-in_default-id c =
    never_other_decl c.args.self.now.program.now c.args.file c.args.name.now c.in-One.id
    (found_protocol_in c.args.self.now.program.now c.args.self.now.names.now c.args.file c.args.name.now (One c.in-One.id) c.requires.source.names c.in-One.ensures).0
    c.in_default-id.not-Protocol

pub protocol_number-requires-clause-there : goal.protocol_number-requires-clause-there
protocol_number-requires-clause-there c =
    protocol_found c.args.self.now.program.now c.args.file c.args.name.now c.in-Protocol.other
    (one_protocol c.args.self.now.program.now c.args.self.now.names.now c.args.file c.args.name.now c.in-One.id c.in-Protocol.other c.requires.source.names c.in-Protocol.is c.in-One.ensures).0

pub returns : goal.returns
returns c = (
  c.in-Protocol.other,
  one_protocol c.args.self.now.program.now c.args.self.now.names.now c.args.file c.args.name.now c.in-One.id c.in-Protocol.other c.requires.source.names c.in-Protocol.is c.in-One.ensures,
  c.protocol_number.ensures,
)
