use Rattle.actor_tables.proofs.Lookups.{file_within, file_number}
use Rattle.actor_tables.proofs.source.SchemaSource.protocol_number.Goals as goal

pub unreachable-requires : goal.unreachable-requires
unreachable-requires c = file_within c.args.self.now.program.now c.args.self.now.numbers c.args.file c.deref.result.now c.requires.source.numbers c.requires.there c.deref.ensures.value c.in-None.ensures.lookup.3

pub returns : goal.returns
returns c =
    file_number c.args.self.now.program.now c.args.self.now.numbers c.args.file c.in-Some.number.now c.deref.result.now c.requires.source.numbers c.requires.there c.deref.ensures.value
    c.in-Some.ensures.lookup.3.0 c.in-Some.ensures.lookup.3.1
