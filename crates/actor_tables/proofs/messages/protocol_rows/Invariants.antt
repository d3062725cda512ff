use Rattle.std.proofs.Common.{take, IsSomeAnd}
use Rattle.name_table.specs.Decls.{protocol_of}
use Rattle.program_schema.specs.SchemaOf.{AreRows, IsProtocolRow}
use Rattle.actor_tables.specs.Numbered.{numbering_of}
use Rattle.actor_tables.proofs.messages.protocol_rows.Given as goal

abbrev pub invariant-loop-number : goal.invariant-loop-number
invariant-loop-number l =
    AreRows (λ number file row. IsSomeAnd (protocol_of l.source.program.now file) (λ p. IsProtocolRow l.source.program.now (numbering_of l.source.numbers) l.types.rows.items number file p row)) 0 (take l.number l.file-items) l.rows.items
