use Rattle.std.proofs.Common.{take}
use Rattle.program_schema.specs.SchemaOf.{AreRows, IsMessageRow}
use Rattle.actor_tables.specs.Numbered.{numbering_of}
use Rattle.actor_tables.proofs.messages.message_rows.Given as goal

abbrev pub invariant-loop-index : goal.invariant-loop-index
invariant-loop-index l =
    AreRows (IsMessageRow l.source.program.now (numbering_of l.source.numbers) l.types.rows.items l.of.number l.of.file l.of.protocol.now) 0 (take l.index l.message-items) l.rows.items
