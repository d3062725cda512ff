use Rattle.std.proofs.Common.{ℕ, IsSomeAnd}
use Rattle.name_table.specs.Decls.{protocol_of}
use Rattle.ipdl_base.specs.declared.schema.ProtocolRow.{ProtocolRow}
use Rattle.program_schema.specs.SchemaOf.{IsProtocolRow}
use Rattle.actor_tables.specs.Numbered.{numbering_of}
use Rattle.actor_tables.proofs.Rowed.{rows_next}
use Rattle.actor_tables.proofs.messages.protocol_rows.Goals as goal

pub loop-number-preserved : goal.loop-number-preserved
loop-number-preserved c =
    let program = c.args.source.now.program.now in
    rw c.in_ok-push.ensures.items (rows_next (λ (number file : ℕ) (row : ProtocolRow). IsSomeAnd (protocol_of program file) (λ p. IsProtocolRow program (numbering_of c.args.source.now.numbers) c.args.types.now.rows.items number file p row))
    c.as_slice-file-items.result.now c.loop-number.rows.items c.loop-number.number 0 c.in_ok-row_of_file.field-0 c.loop-number-test.true c.loop-number.invariant c.in_ok-row_of_file.ensures)
