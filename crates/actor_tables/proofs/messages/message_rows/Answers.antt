use Rattle.std.proofs.Common.{subst}
use Rattle.ipdl_syntax.specs.declared.tree.MessageDecl.{MessageDecl}
use Rattle.program_schema.specs.SchemaOf.{IsMessageRow}
use Rattle.actor_tables.specs.Numbered.{numbering_of}
use Rattle.actor_tables.proofs.Rowed.{rows_next}
use Rattle.actor_tables.proofs.messages.message_rows.Goals as goal

pub loop-index-preserved : goal.loop-index-preserved
loop-index-preserved c =
    let IsRow = IsMessageRow c.args.source.now.program.now (numbering_of c.args.source.now.numbers) c.args.types.now.rows.items c.args.of.now.number c.args.of.now.file c.args.of.now.protocol.now in
    rw c.in_ok-push.ensures.items (rows_next IsRow c.as_slice-message-items.result.now c.loop-index.rows.items c.loop-index.index c.message-item.result c.in_ok-message_row.field-0 c.loop-index-test.true c.loop-index.invariant
    (subst (λ (m : MessageDecl). IsRow c.loop-index.index m c.in_ok-message_row.field-0) c.message-item.is c.in_ok-message_row.ensures))
