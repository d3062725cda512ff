use Rattle.std.proofs.Common.{false}
use Rattle.program_schema.specs.SchemaOf.{IsTypeRow}
use Rattle.actor_tables.specs.Numbered.{decl_of, numbering_of}
use Rattle.actor_tables.proofs.Rowed.{zip_at}
use Rattle.actor_tables.proofs.types.type_rows.Goals as goal

pub loop-id-preserved : goal.loop-id-preserved
loop-id-preserved c =
    rw c.in_ok-push.ensures.items (zip_at (λ id. IsTypeRow c.args.source.now.program.now (numbering_of c.args.source.now.numbers) (decl_of id)) c.as_slice-id-items.result.now c.loop-id.rows.items c.loop-id.id-index
    (record { file = 0; is_union = false; index = 0 }) c.in_ok-type_row.field-0 c.loop-id-test.true c.loop-id.invariant c.in_ok-type_row.ensures)
