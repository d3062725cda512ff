use Rattle.program_schema.specs.SchemaOf.{IsParamRow}
use Rattle.actor_tables.specs.Numbered.{numbering_of}
use Rattle.actor_tables.proofs.Rowed.{zip_next}
use Rattle.actor_tables.proofs.types.param_rows.Goals as goal

pub loop-param-preserved : goal.loop-param-preserved
loop-param-preserved c =
    rw c.in_ok-push.ensures.items (zip_next (IsParamRow c.args.source.now.program.now (numbering_of c.args.source.now.numbers) c.args.file) c.args.params.now c.loop-param.rows.items c.loop-param.param-index c.param-item.result
    c.in_ok-param_row.field-0 c.loop-param-test.true c.param-item.is c.loop-param.invariant c.in_ok-param_row.ensures)
