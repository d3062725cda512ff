use Rattle.actor_tables.proofs.Made.{schema_made}
use Rattle.actor_tables.proofs.build.schema.Goals as goal

pub returns : goal.returns
returns c =
    let made =
    schema_made c.args.program.now c.as_slice-program.result.now c.in_ok-numbers.numbers c.in_ok-protocols.protocols.items c.from_vec.result c.in_ok-type_rows.field-0.items c.in_ok-types.types.rows.items c.from_vec-2.result
    c.as_slice-program.ensures c.in_ok-numbers.ensures c.in_ok-type_rows.ensures c.in_ok-types.ensures.rows c.in_ok-protocols.ensures c.from_vec.ensures c.from_vec-2.ensures in
    record { of_program = made; sound = c.clean_is_sound.ensures c.args.program.now _ c.requires.clean made }
