use Rattle.actor_tables.proofs.NamedFiles.{files_below}
use Rattle.actor_tables.proofs.numbers.SchemaNumbers.of.Goals as goal

pub numbers_of_files-requires-clause-below : goal.numbers_of_files-requires-clause-below
numbers_of_files-requires-clause-below c = files_below c.args.program.now c.in_ok-files.files.items c.as_slice.result.now c.in_ok-files.ensures.files c.as_slice.ensures.value
