use Rattle.std.proofs.Common.{take}
use Rattle.program_schema.specs.SchemaOf.{AreParamRows}
use Rattle.actor_tables.specs.Numbered.{numbering_of}
use Rattle.actor_tables.proofs.types.param_rows.Given as goal

abbrev pub invariant-loop-param : goal.invariant-loop-param
invariant-loop-param l = AreParamRows l.source.program.now (numbering_of l.source.numbers) l.file (take l.param-index l.params) l.rows.items
