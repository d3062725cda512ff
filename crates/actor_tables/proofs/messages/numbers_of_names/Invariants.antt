use Rattle.std.proofs.Common.{take}
use Rattle.std.specs.List.{AllZip}
use Rattle.program_schema.specs.SchemaOf.{IsNumberOfName}
use Rattle.actor_tables.specs.Numbered.{numbering_of}
use Rattle.actor_tables.proofs.messages.numbers_of_names.Given as goal

abbrev pub invariant-loop-name : goal.invariant-loop-name
invariant-loop-name l = AllZip (λ n m. IsNumberOfName l.source.program.now (numbering_of l.source.numbers) l.file n.name m) (take l.name-index l.names) l.numbers.items
