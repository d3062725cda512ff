use Rattle.std.proofs.Common.{take}
use Rattle.std.specs.List.{AllZip}
use Rattle.program_schema.specs.SchemaOf.{IsTypeRow}
use Rattle.actor_tables.specs.Numbered.{decl_of, numbering_of}
use Rattle.actor_tables.proofs.types.type_rows.Given as goal

abbrev pub invariant-loop-id : goal.invariant-loop-id
invariant-loop-id l = AllZip (λ id. IsTypeRow l.source.program.now (numbering_of l.source.numbers) (decl_of id)) (take l.id-index l.id-items) l.rows.items
