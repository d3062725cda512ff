use Rattle.std.proofs.Common.{subst}
use Rattle.ipdl_syntax.specs.declared.tree.Base.{Base}
use Rattle.name_table.specs.declared.decl.Found.TheVariants.{One}
use Rattle.actor_tables.specs.Numbered.{numbering_of}
use Rattle.actor_tables.specs.SchemaSource.{FindsSole}
use Rattle.actor_tables.proofs.Sight.{found_in, one_there, never_other}
use Rattle.actor_tables.proofs.Suffixes.{named_shape, unique_shape}
use Rattle.actor_tables.proofs.shapes.+shape_of_base.Goals as goal

pub shape_of_decl-requires-clause-there : goal.shape_of_decl-requires-clause-there
shape_of_decl-requires-clause-there t c =
    one_there c.args.source.now.program.now c.args.file c.in-Named.name c.in-Named.argument c.in-One.id
    (found_in c.args.source.now.program.now c.args.source.now.names.now c.args.file c.in-Named.name _ c.in-Named.argument (One c.in-One.id) c.requires.source.names c.as_ref.ensures.value c.in-One.ensures)

pub unreachable-requires : goal.unreachable-requires
unreachable-requires t c =
    never_other c.args.source.now.program.now c.args.file c.in-Named.name c.in-Named.argument c.find.result
    (subst (λ (b : Base). FindsSole c.args.source.now.program.now c.args.file b) c.in-Named.is c.requires.sole)
    (found_in c.args.source.now.program.now c.args.source.now.names.now c.args.file c.in-Named.name _ c.in-Named.argument c.find.result c.requires.source.names c.as_ref.ensures.value c.find.ensures)
    c.in_default.not-One

pub returns-in-One : goal.returns-in-One
returns-in-One t c =
    named_shape c.args.source.now.program.now (numbering_of c.args.source.now.numbers) c.args.file c.args.nullable c.args.base.now c.in-Named.name c.in-Named.argument c.in-One.id c.shape_of_decl.result c.in-Named.is
    (found_in c.args.source.now.program.now c.args.source.now.names.now c.args.file c.in-Named.name _ c.in-Named.argument (One c.in-One.id) c.requires.source.names c.as_ref.ensures.value c.in-One.ensures)
    c.shape_of_decl.ensures

pub returns-in_ok-new-in-Unique : goal.returns-in_ok-new-in-Unique
returns-in_ok-new-in-Unique t c =
    unique_shape c.args.source.now.program.now (numbering_of c.args.source.now.numbers) c.args.file c.args.nullable c.args.base.now c.in-Unique.inner c.in_ok-new-in-Unique.field-0 c.deref.result.now c.deref-in-Unique.result.now c.deref-in-Unique-2.result.now _
    c.in_ok-held-in-Unique.held c.in_ok-held-in-Unique-2.held c.in-Unique.is c.deref.ensures c.deref-in-Unique.ensures c.deref-in-Unique-2.ensures c.as_slice.ensures
    c.in_ok-held-in-Unique.ensures c.in_ok-held-in-Unique-2.ensures c.in_ok-new-in-Unique.ensures.ok
