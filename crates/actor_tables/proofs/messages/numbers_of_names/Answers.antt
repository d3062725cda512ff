use Rattle.std.proofs.Common.{subst, sym}
use Rattle.ipdl_syntax.specs.declared.tree.NameAt.{NameAt}
use Rattle.program_schema.specs.SchemaOf.{IsNumberOfName}
use Rattle.actor_tables.specs.Numbered.{numbering_of}
use Rattle.actor_tables.specs.SchemaSource.{FindsSoleProtocol}
use Rattle.actor_tables.proofs.Rowed.{zip_next}
use Rattle.actor_tables.proofs.messages.numbers_of_names.Goals as goal

pub number_of_name-requires-clause-sole : goal.number_of_name-requires-clause-sole
number_of_name-requires-clause-sole c =
    subst (λ (n : NameAt). FindsSoleProtocol c.args.source.now.program.now c.args.file n.name) (sym c.name-item.is) (c.requires.sole c.loop-name.name-index c.name-item.result c.loop-name-test.true)

pub loop-name-preserved : goal.loop-name-preserved
loop-name-preserved c =
    rw c.in_ok-push.ensures.items (zip_next (λ (n : NameAt) m. IsNumberOfName c.args.source.now.program.now (numbering_of c.args.source.now.numbers) c.args.file n.name m) c.args.names.now c.loop-name.numbers.items c.loop-name.name-index c.name-item.result
    c.number_of_name.result c.loop-name-test.true c.name-item.is c.loop-name.invariant c.number_of_name.ensures)
