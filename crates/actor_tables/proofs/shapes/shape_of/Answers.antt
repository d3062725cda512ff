use Rattle.actor_tables.specs.Numbered.{numbering_of}
use Rattle.actor_tables.proofs.Suffixes.{whole_shape}
use Rattle.actor_tables.proofs.shapes.shape_of.Goals as goal

pub returns : goal.returns
returns c =
    whole_shape c.args.source.now.program.now (numbering_of c.args.source.now.numbers) c.args.file c.args.spec.now c.as_slice.result.now c.in_ok-base.base c.suffixed.result c.as_slice.ensures c.in_ok-base.ensures c.suffixed.ensures
