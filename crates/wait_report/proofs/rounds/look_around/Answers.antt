use Rattle.wait_report.proofs.Looks.{around-same}
use Rattle.wait_report.proofs.SchemaRows.{right-message}
use Rattle.wait_report.proofs.rounds.look_around.Goals as goal

pub look_at_protocols-more-requires : goal.look_at_protocols-more-requires
look_at_protocols-more-requires c = record { right = λ row of. right-message c.args.schema.now c.requires.sound c.args.built.now.items c.requires.count row (rw c.as_slice-2.ensures at of) }

pub returns-else-lesser : goal.returns-else-lesser
returns-else-lesser c =
    let types = rw (c.as_slice.ensures.value, c.if-lesser.false) at c.look_at_types-lesser.ensures in
    let messages = rw (c.as_slice-2.ensures, c.as_slice-3.ensures.value) at c.look_at_protocols-more.ensures in
    around-same c.args.schema.now c.args.types.now.items c.look_at_types-lesser.new.types.items c.args.built.now.items c.look_at_protocols-more.new.built.items c.look_at_protocols-more.result types messages
