use Rattle.std.specs.List.{Contains}
use Rattle.wait_report.proofs.Looks.{in-list}
use Rattle.wait_report.proofs.SchemaRows.{right-message}
use Rattle.wait_report.proofs.spread.look_at_constructor.Goals as goal

pub look_at_message-requires : goal.look_at_message-requires
look_at_message-requires c =
    let protocol = c.in-Some.protocol.now in
    let row = c.in-Some-get.row.now in
    let first = rw c.as_slice.ensures at c.in-Some.ensures.lookup in
    let second = rw c.as_slice-2.ensures at c.in-Some-get.ensures.lookup in
    let there : Contains c.args.schema.now.protocols protocol = in-list c.args.schema.now.protocols c.args.protocol protocol first.3.0 first.1 in
    let here : Contains protocol.messages row = in-list protocol.messages c.args.index row second.3.0 second.1 in
    record { right = right-message c.args.schema.now c.requires.sound c.args.built.now.items c.requires.count row (protocol, there, here) }
