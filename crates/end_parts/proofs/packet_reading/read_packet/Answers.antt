use Rattle.std.proofs.Common.{sym, ap, ◌∙◌}
use Rattle.ipdl_base.specs.Plain.{plain_message}
use Rattle.end_parts.specs.declared.packet.Packet.TheVariants.{Bytes}
use Rattle.end_parts.proofs.ReadLemmas.{read-broken, read-message, read-part, read-short, read-bad}
use Rattle.end_parts.proofs.packet_reading.read_packet.Goals as goal

pub returns-in-Broken : goal.returns-in-Broken
returns-in-Broken c = read-broken c.args.schema.now c.args.packet.now c.in-Broken.is

pub returns-then-size-bytes : goal.returns-then-size-bytes
returns-then-size-bytes c =
    let is = c.in-Bytes.is ∙ ap Bytes (sym c.as_slice-bytes.ensures) in
    (read-message c.args.schema.now c.args.packet.now c.as_slice-bytes.result.now (plain_message c.in-Frame.message) c.in-Frame.size is c.in-Frame.ensures.exact c.if-size-bytes.true, c.in-Frame.ensures.fits)

pub returns-else-size-bytes : goal.returns-else-size-bytes
returns-else-size-bytes c =
    read-part c.args.schema.now c.args.packet.now c.as_slice-bytes.result.now (plain_message c.in-Frame.message) c.in-Frame.size (c.in-Bytes.is ∙ ap Bytes (sym c.as_slice-bytes.ensures)) c.in-Frame.ensures.exact c.if-size-bytes.false

pub returns-in-Short : goal.returns-in-Short
returns-in-Short c = read-short c.args.schema.now c.args.packet.now c.as_slice-bytes.result.now c.in-Short.field-0 (c.in-Bytes.is ∙ ap Bytes (sym c.as_slice-bytes.ensures)) c.in-Short.ensures.exact

pub returns-in-Bad : goal.returns-in-Bad
returns-in-Bad c = read-bad c.args.schema.now c.args.packet.now c.as_slice-bytes.result.now c.in-Bad.offset c.in-Bad.rule (c.in-Bytes.is ∙ ap Bytes (sym c.as_slice-bytes.ensures)) c.in-Bad.ensures.exact
