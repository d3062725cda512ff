use Rattle.std.proofs.Common.{◌≡◌, ap, ◌∙◌}
use Rattle.channel_model.specs.Acts.{goodbye}
use Rattle.end_parts.specs.declared.packet.Packet.TheVariants.{Bytes}
use Rattle.channel_core.specs.EndView.{frame_packet}
use Rattle.channel_core.proofs.OpenLemmas.{opens_with, fresh}
use Rattle.channel_core.proofs.end.End.open.Goals as goal

pub invariant_of-result : goal.invariant_of-result
invariant_of-result c =
    let out = c.in_ok-out.out in
    let schema = c.args.schema.now in
    let is : out ≡ fresh out.line_spare out.packet_spare out.outbox_spare (frame_packet schema goodbye) = c.in_ok-out.ensures.made ∙ ap (λ bytes. fresh out.line_spare out.packet_spare out.outbox_spare (Bytes bytes)) c.in_ok-frame.ensures in
    opens_with schema c.args.side c.args.top out c.in_ok-new.field-0 c.in_ok-new-2.field-0.items c.in_ok-new-3.field-0 c.in_ok-new-4.field-0 c.new-6.result.names
    c.requires.sound is c.in_ok-out.ensures.line_spare c.in_ok-out.ensures.packet_spare c.in_ok-new.ensures c.in_ok-new-2.ensures c.in_ok-new-3.ensures c.in_ok-new-4.ensures c.new-6.ensures
