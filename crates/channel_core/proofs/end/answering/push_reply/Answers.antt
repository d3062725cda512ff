use Rattle.std.proofs.Common.{◌≡◌, ap, ◌∙◌}
use Rattle.ipdl_base.specs.declared.line.What.{What}
use Rattle.ipdl_base.specs.Plain.{plain_message}
use Rattle.channel_model.specs.Outputs.{line_at}
use Rattle.end_parts.specs.declared.packet.Packet.TheVariants.{Bytes}
use Rattle.end_parts.specs.OutputView.{with_line, with_packet}
use Rattle.end_parts.specs.Replies.{line_of_reply}
use Rattle.channel_core.specs.EndView.{frame_packet}
use Rattle.channel_core.proofs.ActLemmas.{reply-pushed}
use Rattle.channel_core.proofs.end.answering.push_reply.Goals as goal

pub returns-clause-ok : goal.returns-clause-ok
returns-clause-ok c =
    let m = plain_message c.args.reply in
    let says : c.push_line.new.self ≡ with_line c.reserve.new.self (line_at c.args.side (line_of_reply m)) = c.push_line.ensures ∙ ap (λ (w : What). with_line c.reserve.new.self (line_at c.args.side w)) c.reply_line.ensures in
    let puts : c.put.new.self ≡ with_packet c.push_line.new.self (frame_packet c.args.schema.now m) = c.put.ensures ∙ ap (λ bytes. with_packet c.push_line.new.self (Bytes bytes)) c.in_ok-frame.ensures.frame in
    reply-pushed (line_at c.args.side (line_of_reply m)) (frame_packet c.args.schema.now m) c.args.out.now c.reserve.new.self c.push_line.new.self c.put.new.self c.reserve.ensures.same c.in_ok-reserve.ensures.lines c.in_ok-reserve.ensures.packets says puts
