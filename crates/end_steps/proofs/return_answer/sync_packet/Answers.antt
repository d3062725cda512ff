use Rattle.std.proofs.Common.{sym, ap, subst, ◌∙◌}
use Rattle.std.specs.Option.{option_map}
use Rattle.ipdl_base.specs.Plain.{plain_values}
use Rattle.value_types.specs.Fits.{Fits}
use Rattle.channel_model.specs.Outputs.{AnsweredRequest, body_of, reply_to}
use Rattle.end_steps.specs.AnswerPackets.{return_answer_by}
use Rattle.end_steps.proofs.return_answer.sync_packet.Goals as goal

pub packet_of_reply-requires-clause-fits : goal.packet_of_reply-requires-clause-fits
packet_of_reply-requires-clause-fits c =
    let schema = c.args.schema.now in
    let is = c.in_ok-reply.ensures ∙ ap (λ (q : AnsweredRequest). reply_to q (body_of (return_answer_by schema c.args.tree.now c.args.row.now q (option_map (λ vs. plain_values vs.now) c.args.values)))) c.answered.ensures in
    (c.boxes_say_nothing.ensures.fits schema c.in_ok-reply.reply).0 (subst (Fits schema) (sym is) c.requires.fits)
