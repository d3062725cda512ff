use Rattle.std.proofs.Common.{◌≡◌, true, false, sym, ap, ◌∙◌}
use Rattle.std.specs.Option.{option_map}
use Rattle.ipdl_base.specs.declared.message.Body.TheVariants.{Reply}
use Rattle.ipdl_base.specs.declared.value.Values.{Values}
use Rattle.ipdl_base.specs.Plain.{plain_message, plain_values}
use Rattle.nesting_core.specs.declared.frame.Answer.{Answer}
use Rattle.channel_model.specs.Outputs.{body_of, reply_to}
use Rattle.end_steps.specs.AnswerPackets.{answer_by_values}
use Rattle.end_parts.specs.Replies.{answered_of}
use Rattle.end_steps.proofs.ReturnLemmas.{tested}
use Rattle.end_steps.proofs.return_answer.reply_by_values.Goals as goal

pub returns-then-is_some : goal.returns-then-is_some
returns-then-is_some c =
    let q = answered_of c.args.request.now in
    let vs = c.in-Some.values.now in
    let is : plain_message c.reply_to-reply.result ≡ reply_to q (Reply (plain_values vs)) = c.reply_to-reply.ensures ∙ ap (λ (ws : Values). reply_to q (Reply ws)) c.in_ok-copy-in-Some.ensures in
    let given = tested c.boxes_say_nothing.ensures c.args.schema.now c.args.tree.now c.args.row.now c.returns_of_row.result.now q c.reply_to-reply.result vs c.values_refusal.result true is c.returns_of_row.ensures c.values_refusal.ensures (sym c.is_some.ensures ∙ c.if-is_some.true) in
    c.reply_to-then-is_some.ensures ∙ ap (λ (a : Answer). reply_to q (body_of a)) (sym given) ∙ ap (λ o. reply_to q (body_of (answer_by_values c.args.schema.now c.args.tree.now c.args.row.now q (option_map (λ vs. plain_values vs.now) o)))) (sym c.in-Some.is)

pub returns-else-is_some : goal.returns-else-is_some
returns-else-is_some c =
    let q = answered_of c.args.request.now in
    let vs = c.in-Some.values.now in
    let is : plain_message c.reply_to-reply.result ≡ reply_to q (Reply (plain_values vs)) = c.reply_to-reply.ensures ∙ ap (λ (ws : Values). reply_to q (Reply ws)) c.in_ok-copy-in-Some.ensures in
    let given = tested c.boxes_say_nothing.ensures c.args.schema.now c.args.tree.now c.args.row.now c.returns_of_row.result.now q c.reply_to-reply.result vs c.values_refusal.result false is c.returns_of_row.ensures c.values_refusal.ensures (sym c.is_some.ensures ∙ c.if-is_some.false) in
    is ∙ ap (λ (a : Answer). reply_to q (body_of a)) (sym given) ∙ ap (λ o. reply_to q (body_of (answer_by_values c.args.schema.now c.args.tree.now c.args.row.now q (option_map (λ vs. plain_values vs.now) o)))) (sym c.in-Some.is)
