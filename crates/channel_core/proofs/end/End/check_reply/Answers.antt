use Rattle.std.proofs.Common.{◌≡◌, Bool, Option, Some, sym, ap, subst, ◌∙◌}
use Rattle.std.specs.Option.{option_map}
use Rattle.ipdl_base.specs.declared.message.Message.{Message}
use Rattle.ipdl_base.specs.Plain.{plain_values}
use Rattle.ipdl_base.specs.Sound.{message_of}
use Rattle.channel_model.specs.Outputs.{is_open}
use Rattle.end_steps.specs.Refusals.{answer_refusal_by}
use Rattle.end_parts.specs.Replies.{answered_of}
use Rattle.channel_core.specs.ResolverReplies.{IsReplyCheck}
use Rattle.channel_core.specs.EndView.{EndView}
use Rattle.channel_core.proofs.EndViews.{seen_in}
use Rattle.channel_core.proofs.ReplyLemmas.{check-so}
use Rattle.channel_core.proofs.end.End.check_reply.Goals as goal

pub returns : goal.returns
returns c =
    let v = seen_in c.self.inside in
    let row = c.in-Some.row.now in
    let q = option_map (λ q. answered_of q.now) c.args.request in
    let vs = option_map (λ vs. plain_values vs.now) c.args.values in
    let reply = c.in_ok-reply.reply in
    let found : message_of v.schema c.args.number ≡ Some row = sym c.message.ensures ∙ ap (λ r. option_map (λ row. row.now) r) c.in-Some.is in
    let refused : c.answer_refusal-refusal.result ≡ answer_refusal_by (is_open v.end.state) v.schema v.end.actors row reply =
    c.answer_refusal-refusal.ensures
    ∙ ap (λ (b : Bool). answer_refusal_by b v.schema v.end.actors row (option_map (λ m. m.now) c.as_ref.result)) c.is_open.ensures
    ∙ ap (λ (m : Option Message). answer_refusal_by (is_open v.end.state) v.schema v.end.actors row m) c.as_ref.ensures.value in
    subst (λ (s : EndView). IsReplyCheck s c.args.number q vs c.checked_reply.result) c.self.view_is
    (check-so v c.args.number row q vs reply c.answer_refusal-refusal.result c.checked_reply.result found c.in_ok-reply.ensures refused c.checked_reply.ensures)
