use Rattle.std.proofs.Common.{◌∙◌}
use Rattle.end_steps.proofs.DeliveryRefusalLemmas.{reply-refused, request-refused}
use Rattle.end_steps.proofs.delivery_refusals.delivery_refusal.Goals as goal

pub returns-in-Request : goal.returns-in-Request
returns-in-Request c = c.request_refusal.ensures ∙ request-refused c.args.receiver c.args.schema.now c.args.tree.now c.args.stack.now c.args.promises.now c.args.row.now c.args.message.now c.in-Request.field-0 c.in-Request.is

pub returns-in-Reply : goal.returns-in-Reply
returns-in-Reply c = c.reply_refusal.ensures ∙ reply-refused c.args.receiver c.args.schema.now c.args.tree.now c.args.stack.now c.args.promises.now c.args.row.now c.args.message.now c.in-Reply.is
