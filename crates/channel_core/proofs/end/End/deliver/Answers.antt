use Rattle.std.proofs.Common.{refl, sym, subst, ap, ◌∙◌, if◌then◌else◌, Bool}
use Rattle.ipdl_base.specs.Plain.{plain_message}
use Rattle.channel_model.specs.Ends as model
use Rattle.end_parts.specs.PacketReading.{packet_read}
use Rattle.channel_core.specs.declared.answers.DeliverAnswer.TheVariants as answer
use Rattle.channel_core.specs.Delivered.{DeliverGives}
use Rattle.channel_core.specs.EndView.{EndView}
use Rattle.channel_core.proofs.DeliveryLemmas.{delivers, done_gives, refuses}
use Rattle.channel_core.proofs.EndViews.{seen_in}
use Rattle.channel_core.proofs.end.End.deliver.Goals as goal

pub returns-in-Bad : goal.returns-in-Bad
returns-in-Bad c = subst (λ (s : EndView). DeliverGives s c.args.packet.now (answer.Bad c.in-Bad.offset c.in-Bad.rule) s) c.self.view_is (refuses (seen_in c.self.inside) c.args.packet.now c.in-Bad.offset c.in-Bad.rule c.in-Bad.ensures)

pub returns-in-Mark : goal.returns-in-Mark
returns-in-Mark c =
    delivers c.args.self.now c.args.packet.now model.mark c.answer_of.result c.deliver_farewell.new.self (ap (λ (s : EndView). packet_read s.schema c.args.packet.now) (sym c.self.view_is) ∙ c.in-Mark.ensures)
    (done_gives c.args.self.now c.deliver_farewell.new.self model.mark c.deliver_farewell.result c.answer_of.result refl c.deliver_farewell.ensures.ok c.deliver_farewell.ensures.err (c.answer_of.ensures ∙ ap (λ (b : Bool). if b then answer.Done else answer.NoMemory) c.is_ok.ensures.value))

pub returns-in-Message : goal.returns-in-Message
returns-in-Message c =
    delivers c.args.self.now c.args.packet.now (model.message (plain_message c.in-Message.message)) c.deliver_message.result c.deliver_message.new.self (ap (λ (s : EndView). packet_read s.schema c.args.packet.now) (sym c.self.view_is) ∙ c.in-Message.ensures.0) c.deliver_message.ensures
