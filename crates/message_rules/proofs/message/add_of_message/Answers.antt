use Rattle.std.specs.List.{Any}
use Rattle.std.proofs.lemmas.List.{take_all}
use Rattle.ipdl_base.specs.declared.finding.Finding.{Finding}
use Rattle.findings.proofs.Gathers.{Gains-at_none, Gains-more, Gains-like}
use Rattle.message_rules.specs.declared.message.MessageBreach.{MessageBreach}
use Rattle.message_rules.specs.Breaches.{IsFoundBy, IsFoundOf}
use Rattle.message_rules.proofs.Breached.{breaches, any_breach}
use Rattle.message_rules.proofs.message.add_of_message.Goals as goal

pub loop-breach-init : goal.loop-breach-init
loop-breach-init c = Gains-at_none (λ (f : Finding). IsFoundBy c.args.protocol.now f c.args.index c.args.message.now) c.args.found.now.items

pub loop-breach-preserved : goal.loop-breach-preserved
loop-breach-preserved c =
    Gains-more (λ (f : Finding). IsFoundBy c.args.protocol.now f c.args.index c.args.message.now) breaches c.loop-breach.breach-index _ _ _ _ c.loop-breach-test.true c.loop-breach.invariant c.in_ok-add_breach.ensures

pub returns : goal.returns
returns c =
    let Holds : Finding → MessageBreach → Type 0 = λ f. IsFoundBy c.args.protocol.now f c.args.index c.args.message.now in
    Gains-like (λ f. Any (Holds f) breaches) (λ f. IsFoundOf c.args.protocol.now f c.args.index c.args.message.now) _ _
    (rw (take_all c.loop-breach.breach-index breaches c.loop-breach-test.false) at c.loop-breach.invariant)
    (λ f h. (h.1, h.4))
    (λ f h. any_breach (Holds f) h.0 h.1)
