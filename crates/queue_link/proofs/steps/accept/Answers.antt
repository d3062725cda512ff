use Rattle.std.proofs.Common.{[], ◌∷◌, ◌++◌, ◌≡◌, sym, ap, subst}
use Rattle.ipdl_base.specs.declared.schema.Schema.{Schema}
use Rattle.queue_link.specs.Work.{DeliveryGives, IsReadBack}
use Rattle.queue_link.proofs.Hands.{delivery-gives}
use Rattle.queue_link.proofs.steps.accept.Goals as goal
use Rattle.script_steps.specs.Choices.{Setting}
use Rattle.world_core.proofs.KeptHalves.{rests-apart}
use Rattle.world_core.specs.declared.answers.StepAnswer.{StepAnswer}

pub accept-requires-clause-rests : goal.accept-requires-clause-rests
accept-requires-clause-rests g c =
    let rest = c.requires.0.2 in
    rests-apart g.at.0 g.at.1 rest.work.state rest.work.state.sent c.args.half.now rest.work.goes rest.none

pub returns : goal.returns
returns g c pushed popped rest =
    let work = rest.work in
    let schema : c.args.half.now.end.schema ≡ g.at.0.schema = ap (λ (s : Setting). s.schema) work.goes.about in
    let reads : IsReadBack g.at.0.schema c.args.value.now.packet = subst (λ (s : Schema). IsReadBack s c.args.value.now.packet) schema c.accept.ensures.reads in
    subst (λ (t : StepAnswer). DeliveryGives g.at.0 g.at.1 pushed (popped ++ c.args.value.now ∷ []) t c.accept.new.self) (sym c.turn_answer.ensures)
    (delivery-gives g.at.0 g.at.1 pushed popped c.args.half.now c.accept.new.self rest c.args.value.now reads c.requires.1 c.accept.result
    (c.accept.ensures.gives g.at.0 g.at.1 work.state work.state.sent work.goes))
