use Rattle.std.proofs.Common.{◌≡◌, sym, subst}
use Rattle.ipdl_base.specs.declared.kinds.EndState.TheVariants.{Open}
use Rattle.channel_core.specs.EndView.{EndView}
use Rattle.channel_core.proofs.ArrivedReplyLemmas.{room_for_answer}
use Rattle.channel_core.proofs.DeliveryLemmas.{answer_gives, is_awaited, may_here}
use Rattle.channel_core.proofs.EndViews.{end_in, seen_in}
use Rattle.channel_core.proofs.end.End.deliver_answer.Goals as goal

pub answer_call-requires-clause-waited : goal.answer_call-requires-clause-waited
answer_call-requires-clause-waited c =
    is_awaited (seen_in c.self.inside) c.args.row.now c.args.message c.self.invariant.sound (may_here c.self.inside c.args.self.now c.self.view_is c.self.invariant c.requires.open c.args.row.now c.args.message c.requires.may) c.requires.reply c.requires.sync

pub answer_call-requires-clause-room : goal.answer_call-requires-clause-room
answer_call-requires-clause-room c =
    room_for_answer c.self.inside.schema.now (end_in c.self.inside) c.self.inside.out (subst (λ (s : EndView). s.end.state ≡ Open) (sym c.self.view_is) c.requires.open) c.self.invariant

pub invariant_of-self-2 : goal.invariant_of-self-2
invariant_of-self-2 c =
    (answer_gives c.self.inside c.args.self.now c.self.view_is c.self.invariant c.requires.open c.args.row.now c.args.message c.requires.may c.requires.reply c.requires.sync
    c.answer_call.new.stack c.answer_call.new.out c.in_ok-answer_call.ensures.ok).inside

pub returns-clause-ok : goal.returns-clause-ok
returns-clause-ok c =
    (answer_gives c.self.inside c.args.self.now c.self.view_is c.self.invariant c.requires.open c.args.row.now c.args.message c.requires.may c.requires.reply c.requires.sync
    c.answer_call.new.stack c.answer_call.new.out c.in_ok-answer_call.ensures.ok).steps
