-- A delivery counts one request at most.
use Rattle.std.proofs.Common.{◌≡◌, ◌+◌, ◌≤◌, [], ◌∷◌, ap, arith}
use Rattle.channel_model.specs.Events as event
use Rattle.channel_model.proofs.CountedParts.{counts_grow}
use Rattle.end_parts.specs.declared.packet.Packet.{Packet}
use Rattle.channel_core.specs.declared.answers.DeliverAnswer.{DeliverAnswer}
use Rattle.channel_core.specs.declared.answers.DeliverAnswer.TheVariants as answer
use Rattle.channel_core.specs.Delivered.{DeliverGives}
use Rattle.channel_core.specs.EndView.{EndView}

same : (before after : EndView) → after ≡ before → after.end.delivered ≤ before.end.delivered + 1
same before after e = let k = ap (λ (s : EndView). s.end.delivered) e in omega (arith, k)

pub counts_one : (before : EndView) (packet : Packet) (a : DeliverAnswer) (after : EndView) → DeliverGives before packet a after → after.end.delivered ≤ before.end.delivered + 1
counts_one before packet answer.NoMemory after h = same before after h
counts_one before packet answer.Done after h =
    let s = h.1.is_step in
    let k = ap (λ (x : EndView). x.end.delivered) s.is_after in
    let grows = (counts_grow before.schema before.end (h.1.carries ∷ []) event.deliver s.output s.is_step).0.delivered.1 in
    omega (arith, k, grows)
counts_one before packet (answer.Bad offset rule) after h = same before after h.1
counts_one before packet (answer.Stray seq) after h = same before after h.1
counts_one before packet (answer.WrongActor id number) after h = same before after h.1
