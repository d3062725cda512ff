use Rattle.std.proofs.Common.{◌⊎◌, ◌+◌, inl, inr, take, subst}
use Rattle.std.specs.List.{Contains}
use Rattle.std.proofs.lemmas.List.{take_all}
use Rattle.ipdl_base.specs.declared.schema.MessageRow.{MessageRow}
use Rattle.ipdl_base.specs.declared.schema.ProtocolRow.{ProtocolRow}
use Rattle.wait_report.specs.Least.{IsMessageOf, MessagesLook}
use Rattle.wait_report.proofs.Looks.{messages-then, right-on, seen-more, in-list}
use Rattle.wait_report.proofs.rounds.look_at_protocols.Goals as goal
use Rattle.wait_report.proofs.rounds.look_at_protocols.Goals.{then-look_at_messages, else-look_at_messages}

pub look_at_messages-requires : goal.look_at_messages-requires
look_at_messages-requires c =
    let protocol = c.protocol-item.result in
    record {
      right = λ row there. right-on c.args.schema.now c.args.built.now.items c.loop-protocol.built.items row c.loop-protocol.invariant.size
          (c.requires.right row (protocol, in-list c.args.protocols.now c.loop-protocol.protocol-index protocol c.loop-protocol-test.true c.protocol-item.is, rw c.as_slice.ensures at there));
    }

pub loop-protocol-preserved : goal.loop-protocol-preserved
loop-protocol-preserved c =
    let protocol = c.protocol-item.result in
    let seen : (row : MessageRow) → IsMessageOf (take (c.loop-protocol.protocol-index + 1) c.args.protocols.now) row → IsMessageOf (take c.loop-protocol.protocol-index c.args.protocols.now) row ⊎ Contains c.as_slice.result.now row =
    λ row of. elim (seen-more c.args.protocols.now c.loop-protocol.protocol-index protocol of.0 c.loop-protocol-test.true c.protocol-item.is of.1) [
      | inl before ↦ inl (of.0, before, of.2)
      | inr one ↦ inr (rw c.as_slice.ensures (subst (λ (p : ProtocolRow). Contains p.messages row) one of.2))
    ] in
    messages-then c.args.schema.now c.args.types.now _ _ _ c.args.built.now.items c.loop-protocol.built.items c.look_at_messages.new.built.items c.loop-protocol.changed c.look_at_messages.result c.if-look_at_messages.changed c.loop-protocol.invariant c.look_at_messages.ensures
    seen
    (elim c.if-look_at_messages.branch [ then-look_at_messages w ↦ inl (w.if-look_at_messages.true, w.changed-is) | else-look_at_messages w ↦ inr (w.if-look_at_messages.false, w.changed-is) ])

pub returns : goal.returns
returns c = subst (λ (protocols : _). MessagesLook c.args.schema.now c.args.types.now (λ (seen : MessageRow). IsMessageOf protocols seen) c.args.built.now.items c.loop-protocol.built.items c.loop-protocol.changed) (take_all c.loop-protocol.protocol-index c.args.protocols.now c.loop-protocol-test.false) c.loop-protocol.invariant
