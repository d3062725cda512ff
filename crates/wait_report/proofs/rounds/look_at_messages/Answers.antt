use Rattle.std.proofs.Common.{inl, inr, subst}
use Rattle.std.specs.List.{Contains}
use Rattle.std.proofs.lemmas.List.{take_all}
use Rattle.ipdl_base.specs.declared.schema.MessageRow.{MessageRow}
use Rattle.wait_report.specs.Least.{MessagesLook}
use Rattle.wait_report.proofs.Looks.{messages-then, right-on, seen-more, in-list}
use Rattle.wait_report.proofs.rounds.look_at_messages.Goals as goal
use Rattle.wait_report.proofs.rounds.look_at_messages.Goals.{then-look_at_message, else-look_at_message}

pub look_at_message-requires : goal.look_at_message-requires
look_at_message-requires c =
    let row = c.row-item.result in
    record { right = right-on c.args.schema.now c.args.built.now.items c.loop-row.built.items row c.loop-row.invariant.size (c.requires.right row (in-list c.args.rows.now c.loop-row.row-index row c.loop-row-test.true c.row-item.is)) }

pub loop-row-preserved : goal.loop-row-preserved
loop-row-preserved c =
    let row = c.row-item.result in
    messages-then c.args.schema.now c.args.types.now _ _ _ c.args.built.now.items c.loop-row.built.items c.look_at_message.new.built.items c.loop-row.changed c.look_at_message.result c.if-look_at_message.changed c.loop-row.invariant c.look_at_message.ensures
    (λ seen there. seen-more c.args.rows.now c.loop-row.row-index row seen c.loop-row-test.true c.row-item.is there)
    (elim c.if-look_at_message.branch [ then-look_at_message w ↦ inl (w.if-look_at_message.true, w.changed-is) | else-look_at_message w ↦ inr (w.if-look_at_message.false, w.changed-is) ])

pub returns : goal.returns
returns c = subst (λ (rows : _). MessagesLook c.args.schema.now c.args.types.now (λ (seen : MessageRow). Contains rows seen) c.args.built.now.items c.loop-row.built.items c.loop-row.changed) (take_all c.loop-row.row-index c.args.rows.now c.loop-row-test.false) c.loop-row.invariant
