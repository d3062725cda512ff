use Rattle.std.proofs.Common.{[], ◌∷◌, ap}
use Rattle.std.proofs.lemmas.List.{take_all}
use Rattle.written_parts.specs.Attributes.{told, borne_by, lists_of_message}
use Rattle.written_parts.specs.declared.attributes.Bearer.TheVariants as bearer
use Rattle.written_parts.proofs.Appending.{appends_none, appends_one, appends_then, appends_turn}
use Rattle.written_parts.proofs.attributes.add_protocol.Goals as goal

pub loop-message-init : goal.loop-message-init
loop-message-init c = appends_none told c.push.new.self.items

pub loop-message-preserved : goal.loop-message-preserved
loop-message-preserved c =
    appends_turn told lists_of_message c.args.protocol.now.messages c.loop-message.message-index c.message-item.result _ _ _
    (rw c.as_slice-message-items.ensures at c.loop-message-test.true) (rw c.as_slice-message-items.ensures at c.message-item.is) c.loop-message.invariant c.in_ok-add_message.ensures

pub returns : goal.returns
returns c =
    let p = c.args.protocol.now in
    appends_then told (borne_by bearer.Protocol p.attributes ∷ []) _ _ _ _ (appends_one told _ _ _ _ c.in_ok-push.ensures.items (ap (borne_by bearer.Protocol) c.as_slice.ensures))
    (rw (take_all c.loop-message.message-index p.messages (rw c.as_slice-message-items.ensures at c.loop-message-test.false)) at c.loop-message.invariant)
