use Rattle.std.proofs.lemmas.List.{take_all}
use Rattle.written_parts.specs.Types.{told, types_of_message}
use Rattle.written_parts.proofs.Appending.{appends_none, appends_turn}
use Rattle.written_parts.proofs.types.add_messages.Goals as goal

pub loop-message-init : goal.loop-message-init
loop-message-init c = appends_none told c.args.types.now.items

pub loop-message-preserved : goal.loop-message-preserved
loop-message-preserved c =
    appends_turn told (types_of_message c.args.file) c.args.messages.now c.loop-message.message-index c.message-item.result _ _ _ c.loop-message-test.true c.message-item.is c.loop-message.invariant c.in_ok-add_message.ensures

pub returns : goal.returns
returns c = rw (take_all c.loop-message.message-index c.args.messages.now c.loop-message-test.false) at c.loop-message.invariant
