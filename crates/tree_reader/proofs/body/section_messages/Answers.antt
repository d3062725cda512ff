use Rattle.tree_reader.proofs.BodyTurns.{more_messages, all_messages}
use Rattle.tree_reader.proofs.body.section_messages.Goals as goal

pub messages-preserved : goal.messages-preserved
messages-preserved c =
    more_messages c.args.direction c.in_ok-message.field-0 c.args.all.now.items c.messages.all.items c.push.new.self.items c.args.reader.now c.messages.reader c.message.new.reader
    c.in_ok-push.ensures.items c.messages.invariant c.in_ok-message.ensures.read c.in_ok-message.ensures.turns c.in_ok-message.ensures.less

pub returns-clause-read : goal.returns-clause-read
returns-clause-read c = all_messages c.args.direction c.args.all.now.items c.messages.all.items c.args.reader.now c.messages.reader c.messages.invariant.read
