use Rattle.std.proofs.Common.{map}
use Rattle.pending_queue.specs.Plain.{plain_item}
use Rattle.channel_core.proofs.DeliveryLemmas.{reply_gives}
use Rattle.channel_core.proofs.end.End.deliver_reply.Goals as goal

pub invariant_of-self-2 : goal.invariant_of-self-2
invariant_of-self-2 c =
    (reply_gives c.self.inside c.args.self.now c.self.view_is c.self.invariant c.requires.open c.args.row.now c.args.message c.requires.may c.requires.reply c.requires.not_sync
    (map plain_item c.receive_reply.new.pending.items) c.receive_reply.new.out c.in_ok-receive_reply.ensures.ok).inside

pub returns-clause-ok : goal.returns-clause-ok
returns-clause-ok c =
    (reply_gives c.self.inside c.args.self.now c.self.view_is c.self.invariant c.requires.open c.args.row.now c.args.message c.requires.may c.requires.reply c.requires.not_sync
    (map plain_item c.receive_reply.new.pending.items) c.receive_reply.new.out c.in_ok-receive_reply.ensures.ok).steps
