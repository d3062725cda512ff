use Rattle.std.proofs.Common.{rules}
use Rattle.ipdl_base.specs.Plain.{plain_message}
use Rattle.channel_model.specs.Ends.{message}
use Rattle.world_core.proofs.feeding.deliver_message.Goals as goal

-- the packet that comes is the message that the end refuses

pub returns-in-Bad : goal.returns-in-Bad
returns-in-Bad g c = (message (plain_message c.args.message), search rules, search rules)

pub returns-in-Stray : goal.returns-in-Stray
returns-in-Stray g c = (message (plain_message c.args.message), search rules, search rules)

pub returns-in-WrongActor : goal.returns-in-WrongActor
returns-in-WrongActor g c = (message (plain_message c.args.message), search rules, search rules)
