use Rattle.channel_laws.proofs.Replies as law
use Rattle.channel_laws.proofs.laws.sync_replies_are_not_stray.Goals as goal

pub returns : goal.returns
returns c = law.sync_replies_are_not_stray
