use Rattle.channel_laws.proofs.Replies as law
use Rattle.channel_laws.proofs.laws.replies_find_their_waits.Goals as goal

pub returns : goal.returns
returns c = law.replies_find_their_waits
