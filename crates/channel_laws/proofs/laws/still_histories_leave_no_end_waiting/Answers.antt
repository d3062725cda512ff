use Rattle.channel_laws.proofs.StillWorlds as law
use Rattle.channel_laws.proofs.laws.still_histories_leave_no_end_waiting.Goals as goal

pub returns : goal.returns
returns c = law.still_histories_leave_no_end_waiting
