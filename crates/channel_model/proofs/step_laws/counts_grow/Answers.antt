use Rattle.channel_model.proofs.CountedParts as law
use Rattle.channel_model.proofs.step_laws.counts_grow.Goals as goal

pub returns : goal.returns
returns c = law.counts_grow
