use Rattle.channel_model.proofs.FittingParts as law
use Rattle.channel_model.proofs.step_laws.first_ends_fit.Goals as goal

pub returns : goal.returns
returns c = law.first_ends_fit
