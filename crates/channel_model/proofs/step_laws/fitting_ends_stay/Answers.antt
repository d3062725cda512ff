use Rattle.channel_model.proofs.FittingParts as law
use Rattle.channel_model.proofs.step_laws.fitting_ends_stay.Goals as goal

pub returns : goal.returns
returns c = law.fitting_ends_stay
