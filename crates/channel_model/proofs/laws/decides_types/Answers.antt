use Rattle.channel_model.proofs.TypesDecided as law
use Rattle.channel_model.proofs.laws.decides_types.Goals as goal

pub returns : goal.returns
returns c = law.decides_types
