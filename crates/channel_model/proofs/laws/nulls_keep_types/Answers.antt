use Rattle.channel_model.proofs.TypedValues as law
use Rattle.channel_model.proofs.laws.nulls_keep_types.Goals as goal

pub returns : goal.returns
returns c = law.nulls_keep_types
