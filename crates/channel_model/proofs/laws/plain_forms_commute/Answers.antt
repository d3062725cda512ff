use Rattle.channel_model.proofs.PlainValues as law
use Rattle.channel_model.proofs.laws.plain_forms_commute.Goals as goal

pub returns : goal.returns
returns c = law.plain_forms_commute
