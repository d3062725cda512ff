use Rattle.channel_laws.proofs.Exchanges as law
use Rattle.channel_laws.proofs.exchange_laws.ends_take_once.Goals as goal

pub returns : goal.returns
returns c = law.ends_take_once
