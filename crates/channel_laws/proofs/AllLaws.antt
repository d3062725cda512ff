-- Each of the five laws.
use Rattle.history_reading.specs.declared.law.Law.TheVariants as law
use Rattle.channel_laws.proofs.FallenRuns.{histories_obey_fallen}
use Rattle.channel_laws.proofs.LivingRuns.{histories_obey_living}
use Rattle.channel_laws.proofs.PrefixRuns.{histories_obey_prefix}
use Rattle.channel_laws.proofs.SettledRuns.{histories_obey_settled}
use Rattle.channel_laws.proofs.WaitLaw.{histories_obey_waits}
use Rattle.channel_laws.specs.AllLaws.{HistoriesObeyAllLaws}

pub histories_obey_all_laws : HistoriesObeyAllLaws
histories_obey_all_laws schema sound top moves law.Prefix = histories_obey_prefix schema sound top moves
histories_obey_all_laws schema sound top moves law.Living = histories_obey_living schema sound top moves
histories_obey_all_laws schema sound top moves law.Waits = histories_obey_waits schema sound top moves
histories_obey_all_laws schema sound top moves law.Settled = histories_obey_settled schema sound top moves
histories_obey_all_laws schema sound top moves law.Fallen = histories_obey_fallen schema sound top moves
