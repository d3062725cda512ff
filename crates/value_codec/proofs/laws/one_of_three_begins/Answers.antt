use Rattle.value_codec.proofs.Cases.{three_cases}
use Rattle.value_codec.proofs.laws.one_of_three_begins.Goals as goal

pub returns : goal.returns
returns c = three_cases
