use Rattle.ipdl_base.specs.Sound.{message_of}
use Rattle.value_types.proofs.Layouts.{body_fourfold}
use Rattle.value_types.proofs.laws.new_is_at_most_four_times.Goals as goal

pub returns : goal.returns
returns c = λ schema message. body_fourfold schema (message_of schema message.number) message.body
