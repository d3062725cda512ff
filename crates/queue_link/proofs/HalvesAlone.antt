-- What each half of a relay obeys.
use Rattle.std.proofs.Common.{List}
use Rattle.ipdl_base.specs.declared.line.Line.{Line}
use Rattle.ipdl_base.specs.Sound.{IsSound}
use Rattle.relay_history.specs.Laws.{RelaysComeInOrder}
use Rattle.relay_laws.specs.Laws.{RelaysObeyAlone}
use Rattle.relay_runs.specs.Relays.{Relayed}
use Rattle.script_runs.specs.Laws.{HasLimit}
use Rattle.script_steps.specs.Choices.{Setting}
use Rattle.script_steps.specs.Turns.{RunEnding, at_limit, at_rest}
use Rattle.world_core.specs.declared.answers.RunAnswer.{RunAnswer}
use Rattle.world_core.specs.declared.answers.RunAnswer.TheVariants as run
use Rattle.world_core.specs.declared.relay.Halves.{Halves}
use Rattle.world_core.specs.Relaying.{IsRelayed}
use Rattle.queue_link.specs.HalvesAlone.{ObeyAlone, RelayedAlone}

module _ (in_order : RelaysComeInOrder) (obey : RelaysObeyAlone) (setting : Setting) (sound : IsSound setting.schema) (limit : HasLimit setting) where
  alone_so : (parent child : List Line) (ending : RunEnding) → Relayed setting parent child ending → RelayedAlone setting parent child ending
  alone_so parent child ending relayed = record { relayed = relayed; alone = obey setting relayed.state sound (in_order setting relayed.state sound limit relayed.relay) }

  pub halves_alone : (halves : Halves) (answer : RunAnswer) → IsRelayed setting halves answer → ObeyAlone setting halves answer
  halves_alone halves run.Finished relayed = alone_so _ _ at_rest relayed
  halves_alone halves (run.Spent side) relayed = alone_so _ _ (at_limit side) relayed
  halves_alone halves run.NoMemory relayed = tt
