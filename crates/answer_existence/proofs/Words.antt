-- A word of turns gives a run for every setting.
use Rattle.std.proofs.Common.{◌≡◌, List, Some, refl}
use Rattle.channel_model.specs.Runs.{RunState}
use Rattle.ipdl_top.specs.Ended.{answer_of}
use Rattle.run_existence.specs.Laws.{HasRun, IsRunnable, WordsHaveRuns}
use Rattle.schedules.specs.declared.turn.Turn.{Turn}
use Rattle.script_runs.specs.Endings.{EndsAs}
use Rattle.script_runs.specs.Laws.{RestOfCasesIsStill}
use Rattle.script_steps.specs.Choices.{Choice, Setting, beginning_of, played}
use Rattle.script_steps.specs.Turns.{Picks, RunEnding, at_limit, at_rest}
use Rattle.world_core.specs.Turns.{StandsAs, WordGives}
use Rattle.world_core.specs.WorldView.{opening_of}
use Rattle.answer_existence.specs.Laws.{WordsDriveAll}

given_so : (setting : Setting) (word : List Turn) (last : RunState) (ending : RunEnding) → Picks setting word (beginning_of setting) last ending → WordGives (opening_of setting) word (answer_of ending) (record { setting = setting; state = last })
given_so setting word last at_rest picks = picks
given_so setting word last (at_limit side) picks = picks

stands_so : RestOfCasesIsStill → (setting : Setting) → IsRunnable setting → (choices : List Choice) (last : RunState) (ending : RunEnding) → played setting choices (beginning_of setting) ≡ Some last → EndsAs setting last ending
    → StandsAs (record { setting = setting; state = last }) (answer_of ending)
stands_so still setting is choices last at_rest plays quiet = (quiet, still setting choices last is.sound plays quiet)
stands_so still setting is choices last (at_limit side) plays spent = record { full = spent.0; left = spent.1 }

pub words_drive_all : WordsHaveRuns → RestOfCasesIsStill → WordsDriveAll
words_drive_all runs still word setting is =
    let r : HasRun setting word = runs setting is word in
    record {
      after = record { setting = setting; state = r.last };
      ending = r.ending;
      gives = given_so setting word r.last r.ending r.picks;
      about = refl;
      stands = stands_so still setting is r.choices r.last r.ending r.plays r.ends;
      case = record { leading = r.choices; plays = r.plays; history = record { choices = r.choices; state = r.last; plays = r.plays; made = refl } };
    }
