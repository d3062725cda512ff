-- What has an answer: all words that are texts, for all files.
use Rattle.std.specs.Prelude.{◌≡◌, ◌⊎◌, ℕ, List, Option, None, Some}
use Rattle.std.specs.List.{AllByRecursion}
use Rattle.std.specs.Str.{IsUtf8}
use Rattle.command_words.specs.Relay.{IsRelay, RelayCourse}
use Rattle.command_words.specs.Run.{Course, IsChart, IsRun}
use Rattle.ipdl_base.specs.Outside.{FileMap}
use Rattle.ipdl_base.specs.declared.line.Line.{Line}
use Rattle.ipdl_top.specs.declared.answer.CommandAnswer.{CommandAnswer}
use Rattle.ipdl_top.specs.CommandAnswer.{IsAnswer}
use Rattle.ipdl_top.specs.FileViews.{FileViews}
use Rattle.ipdl_top.specs.Laws.{LeavesNothing}
use Rattle.ipdl_top.specs.Relay.{Relaying}
use Rattle.ipdl_top.specs.Ended.{answer_of}
use Rattle.ipdl_top.specs.Run.{Driving}
use Rattle.relay_runs.specs.Relays.{RelayedByTurns}
use Rattle.run_existence.specs.Laws.{IsRunnable}
use Rattle.schedules.specs.declared.turn.Turn.{Turn}
use Rattle.script_steps.specs.Choices.{Setting}
use Rattle.script_steps.specs.Turns.{RunEnding}
use Rattle.value_codec.specs.Laws.{AreBytes}
use Rattle.world_core.specs.declared.relay.Halves.{Halves}
use Rattle.world_core.specs.Relaying.{IsRelayed, IsRelayedByTurns}
use Rattle.world_core.specs.Turns.{StandsAs, WordGives}
use Rattle.world_core.specs.WorldView.{WorldView, opening_of}
use Rattle.world_core.specs.Worlds.{IsCase}

-- Relays

-- Every relay in turns comes to an end.
abbrev pub RelaysEnd : Type 0
RelaysEnd = (setting : Setting) → IsRunnable setting → (parent : List Line) × (child : List Line) × (ending : RunEnding) × RelayedByTurns setting parent child ending

-- Drivers

-- what a driver gives for a run: where it ended and how, by choices of the run
pub record HasDriven (Gives : Driving) (setting : Setting) : Type 0 where
  pub after : WorldView
  pub ending : RunEnding
  pub gives : Gives (opening_of setting) after (answer_of ending)
  pub about : after.setting ≡ setting
  pub stands : StandsAs after (answer_of ending)
  pub case : IsCase after

-- a driver gives a run for every setting
abbrev pub DrivesAll : Driving → Type 0
DrivesAll Gives = (setting : Setting) → IsRunnable setting → HasDriven Gives setting

-- what a relay gives: the lines of both ends, and how it ended
pub record HasRelayed (Relays : Relaying) (setting : Setting) : Type 0 where
  pub halves : Halves
  pub ending : RunEnding
  pub gives : Relays (opening_of setting) halves (answer_of ending)
  pub relayed : IsRelayed setting halves (answer_of ending)

-- a relay gives these for every setting
abbrev pub RelaysAll : Relaying → Type 0
RelaysAll Relays = (setting : Setting) → IsRunnable setting → HasRelayed Relays setting

-- The turns of both sides are a relay that gives these for every setting.
abbrev pub TurnsRelayAll : Type 0
TurnsRelayAll = RelaysAll (λ before halves ended. IsRelayedByTurns before.setting halves ended)

-- The turns of any word are a driver that gives a run for every setting.
abbrev pub WordsDriveAll : Type 0
WordsDriveAll = (word : List Turn) → DrivesAll (λ before after ended. WordGives before word ended after)

-- Answers

-- each file of the map that exists has bytes
abbrev pub HasBytes : FileMap → Type 0
HasBytes files = (name bytes : List ℕ) → files name ≡ Some bytes → AreBytes bytes

-- the words run a script, to print or to draw its history, and give no word of turns
pub record RunsFreely (words : List (List ℕ)) : Type 0 where
  pub list : Option (List ℕ)
  pub path : List (List ℕ)
  pub course : Course
  pub script : List ℕ
  pub file : List ℕ
  pub is_run : IsRun words list path course script file ⊎ IsChart words list path course script file
  pub free : course.schedule ≡ None

-- the words run a script over two queues
pub record RunsQueues (words : List (List ℕ)) : Type 0 where
  pub list : Option (List ℕ)
  pub path : List (List ℕ)
  pub course : RelayCourse
  pub script : List ℕ
  pub file : List ℕ
  pub is_relay : IsRelay words list path course script file

-- The words have an answer, and only one unless they leave it to a driver.
pub record HasOneAnswer (Gives : Driving) (Relays : Relaying) (seen : FileViews) (words : List (List ℕ)) : Type 0 where
  pub answer : CommandAnswer
  pub is : IsAnswer Gives Relays seen words answer
  pub only : LeavesNothing words answer → (other : CommandAnswer) → IsAnswer Gives Relays seen words other → answer ≡ other

-- All words that are texts have exactly one answer, whatever the files are: if they run a script without a word of turns,
-- or over two queues, this needs a driver or a relay that gives a result for every setting.
abbrev pub ExactlyOneAnswer : Driving → Relaying → Type 0
ExactlyOneAnswer Gives Relays =
    (seen : FileViews) (words : List (List ℕ)) → AllByRecursion IsUtf8 words → HasBytes seen.input → (RunsFreely words → DrivesAll Gives) → (RunsQueues words → RelaysAll Relays) → HasOneAnswer Gives Relays seen words
