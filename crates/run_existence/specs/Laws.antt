-- Frames, runs, decided texts and reports of waits exist, for all inputs.
use Rattle.std.specs.Prelude.{◌≡◌, ◌⊎◌, ◌<◌, ℕ, List, Option, Some, length}
use Rattle.ipdl_base.specs.declared.schema.Schema.{Schema}
use Rattle.ipdl_base.specs.Sound.{IsSound}
use Rattle.handler_script.specs.Valid.{IsValid}
use Rattle.channel_model.specs.Runs.{RunState}
use Rattle.frame_list.specs.declared.list.FrameListFault.{FrameListFault}
use Rattle.frame_list.specs.declared.list.PlacedMessage.{PlacedMessage}
use Rattle.frame_list.specs.Frames.{Holds}
use Rattle.schedules.specs.declared.turn.Turn.{Turn}
use Rattle.script_runs.specs.Endings.{EndsAs}
use Rattle.script_runs.specs.Laws.{HasLimit}
use Rattle.script_steps.specs.Choices.{Choice, Setting, beginning_of, played}
use Rattle.script_steps.specs.Turns.{RunEnding, Picks}
use Rattle.script_transcripts.specs.Legal.{AreLegalSoFar, IsLegalText}
use Rattle.value_codec.specs.Laws.{AreBytes}
use Rattle.wait_report.specs.declared.pair.Pair.{Pair}
use Rattle.wait_report.specs.Pairs.{IsReport}

-- the bytes at an offset are frames, followed by nothing or by a fault
abbrev pub HasFrames : Schema → ℕ → List ℕ → Type 0
HasFrames schema offset bytes = (frames : List PlacedMessage) × (fault : Option FrameListFault) × Holds schema offset bytes frames fault

-- All bytes are frames, followed by nothing or by a fault.
abbrev pub BytesHaveFrames : Type 0
BytesHaveFrames = (schema : Schema) → IsSound schema → (offset : ℕ) (bytes : List ℕ) → AreBytes bytes → HasFrames schema offset bytes

-- A word of turns leads from the beginning to a last state, by choices of the run, and the run ends there.
pub record HasRun (setting : Setting) (word : List Turn) : Type 0 where
  pub last : RunState
  pub ending : RunEnding
  pub picks : Picks setting word (beginning_of setting) last ending
  pub choices : List Choice
  pub plays : played setting choices (beginning_of setting) ≡ Some last
  pub ends : EndsAs setting last ending

-- A setting of a sound schema and a valid script, in which no side may have 2^28 events.
pub record IsRunnable (setting : Setting) : Type 0 where
  pub sound : IsSound setting.schema
  pub valid : IsValid setting.schema setting.script
  pub limit : HasLimit setting

-- Every word of turns makes a run that ends.
abbrev pub WordsHaveRuns : Type 0
WordsHaveRuns = (setting : Setting) → IsRunnable setting → (word : List Turn) → HasRun setting word

-- A text is decided: some number of its first lines, and no greater number, are first lines of what a run prints; and
-- some run prints all of it, or no run does.
pub record IsDecidedText (setting : Setting) (text : List ℕ) : Type 0 where
  pub count : ℕ
  pub so_far : AreLegalSoFar setting text count
  pub legal : IsLegalText setting text ⊎ (¬ IsLegalText setting text)

-- Every text is decided.
abbrev pub TextsAreDecided : Type 0
TextsAreDecided = (setting : Setting) → IsRunnable setting → (text : List ℕ) → IsDecidedText setting text

-- A sound schema has a report of what may interrupt a wait, whichever of its protocols is the top.
abbrev pub WaitReportsExist : Type 0
WaitReportsExist = (schema : Schema) → IsSound schema → (top : ℕ) → top < length schema.protocols → (pairs : List Pair) × IsReport schema top pairs
