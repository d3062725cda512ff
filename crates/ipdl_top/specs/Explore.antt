-- What the command that lists the ways of a script says of a schema.
use Rattle.std.specs.Prelude.{◌≡◌, ℕ, Bool, true, false, List, [], Contains, Option}
use Rattle.command_words.specs.Explore.{ExploreCourse}
use Rattle.ipdl_base.specs.declared.schema.Schema.{Schema}
use Rattle.ipdl_base.specs.Sound.{IsSound}
use Rattle.handler_script.specs.declared.script.Script.{Script}
use Rattle.handler_script.specs.Valid.{IsValid}
use Rattle.script_transcripts.specs.Legal.{IsLegalText}
use Rattle.explorations.specs.Explorations.{Exploration, IsExplored, Way}
use Rattle.explorations.specs.Laws.{IsRunOf, IsWayOf}
use Rattle.explorations.specs.Text.{exploration_text}
use Rattle.ipdl_top.specs.declared.answer.CommandAnswer.{CommandAnswer}
use Rattle.ipdl_top.specs.declared.status.Status.{Status}
use Rattle.ipdl_top.specs.declared.status.Status.TheVariants.{Done, Spent}
use Rattle.ipdl_top.specs.Audited.{audited_setting}
use Rattle.ipdl_top.specs.Scripts.{SaysByScript}

-- how the command ends: there are no more ways than are listed, or there are too many
abbrev pub explore_status : Bool → Status
explore_status true = Done
explore_status false = Spent

-- the answer that lists what an exploration finds
abbrev pub explore_answer : Exploration → CommandAnswer
explore_answer exploration = record { status = explore_status exploration.whole; out = exploration_text exploration; err = [] }

-- The answer lists the ways of the valid script by the sound schema, each by the first word that leads there, in the order of
-- these words. The run by the word of a way is that way. Where the list is whole, each text that a run may print is that of one
-- of the ways: the lines of each side and the ending are the same.
pub record SaysExplored (course : ExploreCourse) (schema : Schema) (script : Script) (answer : CommandAnswer) : Type 0 where
  pub sound : IsSound schema
  pub valid : IsValid schema script
  pub exploration : Exploration
  pub explored : IsExplored (audited_setting schema script course.limit) course.ways exploration
  pub runs : (way : Way) → Contains exploration.ways way → IsRunOf (audited_setting schema script course.limit) way
  pub covers : exploration.whole ≡ true → (text : List ℕ) (legal : IsLegalText (audited_setting schema script course.limit) text)
      → (way : Way) × Contains exploration.ways way × IsWayOf (audited_setting schema script course.limit) way legal.state legal.ending
  pub says : answer ≡ explore_answer exploration

-- The answer is that for a script of this name and its bytes.
abbrev pub SaysExplore : ExploreCourse → List ℕ → Option (List ℕ) → List ℕ → Schema → CommandAnswer → Type 0
SaysExplore course script text file schema answer = SaysByScript (SaysExplored course schema) script text file schema answer
