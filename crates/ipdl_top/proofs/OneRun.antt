-- A script has one answer where its run goes by a word of turns.
use Rattle.std.proofs.Common.{◌≡◌, ◌≢◌, ◌∙◌, ◌++◌, ℕ, List, refl, sym, ap}
use Rattle.std.specs.Prelude.{Option, None, Some}
use Rattle.ipdl_base.specs.declared.line.Line.{Line}
use Rattle.ipdl_base.specs.declared.schema.Schema.{Schema}
use Rattle.schema_laws.specs.Frames.{AreSchemasAlike}
use Rattle.channel_model.specs.Runs.{RunState}
use Rattle.command_words.specs.Run.{Course}
use Rattle.handler_script.specs.declared.script.Script.{Script}
use Rattle.handler_script.specs.Plain.{plain_script}
use Rattle.schema_laws.specs.Runs.{AreSettingsAlike, PicksAlike, ScriptsAlike, TextsAlike}
use Rattle.schedules.specs.declared.turn.Turn.{Turn}
use Rattle.script_runs.specs.Endings.{ending_line}
use Rattle.script_steps.specs.Choices.{Setting, beginning_of}
use Rattle.script_steps.specs.Laws.{WordsHaveOneResult}
use Rattle.script_steps.specs.Turns.{Picks, RunEnding, at_limit, at_rest}
use Rattle.world_core.specs.WorldView.{WorldView, opening_of}
use Rattle.ipdl_top.specs.declared.answer.CommandAnswer.{CommandAnswer}
use Rattle.ipdl_top.specs.declared.rendering.Rendering.{Rendering}
use Rattle.ipdl_top.specs.declared.rendering.Rendering.TheVariants.{Chart, Summary, Transcript}
use Rattle.ipdl_top.specs.Ended.{answer_of, answer_with, spent_side}
use Rattle.ipdl_top.specs.Run.{Driving, IsMade, SaysHistory, SaysRun, rendered, run_answer, setting_by}
use Rattle.ipdl_top.proofs.ChartsAlike.{charted_alike}
use Rattle.ipdl_top.proofs.OneScript.{IsAny, script_one}

-- the laws that a run rests on
pub record RunLaws : Type 0 where
  pub picks : PicksAlike
  pub texts : TextsAlike
  pub scripts : ScriptsAlike
  pub one : WordsHaveOneResult

-- a run by a word of turns does what the word picks
picked_by : (Gives : Driving) (word : List Turn) (before after : WorldView) (ending : RunEnding) → IsMade Gives (Some word) before after (answer_of ending) → Picks before.setting word before.state after.state ending
picked_by Gives word before after at_rest made = made
picked_by Gives word before after (at_limit side) made = made

-- what is printed of lines under schemas that are the same up to boxes: a summary looks at no schema
one_text : TextsAlike → (shown : Rendering) (a b : Schema) → AreSchemasAlike a b → (lines : List Line) (ending : RunEnding) → rendered shown a lines ending ≡ rendered shown b lines ending
one_text texts Transcript a b alike lines ending = ap (λ (text : List ℕ). text ++ ending_line ending) (texts a b alike lines)
one_text texts (Summary rounds actors) a b alike lines ending = refl
one_text texts Chart a b alike lines ending = charted_alike a b alike lines (spent_side ending)

-- the answer of a run under such schemas
same_text : TextsAlike → (shown : Rendering) (a b : Schema) → AreSchemasAlike a b → (s t : RunState) (e f : RunEnding) → s ≡ t → e ≡ f → run_answer shown a s.lines e ≡ run_answer shown b t.lines f
same_text texts shown a b alike s t e f states endings =
    ap (λ (out : List ℕ). answer_with out e) (one_text texts shown a b alike s.lines e)
    ∙ ap (λ (state : RunState). run_answer shown b state.lines e) states ∙ ap (run_answer shown b t.lines) endings

word_one : RunLaws → (Gives : Driving) (word : List Turn) (S T : Setting) → AreSettingsAlike S T → (after other : WorldView) (e f : RunEnding)
    → IsMade Gives (Some word) (opening_of S) after (answer_of e) → IsMade Gives (Some word) (opening_of T) other (answer_of f) → (after.state ≡ other.state) × (e ≡ f)
word_one laws Gives word S T alike after other e f x y =
    laws.one T word (beginning_of T) after.state other.state e f (laws.picks S T alike word after.state e (picked_by Gives word (opening_of S) after e x)) (picked_by Gives word (opening_of T) other f y)

history_one : RunLaws → (Gives : Driving) (schedule : Option (List Turn)) → schedule ≢ None → (S T : Setting) → AreSettingsAlike S T → (after other : WorldView) (e f : RunEnding)
    → IsMade Gives schedule (opening_of S) after (answer_of e) → IsMade Gives schedule (opening_of T) other (answer_of f) → (after.state ≡ other.state) × (e ≡ f)
history_one laws Gives None some S T alike after other e f x y = absurd (some refl)
history_one laws Gives (Some word) some S T alike after other e f x y = word_one laws Gives word S T alike after other e f x y

run_of_one : RunLaws → (Gives : Driving) (shown : Rendering) (course : Course) → course.schedule ≢ None → (a b : Schema) → AreSchemasAlike a b → (s t : Script) → plain_script s ≡ plain_script t → (one other : CommandAnswer)
    → IsAny one → SaysHistory Gives shown course a s one → SaysHistory Gives shown course b t other → one ≡ other
run_of_one laws Gives shown course some a b alike s t same one other any x y =
    let settings : AreSettingsAlike (setting_by a s course) (setting_by b t course) = record { schemas = alike; scripts = same; stop = refl; limit = refl } in
    let ends = history_one laws Gives course.schedule some (setting_by a s course) (setting_by b t course) settings x.after y.after x.ending y.ending x.made y.made in
    x.says ∙ same_text laws.texts shown a b alike x.after.state y.after.state x.ending y.ending ends.0 ends.1 ∙ sym y.says

pub run_one : RunLaws → (Gives : Driving) (shown : Rendering) (course : Course) → course.schedule ≢ None → (name : List ℕ) (held : Option (List ℕ)) (file : List ℕ) (a b : Schema) → AreSchemasAlike a b → (one other : CommandAnswer)
    → SaysRun Gives shown course name held file a one → SaysRun Gives shown course name held file b other → one ≡ other
run_one laws Gives shown course some name held file = script_one laws.scripts (SaysHistory Gives shown course) (run_of_one laws Gives shown course some) name held file
