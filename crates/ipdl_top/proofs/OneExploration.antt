-- An exploration has one answer.
use Rattle.std.proofs.Common.{◌≡◌, ◌∙◌, ℕ, List, refl, sym, ap}
use Rattle.std.specs.Prelude.{Option}
use Rattle.command_words.specs.Explore.{ExploreCourse}
use Rattle.explorations.specs.Laws.{ExplorationsAreOne}
use Rattle.handler_script.specs.declared.script.Script.{Script}
use Rattle.handler_script.specs.Plain.{plain_script}
use Rattle.ipdl_base.specs.declared.schema.Schema.{Schema}
use Rattle.schema_laws.specs.Explorations.{ExplorationsAlike}
use Rattle.schema_laws.specs.Frames.{AreSchemasAlike}
use Rattle.schema_laws.specs.Runs.{AreSettingsAlike, ScriptsAlike}
use Rattle.ipdl_top.specs.declared.answer.CommandAnswer.{CommandAnswer}
use Rattle.ipdl_top.specs.Audited.{audited_setting}
use Rattle.ipdl_top.specs.Explore.{SaysExplore, SaysExplored, explore_answer}
use Rattle.ipdl_top.proofs.OneScript.{IsAny, script_one}

-- the laws that an exploration rests on
pub record ExploreLaws : Type 0 where
  pub alike : ExplorationsAlike
  pub one : ExplorationsAreOne
  pub scripts : ScriptsAlike

explored_one : ExploreLaws → (course : ExploreCourse) (a b : Schema) → AreSchemasAlike a b → (s t : Script) → plain_script s ≡ plain_script t → (one other : CommandAnswer)
    → IsAny one → SaysExplored course a s one → SaysExplored course b t other → one ≡ other
explored_one laws course a b alike s t same one other any x y =
    let settings : AreSettingsAlike (audited_setting a s course.limit) (audited_setting b t course.limit) = record { schemas = alike; scripts = same; stop = refl; limit = refl } in
    x.says
    ∙ ap explore_answer
    (laws.one (audited_setting b t course.limit) course.ways x.exploration y.exploration (laws.alike (audited_setting a s course.limit) (audited_setting b t course.limit) settings course.ways x.exploration x.explored) y.explored)
    ∙ sym y.says

pub explore_one : ExploreLaws → (course : ExploreCourse) (script : List ℕ) (held : Option (List ℕ)) (file : List ℕ) (a b : Schema) → AreSchemasAlike a b → (one other : CommandAnswer)
    → SaysExplore course script held file a one → SaysExplore course script held file b other → one ≡ other
explore_one laws course script held file = script_one laws.scripts (SaysExplored course) (explored_one laws course) script held file
