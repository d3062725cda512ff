-- A feed has one answer.
use Rattle.std.proofs.Common.{◌≡◌, ◌∙◌, ℕ, Bool, List, ◌++◌, refl, sym, ap}
use Rattle.std.specs.Prelude.{Option}
use Rattle.ipdl_base.specs.declared.files.TheConstants.{MOST_BYTES}
use Rattle.ipdl_base.specs.declared.line.Line.{Line}
use Rattle.ipdl_base.specs.declared.schema.Schema.{Schema}
use Rattle.command_words.specs.Feed.{FeedCourse}
use Rattle.feed_runs.specs.declared.fault.FeedFault.{FeedFault}
use Rattle.feed_runs.specs.FeedTurns.{FeedState, beginning_of}
use Rattle.feed_runs.specs.Laws.{FeedsHaveOneResult}
use Rattle.handler_script.specs.declared.script.Script.{Script}
use Rattle.handler_script.specs.Plain.{plain_script}
use Rattle.schema_laws.specs.Feeds.{FeedsAlike}
use Rattle.schema_laws.specs.Frames.{AreSchemasAlike}
use Rattle.schema_laws.specs.Runs.{AreSettingsAlike, ScriptsAlike, TextsAlike}
use Rattle.ipdl_top.specs.declared.answer.CommandAnswer.{CommandAnswer}
use Rattle.ipdl_top.specs.Feed.{SaysFed, SaysFedOf, SaysFeed, feed_answer, feed_ending, feed_setting, feed_status, kept_text}
use Rattle.script_runs.specs.Endings.{ending_line}
use Rattle.ipdl_top.specs.Inputs.{absent_answer, larger_answer}
use Rattle.ipdl_top.specs.declared.status.Status.TheVariants.{BadFrames}
use Rattle.ipdl_top.proofs.OneFile.{file_one}
use Rattle.ipdl_top.proofs.OneScript.{IsAny, script_one}

-- the laws that a feed rests on
pub record FeedLaws : Type 0 where
  pub alike : FeedsAlike
  pub one : FeedsHaveOneResult
  pub texts : TextsAlike
  pub scripts : ScriptsAlike

fed_one : FeedLaws → (course : FeedCourse) (name bytes : List ℕ) (a b : Schema) → AreSchemasAlike a b → (s t : Script) → plain_script s ≡ plain_script t → (one other : CommandAnswer)
    → SaysFed course name bytes a s one → SaysFed course name bytes b t other → one ≡ other
fed_one laws course name bytes a b alike s t same one other x y =
    let settings : AreSettingsAlike (feed_setting a s course) (feed_setting b t course) = record { schemas = alike; scripts = same; stop = refl; limit = refl } in
    let moved = laws.alike (feed_setting a s course) (feed_setting b t course) settings course.side bytes x.feed.last x.spent x.feed.feeds in
    let ends = laws.one (feed_setting b t course) course.side bytes (beginning_of (feed_setting b t course) course.side) x.feed.last y.feed.last x.spent y.spent moved y.feed.feeds in
    let lines : x.lines ≡ y.lines = sym x.feed.lines_are ∙ ap (λ (state : FeedState). state.half.lines) ends.0 ∙ y.feed.lines_are in
    let kept : x.kept ≡ y.kept = sym x.feed.fault_is ∙ ap (λ (state : FeedState). state.fault) ends.0 ∙ y.feed.fault_is in
    x.says
    ∙ ap (λ (text : List ℕ). record { status = feed_status x.spent x.kept; out = text ++ ending_line (feed_ending course.side x.spent); err = kept_text name x.kept }) (laws.texts a b alike x.lines)
    ∙ ap (λ (ls : List Line). feed_answer b name course.side ls x.kept x.spent) lines ∙ ap (λ (k : Option FeedFault). feed_answer b name course.side y.lines k x.spent) kept
    ∙ ap (λ (spent : Bool). feed_answer b name course.side y.lines y.kept spent) ends.1 ∙ sym y.says

fed_of_one : FeedLaws → (course : FeedCourse) (name : List ℕ) (bytes : Option (List ℕ)) (a b : Schema) → AreSchemasAlike a b → (s t : Script) → plain_script s ≡ plain_script t → (one other : CommandAnswer)
    → IsAny one → SaysFedOf course name bytes a s one → SaysFedOf course name bytes b t other → one ≡ other
fed_of_one laws course name bytes a b alike s t same one other any x y =
    file_one (absent_answer BadFrames name) (larger_answer BadFrames name) MOST_BYTES (λ bytes. SaysFed course name bytes a s) (λ bytes. SaysFed course name bytes b t) one other
    (λ bytes. fed_one laws course name bytes a b alike s t same one other) bytes x y

pub feed_one : FeedLaws → (course : FeedCourse) (script : List ℕ) (held : Option (List ℕ)) (name : List ℕ) (bytes : Option (List ℕ)) (file : List ℕ) (a b : Schema) → AreSchemasAlike a b → (one other : CommandAnswer)
    → SaysFeed course script held name bytes file a one → SaysFeed course script held name bytes file b other → one ≡ other
feed_one laws course script held name bytes file = script_one laws.scripts (SaysFedOf course name bytes) (fed_of_one laws course name bytes) script held file
