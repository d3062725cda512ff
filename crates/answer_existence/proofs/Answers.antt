-- All words have exactly one answer.
use Rattle.std.proofs.Common.{◌≡◌, ℕ, ◌≤◌, List, [], ◌∷◌, Option, Some, None, refl, inl, inr, ⊎_elim, arith, codes}
use Rattle.std.specs.List.{AllByRecursion}
use Rattle.std.specs.Str.{IsUtf8}
use Rattle.command_existence.specs.Laws.{AskingIsDecided, WordsAreDecided}
use Rattle.command_words.specs.Command.{CommandView, Say}
use Rattle.command_words.specs.Command as command
use Rattle.command_words.specs.RunOptions.{IsLimit}
use Rattle.ipdl_top.specs.declared.answer.CommandAnswer.{CommandAnswer}
use Rattle.ipdl_top.specs.declared.rendering.Rendering.TheVariants.{Chart, Summary, Transcript}
use Rattle.ipdl_top.specs.Audit.{SaysAuditedOf}
use Rattle.ipdl_top.specs.CommandAnswer.{AnswersTo, IsAnswer, IsAnswerWithout, SaysTables, table_answer, usage_answer}
use Rattle.ipdl_top.specs.CommandFiles.{given_by}
use Rattle.ipdl_top.specs.Explore.{SaysExplored}
use Rattle.ipdl_top.specs.Feed.{SaysFedOf}
use Rattle.ipdl_top.specs.FileViews.{FileViews}
use Rattle.ipdl_top.specs.Frames.{SaysFrames}
use Rattle.ipdl_top.specs.Gen.{case_course, case_files, case_path, holder_name, script_name}
use Rattle.ipdl_top.specs.Help.{topic_text}
use Rattle.ipdl_top.specs.Laws.{OneAnswer}
use Rattle.ipdl_top.specs.Relay.{Relaying, SaysRelayed}
use Rattle.ipdl_top.specs.Run.{Driving, SaysHistory}
use Rattle.ipdl_top.specs.Waits.{SaysWaits}
use Rattle.actor_tables.specs.TableText.{table_text}
use Rattle.answer_existence.specs.Laws.{DrivesAll, ExactlyOneAnswer, HasBytes, RelaysAll, RunsFreely, RunsQueues}
use Rattle.answer_existence.proofs.Compiled.{CompilationLaws, has_compilation, has_compilation_of_one}
use Rattle.answer_existence.proofs.Said.{SayingLaws, audit_said, by_script, explore_said, feed_said, frames_said, history_said, relay_said, waits_said}

-- the laws from which an answer follows
pub record AnswerLaws : Type 0 where
  pub words : WordsAreDecided
  pub asking : AskingIsDecided
  pub compilation : CompilationLaws
  pub saying : SayingLaws

-- a limit is at most 20,000
small_limit : (value : Option (List ℕ)) (limit : ℕ) → IsLimit value limit → limit ≤ 20000
small_limit None limit is = omega (arith, is)
small_limit (Some text) limit is = is.most

module _ (laws : AnswerLaws) (Gives : Driving) (Relays : Relaying) (seen : FileViews) (bytes : HasBytes seen.input) where
  abbrev HasAnswerTo : CommandView → Type 0
  HasAnswerTo said = (answer : CommandAnswer) × AnswersTo Gives Relays seen said answer

  abbrev Drives : List (List ℕ) → Type 0
  Drives words = (RunsFreely words → DrivesAll Gives) × (RunsQueues words → RelaysAll Relays)

  -- A command that words spell has an answer.
  answer_to : (said : CommandView) (words : List (List ℕ)) → Say words said → Drives words → HasAnswerTo said
  answer_to (command.compile list path names) words is drives =
      has_compilation laws.compilation SaysTables (λ schema. Unit {0}) (λ schema sound any. (table_answer (table_text schema), refl)) (given_by seen.files path names) seen.list list (λ schema read sound. tt)
      (record { few = is.files_are.listed.most; files = is.files_are.listed.each })
  answer_to (command.frames list path file name convert) [] is drives = absurd is
  answer_to (command.frames list path file name convert) (word ∷ words) is drives =
      has_compilation laws.compilation (SaysFrames name convert (seen.input name)) (λ schema. Unit {0}) (frames_said laws.saying name convert (seen.input name) (bytes name)) (given_by seen.files path (file ∷ [])) seen.list list (λ schema read sound. tt)
      (record { few = omega arith; files = ((is.1.operands.front, inl is.1.operands.ending), tt) })
  answer_to (command.waits list path file) [] is drives = absurd is
  answer_to (command.waits list path file) (word ∷ words) is drives =
      has_compilation_of_one laws.compilation (SaysWaits file) seen.files seen.list list path file is.1.operand.front is.1.operand.ending (waits_said laws.saying file)
  answer_to (command.run list path course script file) [] is drives = absurd is
  answer_to (command.run list path course script file) (word ∷ words) is drives =
      has_compilation_of_one laws.compilation _ seen.files seen.list list path file is.1.operands.front is.1.operands.ending
      (by_script laws.saying (SaysHistory Gives Transcript course) script (seen.script script) file
      (history_said laws.saying Gives Transcript course (small_limit _ course.limit is.1.limit_is) (λ free. drives.0 (record { list = list; path = path; course = course; script = script; file = file; is_run = inl is; free = free }))))
  answer_to (command.gen rounds actors) words is drives =
      has_compilation_of_one laws.compilation _ (case_files rounds actors) (case_files rounds actors) None case_path holder_name (codes "PGen") refl
      (by_script laws.saying (SaysHistory Gives (Summary rounds actors) case_course) script_name (case_files rounds actors script_name) holder_name
      (history_said laws.saying Gives (Summary rounds actors) case_course (omega arith) (λ free. absurd (let none : Some [] ≡ None = free in cc))))
  answer_to (command.feed list path course script file name) [] is drives = absurd is
  answer_to (command.feed list path course script file name) (word ∷ words) is drives =
      has_compilation_of_one laws.compilation _ seen.files seen.list list path file is.1.operands.front is.1.operands.ending
      (by_script laws.saying (SaysFedOf course name (seen.input name)) script (seen.script script) file (feed_said laws.saying course (small_limit _ course.limit is.1.limit_is) name (seen.input name) (bytes name)))
  answer_to (command.audit list path limit script file name) [] is drives = absurd is
  answer_to (command.audit list path limit script file name) (word ∷ words) is drives =
      has_compilation_of_one laws.compilation _ seen.files seen.list list path file is.1.operands.front is.1.operands.ending
      (by_script laws.saying (SaysAuditedOf limit name (seen.input name)) script (seen.script script) file (audit_said laws.saying limit (small_limit _ limit is.1.limit_is) name (seen.input name)))
  answer_to (command.relay list path course script file) [] is drives = absurd is
  answer_to (command.relay list path course script file) (word ∷ words) is drives =
      has_compilation_of_one laws.compilation _ seen.files seen.list list path file is.1.operands.front is.1.operands.ending
      (by_script laws.saying (SaysRelayed Relays course) script (seen.script script) file
      (relay_said laws.saying Relays course (small_limit _ course.limit is.1.limit_is) (drives.1 (record { list = list; path = path; course = course; script = script; file = file; is_relay = is }))))
  answer_to (command.chart list path course script file) [] is drives = absurd is
  answer_to (command.chart list path course script file) (word ∷ words) is drives =
      has_compilation_of_one laws.compilation _ seen.files seen.list list path file is.1.operands.front is.1.operands.ending
      (by_script laws.saying (SaysHistory Gives Chart course) script (seen.script script) file
      (history_said laws.saying Gives Chart course (small_limit _ course.limit is.1.limit_is) (λ free. drives.0 (record { list = list; path = path; course = course; script = script; file = file; is_run = inr is; free = free }))))
  answer_to (command.explore list path course script file) [] is drives = absurd is
  answer_to (command.explore list path course script file) (word ∷ words) is drives =
      has_compilation_of_one laws.compilation _ seen.files seen.list list path file is.1.operands.front is.1.operands.ending
      (by_script laws.saying (SaysExplored course) script (seen.script script) file (explore_said laws.saying course (small_limit _ course.limit is.1.limit_is)))

  -- Words that are no command have an answer.
  without_command : (words : List (List ℕ)) → (answer : CommandAnswer) × IsAnswerWithout words answer
  without_command words = ⊎_elim (λ asked. (table_answer (topic_text asked.0), inl (asked.0, asked.1, refl))) (λ nothing. (usage_answer, inr (nothing, refl))) (laws.asking words)

  has_answer : (words : List (List ℕ)) → AllByRecursion IsUtf8 words → Drives words → (answer : CommandAnswer) × IsAnswer Gives Relays seen words answer
  has_answer words texts drives =
      ⊎_elim (λ said. let a = answer_to said.0 words said.1 drives in (a.0, inl (record { command = said.0; said = said.1; answers = a.1 }))) (λ none. let a = without_command words in (a.0, inr (none, a.1))) (laws.words words texts)

pub exactly_one_answer : AnswerLaws → (Gives : Driving) (Relays : Relaying) → OneAnswer Gives Relays → ExactlyOneAnswer Gives Relays
exactly_one_answer laws Gives Relays one seen words texts bytes drives relays =
    let a = has_answer laws Gives Relays seen bytes words texts (drives, relays) in
    record { answer = a.0; is = a.1; only = λ leaves other is. one seen words a.0 other leaves a.1 is }
