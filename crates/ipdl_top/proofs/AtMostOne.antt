-- Words have at most one answer with some files.
use Rattle.std.proofs.Common.{◌≡◌, ◌≢◌, ℕ, zero, Bool, true, false, List, [], ◌∷◌, ◌++◌, map, length, refl, sym, ◌∙◌, ap, subst, inl, inr, arith}
use Rattle.std.specs.Prelude.{Option, Some, None, codes}
use Rattle.std.specs.List.{flat_map}
use Rattle.std.proofs.lemmas.Option.{same_Some}
use Rattle.ipdl_base.specs.Outside.{FileMap}
use Rattle.ipdl_base.specs.declared.files.TheConstants.{MOST_BYTES}
use Rattle.ipdl_base.specs.declared.finding.Finding.{Finding}
use Rattle.ipdl_base.specs.declared.finding.Report.{Report}
use Rattle.ipdl_syntax.specs.declared.program.Entry.{Entry}
use Rattle.command_words.specs.Command.{CommandView, OneCommand, Say}
use Rattle.command_words.specs.Command as command
use Rattle.findings.specs.Report.{IsReport}
use Rattle.findings.proofs.Reports.{same_report}
use Rattle.include_graph.specs.Load.{keys_of}
use Rattle.include_graph.specs.Sources.{LoadInput, text_of}
use Rattle.include_graph.proofs.OneReach.{one_reach}
use Rattle.include_graph.proofs.OneUnit.{AtMostOne}
use Rattle.answer_laws.specs.Programs.{BreakAlike, AreListedAlike, HaveSchemasAlike, AreProgramsAlike}
use Rattle.program_schema.specs.Laws.{OneSchema, plain_schema}
use Rattle.schema_laws.specs.Frames.{FramesAlike, OneListOfFrames}
use Rattle.schema_laws.specs.Waits.{OneWaitReport, WaitsAlike}
use Rattle.frame_list.specs.declared.list.PlacedMessage.{PlacedMessage}
use Rattle.frame_list.specs.Converted.{new_frames}
use Rattle.frame_list.specs.Frames.{Holds, all_plain}
use Rattle.frame_list.specs.Lines.{frames_lines}
use Rattle.frame_list.proofs.PlainFrames.{new_plain}
use Rattle.frame_list.proofs.PlainLines.{plain_lines}
use Rattle.ipdl_base.specs.declared.schema.Schema.{Schema}
use Rattle.value_types.specs.Laws.{BoxesSayNothing}
use Rattle.wait_report.specs.declared.pair.Pair.{Pair}
use Rattle.wait_report.specs.Pairs.{IsReport as IsWaitReport}
use Rattle.history.specs.Text.{message_text}
use Rattle.history.specs.Words.{side_word}
use Rattle.sync_list.specs.declared.list.Section.{Section}
use Rattle.sync_list.specs.Lists.{IsListOf}
use Rattle.sync_list.specs.Laws.{OneList}
use Rattle.ipdl_top.specs.declared.answer.CommandAnswer.{CommandAnswer}
use Rattle.command_words.specs.declared.topic.Topic.{Topic}
use Rattle.command_words.proofs.OneTopic.{one_topic}
use Rattle.ipdl_top.specs.Help.{topic_text}
use Rattle.ipdl_top.specs.CommandAnswer.{IsBrokenFile, BreaksRules, IsFileReport, IsReading, IsRuleReport, IsSaidOf, IsAnswerWithout, IsCompilation, AnswersTo, SaysOf, SaysTables, table_answer}
use Rattle.ipdl_top.specs.CommandFiles.{files_by, given_by, names_read, seen_by}
use Rattle.ipdl_top.specs.declared.status.Status.TheVariants.{BadFrames, Broken, Spent}
use Rattle.ipdl_top.specs.Audit.{SaysAudit}
use Rattle.ipdl_top.specs.Explore.{SaysExplore}
use Rattle.ipdl_top.specs.Feed.{SaysFeed}
use Rattle.ipdl_top.specs.Frames.{SaysBytes, SaysFrames, frames_answer, frames_out}
use Rattle.ipdl_top.specs.Laws.{LeavesNothing, OneAnswer}
use Rattle.ipdl_top.specs.declared.rendering.Rendering.TheVariants.{Chart, Summary, Transcript}
use Rattle.ipdl_top.specs.Gen.{SaysGen, case_course, case_files, holder_name, script_name}
use Rattle.ipdl_top.specs.Inputs.{absent_answer, larger_answer}
use Rattle.ipdl_top.specs.Relay.{Relaying}
use Rattle.ipdl_top.specs.Run.{Driving}
use Rattle.ipdl_top.specs.Waits.{SaysWaits, pair_line, waits_text}
use Rattle.ipdl_top.specs.Lists.{AreSections, list_names}
use Rattle.ipdl_top.specs.FileViews.{FileViews}
use Rattle.ipdl_top.specs.Report.{broken_answer}
use Rattle.ipdl_top.proofs.Alike.{alike, same_keys}
use Rattle.ipdl_top.proofs.Compilations.{names_called, no_fault}
use Rattle.ipdl_top.proofs.TableTexts.{one_text}
use Rattle.ipdl_top.proofs.OneAudit.{AuditLaws, audit_one}
use Rattle.ipdl_top.proofs.OneExploration.{ExploreLaws, explore_one}
use Rattle.ipdl_top.proofs.OneFeed.{FeedLaws, feed_one}
use Rattle.ipdl_top.proofs.OneFile.{file_one}
use Rattle.ipdl_top.proofs.OneReport.{told_alike}
use Rattle.ipdl_top.proofs.OneRelay.{RelayLaws, relay_one}
use Rattle.ipdl_top.proofs.OneRun.{RunLaws, run_one}
use Rattle.ipdl_top.proofs.OneScript.{IsAny}
use Rattle.ipdl_top.proofs.OneTop.{one_top}

-- the laws of what the program is made of
pub record TheLaws : Type 0 where
  pub texts : AtMostOne
  pub command : OneCommand
  pub list : OneList
  pub rules : BreakAlike
  pub listed : AreListedAlike
  pub schemas : HaveSchemasAlike
  pub schema : OneSchema
  pub boxes : BoxesSayNothing
  pub frames_alike : FramesAlike
  pub frames : OneListOfFrames
  pub waits_alike : WaitsAlike
  pub wait_report : OneWaitReport
  pub runs : RunLaws
  pub feeds : FeedLaws
  pub audits : AuditLaws
  pub relays : RelayLaws
  pub explorations : ExploreLaws

-- Lists

-- a list has one list of sections
one_sections : TheLaws → (lists : FileMap) (list : Option (List ℕ)) (a b : Option (List Section)) → AreSections lists list a → AreSections lists list b → a ≡ b
one_sections laws lists None None None x y = refl
one_sections laws lists None None (Some b) x y = absurd y
one_sections laws lists None (Some a) b x y = absurd x
one_sections laws lists (Some word) None b x y = absurd x
one_sections laws lists (Some word) (Some a) None x y = absurd y
one_sections laws lists (Some word) (Some a) (Some b) x y =
    let same : y.bytes ≡ x.bytes = same_Some _ _ (sym y.has ∙ x.has) in
    ap Some (laws.list x.bytes a b x.spells (subst (λ (bytes : List ℕ). IsListOf bytes b) same y.spells))

-- Reports

-- a report of what nothing breaks is empty
empty : {Broken : Finding → Type 0} (report : List Finding) → ((f : Finding) → ¬ Broken f) → IsReport Broken report → report ≡ []
empty [] none h = refl
empty (f ∷ report) none h = absurd (none f ((h.exact f).0 (zero, omega arith, refl)))

-- files that break rules are not read as a program
not_read : TheLaws → (given : LoadInput) (lists : FileMap) (list : Option (List ℕ)) (report : Report) (program : List Entry) (sections : Option (List Section)) → IsFileReport given lists list report → IsReading given lists list program sections → ⊥
not_read laws given lists list report program sections x y =
    let keys : x.keys ≡ keys_of program = one_reach laws.texts given x.keys (keys_of program) x.reach y.is_program.reach in
    let none : (f : Finding) → ¬ IsBrokenFile given lists list (keys_of program) f =
    λ f h. elim h [ inl broken ↦ y.is_program.clean f broken | inr fault ↦ no_fault lists list sections (length (keys_of program)) f y.are_sections fault ] in
    x.some (empty report.findings none (subst (λ (ks : List (List ℕ)). IsReport (IsBrokenFile given lists list ks) report.findings) keys x.is_report))

-- files have one report
file_reports : TheLaws → (given : LoadInput) (lists : FileMap) (list : Option (List ℕ)) (one other : Report) → IsFileReport given lists list one → IsFileReport given lists list other → broken_answer Broken one ≡ broken_answer Broken other
file_reports laws given lists list one other x y =
    let keys : y.keys ≡ x.keys = one_reach laws.texts given y.keys x.keys y.reach x.reach in
    let findings = same_report one.findings other.findings x.is_report (subst (λ (ks : List (List ℕ)). IsReport (IsBrokenFile given lists list ks) other.findings) keys y.is_report) in
    told_alike Broken one other findings (x.called ∙ ap (λ (ks : List (List ℕ)). map (text_of given) ks ++ list_names list) (sym keys) ∙ sym y.called)

-- Programs

-- what one of two alike breaks, the other does
breaks_alike : TheLaws → (p q : List Entry) (sections : Option (List Section)) (f : Finding) → AreProgramsAlike p q → BreaksRules p sections f → BreaksRules q sections f
breaks_alike laws p q sections f same (inl h) = inl ((laws.rules p q f same).0 h)
breaks_alike laws p q sections f same (inr (inl (inl h))) = inr (inl (inl ((laws.rules p q f same).1 h)))
breaks_alike laws p q sections f same (inr (inl (inr h))) = inr (inl (inr ((laws.rules p q f same).2 h)))
breaks_alike laws p q None f same (inr (inr h)) = absurd h
breaks_alike laws p q (Some list) f same (inr (inr h)) = inr (inr (laws.listed p q list f same h))

-- two readings are of programs that are alike and break the same rules
read_alike : TheLaws → (given : LoadInput) (lists : FileMap) (list : Option (List ℕ)) (p q : List Entry) (s t : Option (List Section)) → IsReading given lists list p s → IsReading given lists list q t → (f : Finding) → BreaksRules p s f → BreaksRules q t f
read_alike laws given lists list p q s t x y f h =
    let same = one_sections laws lists list s t x.are_sections y.are_sections in
    subst (λ (o : Option (List Section)). BreaksRules q o f) same (breaks_alike laws p q s f (alike laws.texts given p q x.is_program y.is_program x.whole y.whole) h)

-- a program has one report
rule_reports : TheLaws → (given : LoadInput) (lists : FileMap) (list : Option (List ℕ)) (one other : Report) → IsRuleReport given lists list one → IsRuleReport given lists list other → broken_answer Broken one ≡ broken_answer Broken other
rule_reports laws given lists list one other x y =
    let to = read_alike laws given lists list x.program y.program x.sections y.sections x.reading y.reading in
    let back = read_alike laws given lists list y.program x.program y.sections x.sections y.reading x.reading in
    let moved : IsReport (BreaksRules x.program x.sections) other.findings = record {
      ordered = y.is_report.ordered;
      exact = λ f. (λ c. back f ((y.is_report.exact f).0 c), λ b. (y.is_report.exact f).1 (to f b));
    } in
    let findings = same_report one.findings other.findings x.is_report moved in
    let keys : keys_of x.program ≡ keys_of y.program = same_keys laws.texts given x.program y.program x.reading.is_program y.reading.is_program in
    let names : map (λ (e : Entry). e.name) x.program ≡ map (λ (e : Entry). e.name) y.program =
    sym (names_called given x.program (λ number entry at. (x.reading.is_program.entries number entry at).name)) ∙ ap (map (text_of given)) keys
    ∙ names_called given y.program (λ number entry at. (y.reading.is_program.entries number entry at).name) in
    told_alike Broken one other findings (x.called ∙ ap (λ (ns : List (List ℕ)). ns ++ list_names list) names ∙ sym y.called)

-- a program of whose schema something is said breaks no rule
not_said : TheLaws → (Says : Schema → CommandAnswer → Type 0) (given : LoadInput) (lists : FileMap) (list : Option (List ℕ)) (report : Report) (other : CommandAnswer) → IsRuleReport given lists list report → IsSaidOf Says given lists list other → ⊥
not_said laws Says given lists list report other x y =
    let read = y.read in
    let to = read_alike laws given lists list x.program read.program x.sections read.sections x.reading read.reading in
    x.some (empty report.findings (λ f h. read.clean f (to f h)) x.is_report)

-- one thing is said of schemas that are the same up to boxes
abbrev SaysOne : (Schema → CommandAnswer → Type 0) → Type 0
SaysOne Says = (a b : Schema) → plain_schema a ≡ plain_schema b → (one other : CommandAnswer) → Says a one → Says b other → one ≡ other

tables_one : SaysOne SaysTables
tables_one a b same one other x y = x ∙ ap table_answer (one_text a b same) ∙ sym y

-- the text for frames
out_one : TheLaws → (convert : Bool) (a b : Schema) → plain_schema a ≡ plain_schema b → (frames others : List PlacedMessage) → all_plain frames ≡ all_plain others → frames_out convert a frames ≡ frames_out convert b others
out_one laws true a b same frames others e = new_plain a frames ∙ ap (new_frames a) e ∙ sym (new_plain a others) ∙ laws.frames_alike.anew a b same others
out_one laws false a b same frames others e =
    plain_lines laws.boxes a frames ∙ ap (frames_lines a) e ∙ sym (plain_lines laws.boxes a others) ∙ laws.frames_alike.lines a b same others

bytes_one : TheLaws → (name : List ℕ) (convert : Bool) (bytes : List ℕ) → SaysOne (SaysBytes name convert bytes)
bytes_one laws name convert bytes a b same one other x y =
    let moved : Holds a 0 bytes y.frames y.fault = laws.frames_alike.held b a (sym same) 0 bytes y.frames y.fault y.holds in
    let list = laws.frames a x.sound 0 bytes x.are_bytes x.frames y.frames x.fault y.fault x.holds moved in
    x.says ∙ ap (λ (out : List ℕ). frames_answer name out x.fault) (out_one laws convert a b same x.frames y.frames list.0)
    ∙ ap (frames_answer name (frames_out convert b y.frames)) list.1 ∙ sym y.says

frames_one : TheLaws → (name : List ℕ) (convert : Bool) (bytes : Option (List ℕ)) → SaysOne (SaysFrames name convert bytes)
frames_one laws name convert bytes a b same one other x y =
    file_one (absent_answer BadFrames name) (larger_answer BadFrames name) MOST_BYTES (λ bytes. SaysBytes name convert bytes a) (λ bytes. SaysBytes name convert bytes b) one other
    (λ bytes. bytes_one laws name convert bytes a b same one other) bytes x y

-- the lines of pairs
same_lines : TheLaws → (a b : Schema) → plain_schema a ≡ plain_schema b → (pairs : List Pair) → waits_text a pairs ≡ waits_text b pairs
same_lines laws a b same pairs = ap (λ (f : Pair → List ℕ). flat_map f pairs) (λ i pair. pair_line_at pair i)
  where
    pair_line_at : (pair : Pair) → pair_line a pair ≡ pair_line b pair
    pair_line_at pair =
        ap (λ (name : List ℕ). side_word pair.side ++ codes " waits " ++ name ++ codes " takes " ++ message_text a pair.takes ++ codes "\n") (laws.waits_alike.names a b same pair.waits)
        ∙ ap (λ (name : List ℕ). side_word pair.side ++ codes " waits " ++ message_text b pair.waits ++ codes " takes " ++ name ++ codes "\n") (laws.waits_alike.names a b same pair.takes)

waits_one : TheLaws → (file : List ℕ) → SaysOne (SaysWaits file)
waits_one laws file a b same one other x y =
    let top : x.top ≡ y.top = one_top file a b same x.top y.top x.is_top y.is_top in
    let moved : IsWaitReport b y.top x.pairs = subst (λ (t : ℕ). IsWaitReport b t x.pairs) top (laws.waits_alike.reports a b same x.top x.pairs x.report) in
    let pairs : x.pairs ≡ y.pairs = laws.wait_report b y.top x.pairs y.pairs moved y.report in
    x.says ∙ ap table_answer (same_lines laws a b same x.pairs ∙ ap (waits_text b) pairs) ∙ sym y.says

-- the same, if one answer has a property
abbrev SaysOneSuch : (CommandAnswer → Type 0) → (Schema → CommandAnswer → Type 0) → Type 0
SaysOneSuch IsSuch Says = (a b : Schema) → plain_schema a ≡ plain_schema b → (one other : CommandAnswer) → IsSuch one → Says a one → Says b other → one ≡ other

-- and so of a program
said : TheLaws → (IsSuch : CommandAnswer → Type 0) (Says : Schema → CommandAnswer → Type 0) → SaysOneSuch IsSuch Says → (given : LoadInput) (lists : FileMap) (list : Option (List ℕ)) (one other : CommandAnswer)
    → IsSuch one → IsSaidOf Says given lists list one → IsSaidOf Says given lists list other → one ≡ other
said laws IsSuch Says unique given lists list one other such x y =
    let p = x.read in
    let q = y.read in
    let same = alike laws.texts given q.program p.program q.reading.is_program p.reading.is_program q.reading.whole p.reading.whole in
    let schema : plain_schema x.schema ≡ plain_schema y.schema = laws.schema p.program x.schema y.schema p.schema_of (laws.schemas q.program p.program y.schema same q.schema_of) in
    unique x.schema y.schema schema one other such x.says y.says

-- Answers

-- a compilation has one answer, if one answer has the property
compilations_such : TheLaws → (IsSuch : CommandAnswer → Type 0) (Says : Schema → CommandAnswer → Type 0) → SaysOneSuch IsSuch Says → (given : LoadInput) (lists : FileMap) (list : Option (List ℕ)) (one other : CommandAnswer)
    → IsSuch one → IsCompilation Says given lists list one → IsCompilation Says given lists list other → one ≡ other
compilations_such laws IsSuch Says unique given lists list one other such (inl x) (inl y) = x.says ∙ file_reports laws given lists list x.report y.report x.holds y.holds ∙ sym y.says
compilations_such laws IsSuch Says unique given lists list one other such (inl x) (inr (inl y)) = absurd (not_read laws given lists list x.report y.holds.program y.holds.sections x.holds y.holds.reading)
compilations_such laws IsSuch Says unique given lists list one other such (inl x) (inr (inr y)) = absurd (not_read laws given lists list x.report y.read.program y.read.sections x.holds y.read.reading)
compilations_such laws IsSuch Says unique given lists list one other such (inr (inl x)) (inl y) = absurd (not_read laws given lists list y.report x.holds.program x.holds.sections y.holds x.holds.reading)
compilations_such laws IsSuch Says unique given lists list one other such (inr (inr x)) (inl y) = absurd (not_read laws given lists list y.report x.read.program x.read.sections y.holds x.read.reading)
compilations_such laws IsSuch Says unique given lists list one other such (inr (inl x)) (inr (inl y)) = x.says ∙ rule_reports laws given lists list x.report y.report x.holds y.holds ∙ sym y.says
compilations_such laws IsSuch Says unique given lists list one other such (inr (inl x)) (inr (inr y)) = absurd (not_said laws Says given lists list x.report other x.holds y)
compilations_such laws IsSuch Says unique given lists list one other such (inr (inr x)) (inr (inl y)) = absurd (not_said laws Says given lists list y.report one y.holds x)
compilations_such laws IsSuch Says unique given lists list one other such (inr (inr x)) (inr (inr y)) = said laws IsSuch Says unique given lists list one other such x y

-- which answer a command leaves to no driver: any, except that of a run without a word of turns, and that a side of a relay is spent
abbrev LeavesNone : CommandView → CommandAnswer → Type 0
LeavesNone (command.run list path course script file) one = course.schedule ≢ None
LeavesNone (command.chart list path course script file) one = course.schedule ≢ None
LeavesNone (command.relay list path course script file) one = one.status ≢ Spent
LeavesNone _ one = Unit {0}

leaves_none : (words : List (List ℕ)) (command : CommandView) (one : CommandAnswer) → Say words command → LeavesNothing words one → LeavesNone command one
leaves_none words (command.compile list path names) one said leaves = tt
leaves_none words (command.frames list path file name convert) one said leaves = tt
leaves_none words (command.waits list path file) one said leaves = tt
leaves_none words (command.run list path course script file) one said leaves = leaves.0 list path course script file said
leaves_none words (command.gen rounds actors) one said leaves = tt
leaves_none words (command.feed list path course script file name) one said leaves = tt
leaves_none words (command.audit list path limit script file name) one said leaves = tt
leaves_none words (command.relay list path course script file) one said leaves = leaves.1 list path course script file said
leaves_none words (command.chart list path course script file) one said leaves = leaves.2 list path course script file said
leaves_none words (command.explore list path course script file) one said leaves = tt

-- a command says one thing of a schema, if it leaves the answer to no driver
of_any : (Says : Schema → CommandAnswer → Type 0) → SaysOne Says → SaysOneSuch IsAny Says
of_any Says unique a b same one other any = unique a b same one other

says_one : TheLaws → (Gives : Driving) (Relays : Relaying) (seen : FileViews) (command : CommandView) → SaysOneSuch (LeavesNone command) (SaysOf Gives Relays seen command)
says_one laws Gives Relays seen (command.compile list path names) = of_any SaysTables tables_one
says_one laws Gives Relays seen (command.frames list path file name convert) = of_any (SaysFrames name convert (seen.input name)) (frames_one laws name convert (seen.input name))
says_one laws Gives Relays seen (command.waits list path file) = of_any (SaysWaits file) (waits_one laws file)
says_one laws Gives Relays seen (command.run list path course script file) = λ a b same one other leaves. run_one laws.runs Gives Transcript course leaves script (seen.script script) file a b same one other
says_one laws Gives Relays seen (command.gen rounds actors) =
    of_any (SaysGen Gives rounds actors) (run_one laws.runs Gives (Summary rounds actors) case_course (λ e. cc) script_name (case_files rounds actors script_name) holder_name)
says_one laws Gives Relays seen (command.feed list path course script file name) =
    of_any (SaysFeed course script (seen.script script) name (seen.input name) file) (feed_one laws.feeds course script (seen.script script) name (seen.input name) file)
says_one laws Gives Relays seen (command.audit list path limit script file name) =
    of_any (SaysAudit limit script (seen.script script) name (seen.input name) file) (audit_one laws.audits limit script (seen.script script) name (seen.input name) file)
says_one laws Gives Relays seen (command.relay list path course script file) = relay_one laws.relays Relays course script (seen.script script) file
says_one laws Gives Relays seen (command.chart list path course script file) = λ a b same one other leaves. run_one laws.runs Gives Chart course leaves script (seen.script script) file a b same one other
says_one laws Gives Relays seen (command.explore list path course script file) =
    of_any (SaysExplore course script (seen.script script) file) (explore_one laws.explorations course script (seen.script script) file)

-- so has each command
commands : TheLaws → (Gives : Driving) (Relays : Relaying) (seen : FileViews) (command : CommandView) (one other : CommandAnswer) → LeavesNone command one → AnswersTo Gives Relays seen command one → AnswersTo Gives Relays seen command other → one ≡ other
commands laws Gives Relays seen command one other leaves x y =
    let names = names_read (files_by command) in
    let views = seen_by (files_by command) seen in
    compilations_such laws (LeavesNone command) (SaysOf Gives Relays views command) (says_one laws Gives Relays views command) (given_by views.files names.path names.program) views.list names.list one other leaves x y

-- words that are no command have one answer
without_command : (words : List (List ℕ)) (one other : CommandAnswer) → IsAnswerWithout words one → IsAnswerWithout words other → one ≡ other
without_command words one other (inl x) (inl y) = x.2 ∙ ap (λ (topic : Topic). table_answer (topic_text topic)) (one_topic words x.0 y.0 x.1 y.1) ∙ sym y.2
without_command words one other (inl x) (inr y) = absurd (y.0 x.0 x.1)
without_command words one other (inr x) (inl y) = absurd (x.0 y.0 y.1)
without_command words one other (inr x) (inr y) = x.1 ∙ sym y.1

-- words are one command at most
pub answer_is_determined : TheLaws → (Gives : Driving) (Relays : Relaying) → OneAnswer Gives Relays
answer_is_determined laws Gives Relays seen words one other leaves (inl x) (inl y) =
    let same : y.command ≡ x.command = laws.command words y.command x.command y.said x.said in
    commands laws Gives Relays seen x.command one other (leaves_none words x.command one x.said leaves) x.answers (subst (λ (command : CommandView). AnswersTo Gives Relays seen command other) same y.answers)
answer_is_determined laws Gives Relays seen words one other leaves (inl x) (inr y) = absurd (y.0 x.command x.said)
answer_is_determined laws Gives Relays seen words one other leaves (inr x) (inl y) = absurd (x.0 y.command y.said)
answer_is_determined laws Gives Relays seen words one other leaves (inr x) (inr y) = without_command words one other x.1 y.1
