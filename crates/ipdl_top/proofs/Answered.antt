-- What follows from an answer to words.
use Rattle.std.proofs.Common.{◌≡◌, ◌≢◌, ◌⊎◌, ℕ, Bool, true, false, List, refl, ap, ◌∙◌, sym, inl, inr, ⊎_elim, true≢false}
use Rattle.std.specs.Prelude.{Option, Some, None}
use Rattle.ipdl_base.specs.Outside.{FileMap}
use Rattle.ipdl_base.specs.declared.files.TheConstants.{MOST_BYTES}
use Rattle.transcripts.specs.Compared.{most_text_bytes}
use Rattle.command_words.specs.declared.topic.Topic.{Topic}
use Rattle.command_words.specs.Topics.{Asks, MeanNothing}
use Rattle.command_words.specs.Command.{CommandView, audit, chart, compile, explore, feed, frames, gen, relay, run, waits}
use Rattle.command_words.specs.Explore.{ExploreCourse}
use Rattle.command_words.specs.Feed.{FeedCourse}
use Rattle.command_words.specs.Relay.{RelayCourse}
use Rattle.command_words.specs.Run.{Course}
use Rattle.feed_runs.specs.declared.fault.FeedFault.{FeedFault}
use Rattle.ipdl_base.specs.declared.kinds.Side.{Side}
use Rattle.frame_list.specs.declared.list.FrameListFault.{FrameListFault}
use Rattle.ipdl_base.specs.declared.schema.Schema.{Schema}
use Rattle.ipdl_top.specs.declared.answer.CommandAnswer.{CommandAnswer}
use Rattle.ipdl_top.specs.declared.rendering.Rendering.{Rendering}
use Rattle.ipdl_top.specs.declared.rendering.Rendering.TheVariants.{Chart, Summary, Transcript}
use Rattle.ipdl_top.specs.declared.status.Status.{Status}
use Rattle.ipdl_top.specs.declared.status.Status.TheVariants.{Done, Broken, Usage, ReadFault, WriteFault, Spent, NoMemory, BadScript, BadFrames, BadTranscript}
use Rattle.ipdl_top.specs.CommandAnswer.{AnswersTo, IsAnswer, IsAnswerWithout, IsCompilation, SaysOf, SaysTables, table_answer, usage_answer}
use Rattle.ipdl_top.specs.CommandFiles.{files_by, given_by, names_read, seen_by}
use Rattle.ipdl_top.specs.declared.audit.outcome.Audit.{Audit}
use Rattle.ipdl_top.specs.declared.audit.outcome.Audit.TheVariants as audits
use Rattle.ipdl_top.specs.Audit.{SaysAudit, SaysAudited, SaysAuditedOf, audit_answer}
use Rattle.ipdl_top.specs.Ended.{ended_answer}
use Rattle.ipdl_top.specs.Explore.{SaysExplore, SaysExplored, explore_status}
use Rattle.ipdl_top.specs.Feed.{SaysFed, SaysFedOf, SaysFeed, feed_answer}
use Rattle.ipdl_top.specs.Frames.{SaysBytes, SaysFrames, frames_answer, frames_out}
use Rattle.ipdl_top.specs.FileViews.{FileViews, ForMap, steady}
use Rattle.ipdl_top.specs.Gen.{case_course, case_files, holder_name, script_name}
use Rattle.ipdl_top.specs.Help.{topic_text}
use Rattle.ipdl_top.specs.Inputs.{SaysByFile, absent_answer, larger_answer}
use Rattle.ipdl_top.specs.Relay.{Relaying, SaysRelay, SaysRelayed, halves_text}
use Rattle.ipdl_top.specs.Run.{Driving, SaysHistory, SaysRun, run_answer}
use Rattle.ipdl_top.specs.Scripts.{SaysOfHeld, SaysOfText, unreadable_answer}
use Rattle.ipdl_top.specs.Waits.{SaysWaits}
use Rattle.ipdl_base.specs.declared.line.Line.{Line}
use Rattle.handler_script.specs.declared.script.Script.{Script}
use Rattle.script_steps.specs.Turns.{RunEnding, at_limit, at_rest}
use Rattle.include_graph.specs.Sources.{LoadInput}
use Rattle.file_log.specs.Log.{HaveSucceeded, ReadEntry}
use Rattle.ipdl_top.specs.Outcome.{IsBrokenOff, IsOutcome, IsOutcomeOfReads, IsSaid, IsStatusOfReads}
use Rattle.ipdl_top.specs.Written.{Writing}
use Rattle.ipdl_top.proofs.Views.{for_each_view, of_reads}

status_of : (a b : CommandAnswer) → a ≡ b → a.status ≡ b.status
status_of a b e = ap (λ (x : CommandAnswer). x.status) e

-- whether a command ends so, if reads and memory do not fail
abbrev is_said : Status → Bool
is_said Done = true
is_said Broken = true
is_said Spent = true
is_said BadScript = true
is_said BadFrames = true
is_said BadTranscript = true
is_said _ = false

-- an answer is that of a command
abbrev IsSaidSo : CommandAnswer → Type 0
IsSaidSo answer = is_said answer.status ≡ true

said_so : (a b : CommandAnswer) → a ≡ b → IsSaidSo b → IsSaidSo a
said_so a b e so = ap is_said (status_of a b e) ∙ so

of_tables : (schema : Schema) (answer : CommandAnswer) → SaysTables schema answer → IsSaidSo answer
of_tables schema answer says = said_so _ _ says refl

listed : (name out : List ℕ) (fault : Option FrameListFault) → IsSaidSo (frames_answer name out fault)
listed name out None = refl
listed name out (Some fault) = refl

-- and so is that by a file
of_file : (absent larger : CommandAnswer) (most : ℕ) (Says : List ℕ → CommandAnswer → Type 0) → IsSaidSo absent → IsSaidSo larger → ((bytes : List ℕ) (answer : CommandAnswer) → Says bytes answer → IsSaidSo answer)
    → (held : Option (List ℕ)) (answer : CommandAnswer) → SaysByFile absent larger most Says held answer → IsSaidSo answer
of_file absent larger most Says none many so None answer says = said_so _ _ says none
of_file absent larger most Says none many so (Some bytes) answer (inl says) = said_so _ _ says.1 many
of_file absent larger most Says none many so (Some bytes) answer (inr says) = so bytes answer says.1

of_frames : (name : List ℕ) (convert : Bool) (bytes : Option (List ℕ)) (schema : Schema) (answer : CommandAnswer) → SaysFrames name convert bytes schema answer → IsSaidSo answer
of_frames name convert bytes schema answer says =
    of_file (absent_answer BadFrames name) (larger_answer BadFrames name) MOST_BYTES (λ bytes. SaysBytes name convert bytes schema) refl refl
    (λ bytes answer told. said_so _ _ told.says (listed name (frames_out convert schema told.frames) told.fault)) bytes answer says

of_waits : (file : List ℕ) (schema : Schema) (answer : CommandAnswer) → SaysWaits file schema answer → IsSaidSo answer
of_waits file schema answer told = said_so _ _ told.says refl

of_lines : (shown : Rendering) (schema : Schema) (lines : List Line) (ending : RunEnding) → IsSaidSo (run_answer shown schema lines ending)
of_lines shown schema lines at_rest = refl
of_lines shown schema lines (at_limit side) = refl

of_history : (Gives : Driving) (shown : Rendering) (course : Course) (schema : Schema) (script : Script) (answer : CommandAnswer) → SaysHistory Gives shown course schema script answer → IsSaidSo answer
of_history Gives shown course schema script answer told = said_so _ _ told.says (of_lines shown schema told.after.state.lines told.ending)

of_text : (Says : Script → CommandAnswer → Type 0) → ((script : Script) (answer : CommandAnswer) → Says script answer → IsSaidSo answer)
    → (name text : List ℕ) (schema : Schema) (top : ℕ) (answer : CommandAnswer) → SaysOfText Says name text schema top answer → IsSaidSo answer
of_text Says so name text schema top answer (inl broken) = said_so _ _ broken.says refl
of_text Says so name text schema top answer (inr told) = so told.script answer told.says

of_held : (Says : Script → CommandAnswer → Type 0) → ((script : Script) (answer : CommandAnswer) → Says script answer → IsSaidSo answer)
    → (name : List ℕ) (text : Option (List ℕ)) (schema : Schema) (top : ℕ) (answer : CommandAnswer) → SaysOfHeld Says name text schema top answer → IsSaidSo answer
of_held Says so name text schema top answer says =
    of_file (unreadable_answer name) (unreadable_answer name) MOST_BYTES (λ text. SaysOfText Says name text schema top) refl refl (λ text. of_text Says so name text schema top) text answer says

of_run : (Gives : Driving) (shown : Rendering) (course : Course) (name : List ℕ) (held : Option (List ℕ)) (file : List ℕ) (schema : Schema) (answer : CommandAnswer) → SaysRun Gives shown course name held file schema answer → IsSaidSo answer
of_run Gives shown course name held file schema answer told = of_held (SaysHistory Gives shown course schema) (of_history Gives shown course schema) name held schema told.top answer told.says

ended : (schema : Schema) (name : List ℕ) (side : Side) (lines : List Line) (kept : Option FeedFault) (spent : Bool) → IsSaidSo (feed_answer schema name side lines kept spent)
ended schema name side lines kept true = refl
ended schema name side lines None false = refl
ended schema name side lines (Some fault) false = refl

of_fed : (course : FeedCourse) (name : List ℕ) (bytes : Option (List ℕ)) (schema : Schema) (script : Script) (answer : CommandAnswer) → SaysFedOf course name bytes schema script answer → IsSaidSo answer
of_fed course name bytes schema script answer says =
    of_file (absent_answer BadFrames name) (larger_answer BadFrames name) MOST_BYTES (λ bytes. SaysFed course name bytes schema script) refl refl
    (λ bytes answer told. said_so _ _ told.says (ended schema name course.side told.lines told.kept told.spent)) bytes answer says

of_feed : (course : FeedCourse) (script : List ℕ) (held : Option (List ℕ)) (name : List ℕ) (bytes : Option (List ℕ)) (file : List ℕ) (schema : Schema) (answer : CommandAnswer)
    → SaysFeed course script held name bytes file schema answer → IsSaidSo answer
of_feed course script held name bytes file schema answer told = of_held (SaysFedOf course name bytes schema) (of_fed course name bytes schema) script held schema told.top answer told.says

found : (name : List ℕ) (a : Audit) → IsSaidSo (audit_answer name a)
found name (audits.Legal events) = refl
found name (audits.Early at) = refl
found name (audits.NoStep at) = refl

of_audited : (limit : ℕ) (name : List ℕ) (text : Option (List ℕ)) (schema : Schema) (script : Script) (answer : CommandAnswer) → SaysAuditedOf limit name text schema script answer → IsSaidSo answer
of_audited limit name text schema script answer says =
    of_file (absent_answer BadTranscript name) (larger_answer BadTranscript name) most_text_bytes (λ text. SaysAudited limit name text schema script) refl refl
    (λ text answer told. said_so _ _ told.says (found name told.found)) text answer says

of_audit : (limit : ℕ) (script : List ℕ) (held : Option (List ℕ)) (name : List ℕ) (text : Option (List ℕ)) (file : List ℕ) (schema : Schema) (answer : CommandAnswer)
    → SaysAudit limit script held name text file schema answer → IsSaidSo answer
of_audit limit script held name text file schema answer told = of_held (SaysAuditedOf limit name text schema) (of_audited limit name text schema) script held schema told.top answer told.says

of_ending : (text : List ℕ) (ending : RunEnding) → IsSaidSo (ended_answer text ending)
of_ending text at_rest = refl
of_ending text (at_limit side) = refl

of_relayed : (Relays : Relaying) (course : RelayCourse) (schema : Schema) (script : Script) (answer : CommandAnswer) → SaysRelayed Relays course schema script answer → IsSaidSo answer
of_relayed Relays course schema script answer told = said_so _ _ told.says (of_ending (halves_text schema told.halves) told.ending)

of_relay : (Relays : Relaying) (course : RelayCourse) (name : List ℕ) (held : Option (List ℕ)) (file : List ℕ) (schema : Schema) (answer : CommandAnswer) → SaysRelay Relays course name held file schema answer → IsSaidSo answer
of_relay Relays course name held file schema answer told = of_held (SaysRelayed Relays course schema) (of_relayed Relays course schema) name held schema told.top answer told.says

of_ways : (whole : Bool) → is_said (explore_status whole) ≡ true
of_ways true = refl
of_ways false = refl

of_explored : (course : ExploreCourse) (schema : Schema) (script : Script) (answer : CommandAnswer) → SaysExplored course schema script answer → IsSaidSo answer
of_explored course schema script answer told = said_so _ _ told.says (of_ways told.exploration.whole)

of_explore : (course : ExploreCourse) (name : List ℕ) (held : Option (List ℕ)) (file : List ℕ) (schema : Schema) (answer : CommandAnswer) → SaysExplore course name held file schema answer → IsSaidSo answer
of_explore course name held file schema answer told = of_held (SaysExplored course schema) (of_explored course schema) name held schema told.top answer told.says

-- and so is that of a compilation
compiled : (Says : Schema → CommandAnswer → Type 0) → ((schema : Schema) (answer : CommandAnswer) → Says schema answer → IsSaidSo answer)
    → (given : LoadInput) (lists : FileMap) (list : Option (List ℕ)) (answer : CommandAnswer) → IsCompilation Says given lists list answer → IsSaidSo answer
compiled Says none given lists list answer (inl h) = said_so _ _ h.says refl
compiled Says none given lists list answer (inr (inl h)) = said_so _ _ h.says refl
compiled Says none given lists list answer (inr (inr h)) = none h.schema answer h.says

of_says : (Gives : Driving) (Relays : Relaying) (seen : FileViews) (command : CommandView) (schema : Schema) (answer : CommandAnswer) → SaysOf Gives Relays seen command schema answer → IsSaidSo answer
of_says Gives Relays seen (compile list path names) = of_tables
of_says Gives Relays seen (frames list path file name convert) = of_frames name convert (seen.input name)
of_says Gives Relays seen (waits list path file) = of_waits file
of_says Gives Relays seen (run list path course script file) = of_run Gives Transcript course script (seen.script script) file
of_says Gives Relays seen (gen rounds actors) = of_run Gives (Summary rounds actors) case_course script_name (case_files rounds actors script_name) holder_name
of_says Gives Relays seen (feed list path course script file name) = of_feed course script (seen.script script) name (seen.input name) file
of_says Gives Relays seen (audit list path limit script file name) = of_audit limit script (seen.script script) name (seen.input name) file
of_says Gives Relays seen (relay list path course script file) = of_relay Relays course script (seen.script script) file
of_says Gives Relays seen (chart list path course script file) = of_run Gives Chart course script (seen.script script) file
of_says Gives Relays seen (explore list path course script file) = of_explore course script (seen.script script) file

of_command : (Gives : Driving) (Relays : Relaying) (seen : FileViews) (command : CommandView) (answer : CommandAnswer) → AnswersTo Gives Relays seen command answer → IsSaidSo answer
of_command Gives Relays seen command answer h =
    let names = names_read (files_by command) in
    let views = seen_by (files_by command) seen in
    compiled (SaysOf Gives Relays views command) (of_says Gives Relays views command) (given_by views.files names.path names.program) views.list names.list answer h

-- the status of an answer to words that are no command
without_status : (words : List (List ℕ)) (answer : CommandAnswer) → IsAnswerWithout words answer → (answer.status ≡ Done) ⊎ (answer.status ≡ Usage)
without_status words answer (inl h) = inl (status_of answer (table_answer (topic_text h.0)) h.2)
without_status words answer (inr h) = inr (status_of answer usage_answer h.1)

-- words that mean nothing have the usage answer
pub of_no_command : (Gives : Driving) (Relays : Relaying) (seen : FileViews) (words : List (List ℕ)) (answer : CommandAnswer) → MeanNothing words → IsAnswer Gives Relays seen words answer → answer ≡ usage_answer
of_no_command Gives Relays seen words answer none (inl h) = absurd (none.0 h.command h.said)
of_no_command Gives Relays seen words answer none (inr h) = ⊎_elim (λ (k : (topic : Topic) × Asks words topic × (answer ≡ table_answer (topic_text topic))). absurd (none.1 k.0 k.1)) (λ k. k.1) h.1

-- and no others have it
pub no_command_of : (Gives : Driving) (Relays : Relaying) (seen : FileViews) (words : List (List ℕ)) (answer : CommandAnswer) → answer.status ≡ Usage → IsAnswer Gives Relays seen words answer → MeanNothing words
no_command_of Gives Relays seen words answer usage (inl h) = absurd (true≢false (sym (of_command Gives Relays seen h.command answer h.answers) ∙ ap is_said usage))
no_command_of Gives Relays seen words answer usage (inr (none, inl h)) = absurd (let both : Done ≡ Usage = sym (status_of answer (table_answer (topic_text h.0)) h.2) ∙ usage in cc)
no_command_of Gives Relays seen words answer usage (inr (none, inr h)) = (none, h.0)

-- and no other status
not_without : (status : Status) (words : List (List ℕ)) (answer : CommandAnswer) → IsAnswerWithout words answer → answer.status ≡ status → (Done ≡ status → ⊥) → (Usage ≡ status → ⊥) → ⊥
not_without status words answer h e not_done not_usage = ⊎_elim (λ done. not_done (sym done ∙ e)) (λ usage. not_usage (sym usage ∙ e)) (without_status words answer h)

-- an answer does not say that a read failed or that memory ran out
pub no_failure : (Gives : Driving) (Relays : Relaying) (seen : FileViews) (words : List (List ℕ)) (answer : CommandAnswer) → IsAnswer Gives Relays seen words answer → (answer.status ≡ ReadFault) ⊎ (answer.status ≡ NoMemory) → ⊥
no_failure Gives Relays seen words answer (inl h) (inl e) = true≢false (sym (of_command Gives Relays seen h.command answer h.answers) ∙ ap is_said e)
no_failure Gives Relays seen words answer (inl h) (inr e) = true≢false (sym (of_command Gives Relays seen h.command answer h.answers) ∙ ap is_said e)
no_failure Gives Relays seen words answer (inr h) (inl e) = not_without ReadFault words answer h.1 e (λ is. cc) (λ is. cc)
no_failure Gives Relays seen words answer (inr h) (inr e) = not_without NoMemory words answer h.1 e (λ is. cc) (λ is. cc)

-- nor that a write failed
pub no_write_failure : (Gives : Driving) (Relays : Relaying) (seen : FileViews) (words : List (List ℕ)) (answer : CommandAnswer) → IsAnswer Gives Relays seen words answer → answer.status ≡ WriteFault → ⊥
no_write_failure Gives Relays seen words answer (inl h) e = true≢false (sym (of_command Gives Relays seen h.command answer h.answers) ∙ ap is_said e)
no_write_failure Gives Relays seen words answer (inr h) e = not_without WriteFault words answer h.1 e (λ is. cc) (λ is. cc)

-- such an answer is given if no read failed
pub no_read_failed : (status : Status) (old new : List ReadEntry) → status ≢ ReadFault → HaveSucceeded old new → IsStatusOfReads status old new
no_read_failed ReadFault old new said h = absurd (said refl)
no_read_failed _ old new said h = h

-- the outcome by what the reads gave is that for the files as they are known, and else for some
pub outcome_seen : (told : Option FileMap) (old new : List ReadEntry) (IsIt : FileViews → CommandAnswer → Type 0) (status : Status) (out err : Writing) → IsOutcomeOfReads told old new IsIt status out err → ForMap told (λ seen. IsOutcome (IsIt seen) status out err)
outcome_seen told old new IsIt status out err (inl h) = of_reads told (λ seen. IsOutcome (IsIt seen) status out err)
    (for_each_view (λ seen. IsSaid (IsIt seen) status out err ⊎ IsBrokenOff (IsIt seen) status out err) (λ seen. IsOutcome (IsIt seen) status out err) (λ seen k. elim k [ inl said ↦ inl said | inr broken ↦ inr (inl broken) ]) h)
outcome_seen None old new IsIt status out err (inr e) = (steady (λ name. None), inr (inr e))
outcome_seen (Some map) old new IsIt status out err (inr e) = inr (inr e)
