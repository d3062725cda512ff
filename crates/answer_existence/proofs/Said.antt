-- Each command has an answer for a sound schema.
use Rattle.std.proofs.Common.{◌≡◌, ◌⊎◌, ℕ, ◌<◌, ◌≤◌, ◌+◌, Bool, List, [], ◌∷◌, length, Option, Some, None, refl, sym, subst, inl, inr, ⊎_elim, arith}
use Rattle.std.proofs.lemmas.Bool.{cases_lt}
use Rattle.command_words.specs.Explore.{ExploreCourse}
use Rattle.command_words.specs.Feed.{FeedCourse}
use Rattle.command_words.specs.Relay.{RelayCourse}
use Rattle.command_words.specs.Run.{Course}
use Rattle.explorations.specs.Laws.{ExplorationsExist, WaysAreRun, WaysCoverTexts}
use Rattle.feed_runs.specs.FeedTurns.{Feed}
use Rattle.handler_script.proofs.Validity.{script_valid}
use Rattle.handler_script.specs.Valid.{IsValid}
use Rattle.handler_script.specs.declared.script.Script.{Script}
use Rattle.history_reading.specs.declared.law.Law.TheVariants as law
use Rattle.ipdl_base.specs.Sound.{IsSound}
use Rattle.ipdl_base.specs.declared.files.TheConstants.{MOST_BYTES}
use Rattle.ipdl_base.specs.declared.finding.Report.{Report}
use Rattle.ipdl_base.specs.declared.schema.Schema.{Schema}
use Rattle.ipdl_top.specs.declared.answer.CommandAnswer.{CommandAnswer}
use Rattle.ipdl_top.specs.declared.audit.outcome.Audit.{Audit}
use Rattle.ipdl_top.specs.declared.audit.outcome.Audit.TheVariants as audit
use Rattle.ipdl_top.specs.declared.rendering.Rendering.{Rendering}
use Rattle.ipdl_top.specs.declared.status.Status.TheVariants as status
use Rattle.ipdl_top.specs.Audit.{SaysAudited, SaysAuditedOf, audit_answer}
use Rattle.ipdl_top.specs.Audited.{IsAudited, audited_setting}
use Rattle.ipdl_top.specs.Explore.{SaysExplored, explore_answer}
use Rattle.ipdl_top.specs.Feed.{SaysFed, SaysFedOf, feed_answer, feed_setting}
use Rattle.ipdl_top.specs.Ended.{answer_of, ended_answer}
use Rattle.ipdl_top.specs.Frames.{SaysBytes, SaysFrames, frames_answer, frames_out}
use Rattle.ipdl_top.specs.Inputs.{SaysByFile, absent_answer, larger_answer}
use Rattle.ipdl_top.specs.Relay.{Relaying, SaysRelayed, halves_text, relay_setting}
use Rattle.ipdl_top.specs.Report.{broken_answer}
use Rattle.ipdl_top.specs.Run.{Driving, SaysHistory, run_answer, setting_by}
use Rattle.ipdl_top.specs.RunSteps.{IsMadeUnless}
use Rattle.ipdl_top.specs.Scripts.{SaysByScript, SaysOfHeld, SaysOfText, unreadable_answer}
use Rattle.ipdl_top.specs.Waits.{SaysWaits, waits_text}
use Rattle.ipdl_top.proofs.Relays.{RelayedLaws, says_relayed}
use Rattle.ipdl_top.proofs.Feeds.{owed_so}
use Rattle.ipdl_top.proofs.Runs.{says_history}
use Rattle.law_statements.specs.Laws.{DecidesFallen, DecidesReadable, LawsWantReadable}
use Rattle.progress_laws.specs.Progress.{HistoriesAreWeighed}
use Rattle.progress_laws.specs.Rest.{StillWorldsRest}
use Rattle.relay_history.specs.SidesAlone.{SidesObeyAlone}
use Rattle.relay_laws.specs.Laws.{FeedsObeyAlone, FeedsRunAlone}
use Rattle.run_existence.specs.Laws.{BytesHaveFrames, IsDecidedText, IsRunnable, TextsAreDecided, WaitReportsExist, WordsHaveRuns}
use Rattle.schedules.specs.declared.turn.Turn.{Turn}
use Rattle.script_existence.specs.Laws.{ScriptsExist}
use Rattle.script_runs.specs.Laws.{RestOfCasesIsStill}
use Rattle.script_steps.specs.Choices.{Setting}
use Rattle.script_steps.specs.Laws.{ChoicesAreRuns}
use Rattle.script_steps.specs.Turns.{RunEnding, at_limit, at_rest}
use Rattle.transcripts.specs.TextLines.{text_lines}
use Rattle.script_transcripts.specs.Legal.{AreLegalSoFar, IsLegalText}
use Rattle.transcripts.specs.Compared.{events_in, most_text_bytes}
use Rattle.value_codec.specs.Laws.{AreBytes}
use Rattle.world_core.specs.FeedLaws.{FeedsComeToAnEnd}
use Rattle.world_core.specs.declared.relay.Halves.{Halves}
use Rattle.world_core.specs.Relaying.{RelayGives}
use Rattle.world_core.specs.Turns.{WordGives}
use Rattle.world_core.specs.WorldView.{WorldView, opening_of}
use Rattle.order_statements.specs.Laws.{HistoriesGiveWhatIsOwed, HistoriesKeepOrder, OneEndHasEffects}
use Rattle.order_statements.specs.Lawful.{HistoriesAreLawful}
use Rattle.answer_existence.specs.Laws.{DrivesAll, HasDriven, HasRelayed, RelaysAll}
use Rattle.answer_existence.proofs.Compiled.{HasTop, SaysSomething}
use Rattle.answer_existence.proofs.Words.{words_drive_all}

-- the laws from which it follows
pub record SayingLaws : Type 0 where
  pub scripts : ScriptsExist
  pub frames : BytesHaveFrames
  pub waits : WaitReportsExist
  pub words : WordsHaveRuns
  pub texts : TextsAreDecided
  pub feeds : FeedsComeToAnEnd
  pub fed_alone : FeedsObeyAlone
  pub fed_runs : FeedsRunAlone
  pub effects : OneEndHasEffects
  pub decides_readable : DecidesReadable
  pub decides_fallen : DecidesFallen
  pub want : LawsWantReadable
  pub runs : ChoicesAreRuns
  pub lawful : HistoriesAreLawful
  pub order : HistoriesKeepOrder
  pub owed : HistoriesGiveWhatIsOwed
  pub still : RestOfCasesIsStill
  pub rests : StillWorldsRest
  pub weighed : HistoriesAreWeighed
  pub sides : SidesObeyAlone
  pub relayed : RelayedLaws
  pub explorations : ExplorationsExist
  pub ways_run : WaysAreRun
  pub ways_cover : WaysCoverTexts

-- Files

-- A file has an answer, if something is said of its bytes.
file_said : (absent larger : CommandAnswer) (most : ℕ) (Says : List ℕ → CommandAnswer → Type 0) (file : Option (List ℕ)) → ((bytes : List ℕ) → file ≡ Some bytes → length bytes ≤ most → (answer : CommandAnswer) × Says bytes answer)
    → (answer : CommandAnswer) × SaysByFile absent larger most Says file answer
file_said absent larger most Says None says = (absent, refl)
file_said absent larger most Says (Some bytes) says =
    ⊎_elim (λ (large : most < length bytes). (larger, inl (large, refl)))
    (λ (small : length bytes ≤ most). let s = says bytes refl small in (s.0, inr (small, s.1))) (cases_lt most (length bytes))

module _ (laws : SayingLaws) where
  -- Frames

  pub frames_said : (name : List ℕ) (convert : Bool) (file : Option (List ℕ)) → ((bytes : List ℕ) → file ≡ Some bytes → AreBytes bytes) → SaysSomething (SaysFrames name convert file) (λ schema. Unit {0})
  frames_said name convert file are schema sound is =
      file_said (absent_answer status.BadFrames name) (larger_answer status.BadFrames name) MOST_BYTES (λ bytes. SaysBytes name convert bytes schema) file
      (λ bytes there small.
      let f = laws.frames schema sound 0 bytes (are bytes there) in
      (frames_answer name (frames_out convert schema f.0) f.1, record { sound = sound; are_bytes = are bytes there; frames = f.0; fault = f.1; holds = f.2; says = refl }))

  -- Waits

  pub waits_said : (file : List ℕ) → SaysSomething (SaysWaits file) (HasTop file)
  waits_said file schema sound (top, is_top) =
      let r = laws.waits schema sound top is_top.there in
      (record { status = status.Done; out = waits_text schema r.0; err = [] }, record { top = top; is_top = is_top; pairs = r.0; report = r.1; says = refl })

  -- Scripts

  -- the answer for a valid script
  abbrev SaysOfScripts : Schema → (Script → CommandAnswer → Type 0) → Type 0
  SaysOfScripts schema Says = (script : Script) → IsValid schema script → (answer : CommandAnswer) × Says script answer

  of_text : (Says : Script → CommandAnswer → Type 0) (name text : List ℕ) (schema : Schema) (top : ℕ) → length text ≤ MOST_BYTES → IsSound schema → top < length schema.protocols → SaysOfScripts schema Says
      → (answer : CommandAnswer) × SaysOfText Says name text schema top answer
  of_text Says name text schema top small sound there says =
      ⊎_elim
      (λ script.
      let s = says script.0 (script_valid text schema top script.0 small sound there script.1) in
      (s.0, inr (record { script = script.0; script_of = script.1; says = s.1 })))
      (λ broken.
      let report : Report = record { findings = broken.0; names = name ∷ [] } in
      (broken_answer status.BadScript report, inl (record { report = report; holds = record { is_report = broken.1; some = broken.2; called = refl }; says = refl })))
      (laws.scripts text schema top)

  of_held : (Says : Script → CommandAnswer → Type 0) (name : List ℕ) (text : Option (List ℕ)) (schema : Schema) (top : ℕ) → IsSound schema → top < length schema.protocols → SaysOfScripts schema Says
      → (answer : CommandAnswer) × SaysOfHeld Says name text schema top answer
  of_held Says name text schema top sound there says =
      file_said (unreadable_answer name) (unreadable_answer name) MOST_BYTES (λ text. SaysOfText Says name text schema top) text (λ text is small. of_text Says name text schema top small sound there says)

  pub by_script : (Says : Schema → Script → CommandAnswer → Type 0) (name : List ℕ) (held : Option (List ℕ)) (file : List ℕ) → ((schema : Schema) → IsSound schema → SaysOfScripts schema (Says schema))
      → SaysSomething (λ schema. SaysByScript (Says schema) name held file schema) (HasTop file)
  by_script Says name held file says schema sound (top, is_top) =
      let s = of_held (Says schema) name held schema top sound is_top.there (says schema sound) in (s.0, record { top = top; is_top = is_top; says = s.1 })

  -- Runs

  -- what a driver gives, it gives unless memory runs out
  made_unless : (Gives : Driving) (before after : WorldView) (ending : RunEnding) → Gives before after (answer_of ending) → IsMadeUnless Gives None before after (answer_of ending)
  made_unless Gives before after at_rest gives = gives
  made_unless Gives before after (at_limit side) gives = gives

  module _ (Gives : Driving) (shown : Rendering) (course : Course) (few : course.limit ≤ 20000) where
    runnable : (schema : Schema) (script : Script) → IsSound schema → IsValid schema script → IsRunnable (setting_by schema script course)
    runnable schema script sound valid = record { sound = sound; valid = valid; limit = omega (arith, few) }

    history_of : (schema : Schema) (script : Script) → IsSound schema → (schedule : Option (List Turn)) → course.schedule ≡ schedule → (G : Driving) → (d : HasDriven G (setting_by schema script course))
        → ((before after : WorldView) (ending : RunEnding) → G before after (answer_of ending) → IsMadeUnless Gives course.schedule before after (answer_of ending)) → (answer : CommandAnswer) × SaysHistory Gives shown course schema script answer
    history_of schema script sound schedule e G d made =
        let setting = setting_by schema script course in
        let answer : CommandAnswer = run_answer shown schema d.after.state.lines d.ending in (
          answer,
          says_history laws.runs laws.lawful laws.order laws.owed laws.rests laws.weighed laws.sides Gives shown course schema script (opening_of setting) d.after (answer_of d.ending) answer sound few refl
              (made (opening_of setting) d.after d.ending d.gives) d.about d.stands d.case (record { ending = d.ending; ends = refl; says = refl }),
        )

    history_by : (schedule : Option (List Turn)) → course.schedule ≡ schedule → (course.schedule ≡ None → DrivesAll Gives) → (schema : Schema) → IsSound schema → SaysOfScripts schema (SaysHistory Gives shown course schema)
    history_by None e drives schema sound script valid =
        history_of schema script sound None e Gives (drives e (setting_by schema script course) (runnable schema script sound valid))
        (λ before after ending gives. subst (λ s. IsMadeUnless Gives s before after (answer_of ending)) (sym e) (made_unless Gives before after ending gives))
    history_by (Some word) e drives schema sound script valid =
        history_of schema script sound (Some word) e (λ before after ended. WordGives before word ended after) (words_drive_all laws.words laws.still word (setting_by schema script course) (runnable schema script sound valid))
        (λ before after ending gives. subst (λ s. IsMadeUnless Gives s before after (answer_of ending)) (sym e) gives)

    pub history_said : (course.schedule ≡ None → DrivesAll Gives) → (schema : Schema) → IsSound schema → SaysOfScripts schema (SaysHistory Gives shown course schema)
    history_said drives = history_by course.schedule refl drives

  -- Feeds

  module _ (course : FeedCourse) (few : course.limit ≤ 20000) where
    fed_said : (name bytes : List ℕ) → AreBytes bytes → (schema : Schema) → IsSound schema → SaysOfScripts schema (SaysFed course name bytes schema)
    fed_said name bytes are schema sound script valid =
        let setting = feed_setting schema script course in
        let f = laws.feeds setting course.side bytes sound valid (omega (arith, few)) are in
        let last = f.0 in
        let feed : Feed setting course.side bytes last.half.lines last.half.delivered last.fault f.1 = record { last = last; feeds = f.2; lines_are = refl; packets_are = refl; fault_is = refl } in
        let obeyed = laws.fed_alone setting course.side bytes last.half.lines last.half.delivered last.fault f.1 sound are feed in
        let readable = laws.want law.Fallen schema last.half.lines obeyed.1 in (
          feed_answer schema name course.side last.half.lines last.fault f.1,
          record {
            lines = last.half.lines;
            packets = last.half.delivered;
            kept = last.fault;
            spent = f.1;
            feed = feed;
            readable = readable;
            alone = obeyed.0;
            fallen = (laws.decides_fallen schema last.half.lines ((laws.decides_readable schema last.half.lines).1 readable)).0 obeyed.1;
            owed = owed_so laws.fed_runs laws.effects setting course.side bytes last.half.lines last.half.delivered last.fault f.1 sound are feed;
            says = refl;
          },
        )

    pub feed_said : (name : List ℕ) (held : Option (List ℕ)) → ((bytes : List ℕ) → held ≡ Some bytes → AreBytes bytes) → (schema : Schema) → IsSound schema → SaysOfScripts schema (SaysFedOf course name held schema)
    feed_said name file are schema sound script valid =
        file_said (absent_answer status.BadFrames name) (larger_answer status.BadFrames name) MOST_BYTES (λ bytes. SaysFed course name bytes schema script) file
        (λ bytes there small. fed_said name bytes (are bytes there) schema sound script valid)

  -- Audits

  module _ (limit : ℕ) (few : limit ≤ 20000) where
    audited : (setting : Setting) (text : List ℕ) → IsDecidedText setting text → (found : Audit) × IsAudited setting text found
    audited setting text d = by d.legal
      where
        by_count : (IsLegalText setting text → ⊥) → d.count < length (text_lines text) ⊎ (length (text_lines text) ≤ d.count) → (found : Audit) × IsAudited setting text found
        by_count none (inl less) = (audit.NoStep (d.count + 1), (d.count, d.so_far, less, refl))
        by_count none (inr all) =
            let there = d.so_far.there in
            let same : d.count ≡ length (text_lines text) = omega (arith, all, there) in
            (audit.Early (length (text_lines text) + 1), (none, subst (AreLegalSoFar setting text) same d.so_far, refl))

        by : IsLegalText setting text ⊎ (IsLegalText setting text → ⊥) → (found : Audit) × IsAudited setting text found
        by (inl legal) = (audit.Legal (events_in legal.state.lines), (legal, refl))
        by (inr none) = by_count none (cases_lt d.count (length (text_lines text)))

    pub audit_said : (name : List ℕ) (held : Option (List ℕ)) → (schema : Schema) → IsSound schema → SaysOfScripts schema (SaysAuditedOf limit name held schema)
    audit_said name file schema sound script valid =
        file_said (absent_answer status.BadTranscript name) (larger_answer status.BadTranscript name) most_text_bytes (λ text. SaysAudited limit name text schema script) file
        (λ text there small.
        let setting = audited_setting schema script limit in
        let found = audited setting text (laws.texts setting (record { sound = sound; valid = valid; limit = omega (arith, few) }) text) in
        (audit_answer name found.0, record { sound = sound; valid = valid; found = found.0; audited = found.1; says = refl }))

  -- Explorations

  pub explore_said : (course : ExploreCourse) → course.limit ≤ 20000 → (schema : Schema) → IsSound schema → SaysOfScripts schema (SaysExplored course schema)
  explore_said course few schema sound script valid =
      let setting = audited_setting schema script course.limit in
      let found = laws.explorations setting course.ways sound valid (omega (arith, few)) in (
        explore_answer found.0,
        record {
          sound = sound;
          valid = valid;
          exploration = found.0;
          explored = found.1;
          runs = λ way listed. laws.ways_run setting course.ways found.0 way found.1 listed;
          covers = λ whole text legal. laws.ways_cover setting course.ways found.0 text sound valid (omega (arith, few)) found.1 whole legal;
          says = refl;
        },
      )

  -- Relays

  pub relay_said : (Relays : Relaying) (course : RelayCourse) → course.limit ≤ 20000 → RelaysAll Relays → (schema : Schema) → IsSound schema → SaysOfScripts schema (SaysRelayed Relays course schema)
  relay_said Relays course few relays schema sound script valid =
      let setting = relay_setting schema script course in
      let r : HasRelayed Relays setting = relays setting (record { sound = sound; valid = valid; limit = omega (arith, few) }) in
      let answer : CommandAnswer = ended_answer (halves_text schema r.halves) r.ending in
      (answer, says_relayed laws.relayed Relays course schema script (opening_of setting) r.halves (answer_of r.ending) answer sound few refl (relay_gives Relays (opening_of setting) r.halves r.ending r.gives) r.relayed (record { ending = r.ending; ends = refl; says = refl }))
    where
      relay_gives : (Relays : Relaying) (before : WorldView) (halves : Halves) (ending : RunEnding) → Relays before halves (answer_of ending) → RelayGives Relays before halves (answer_of ending)
      relay_gives Relays before halves at_rest gives = gives
      relay_gives Relays before halves (at_limit side) gives = gives
