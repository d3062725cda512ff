-- A command that compiles files has a report on them or on their program, or what it answers for its schema.
use Rattle.std.proofs.Common.{◌≡◌, ◌≢◌, ◌⊎◌, ℕ, List, [], ◌∷◌, ◌++◌, Contains, map, length, Option, Some, None, refl, subst, inl, inr, arith, codes}
use Rattle.std.specs.Prelude.{IsSomeAnd}
use Rattle.findings.specs.Report.{IsReport}
use Rattle.ipdl_base.specs.Outside.{FileMap}
use Rattle.ipdl_base.specs.Sound.{IsSound}
use Rattle.ipdl_base.specs.declared.finding.Finding.{Finding}
use Rattle.ipdl_base.specs.declared.finding.Report.{Report}
use Rattle.ipdl_base.specs.declared.schema.Schema.{Schema}
use Rattle.file_existence.specs.Laws.{CleanFilesHavePrograms, FindingsAreListed, HasProgram, ReachesExist}
use Rattle.include_graph.specs.Keys.{AreFileWords}
use Rattle.include_graph.specs.Reach.{IsReach}
use Rattle.include_graph.specs.Rules.{IsBroken}
use Rattle.include_graph.specs.Sources.{LoadInput, text_of}
use Rattle.ipdl_syntax.specs.declared.program.Entry.{Entry}
use Rattle.ipdl_top.specs.declared.answer.CommandAnswer.{CommandAnswer}
use Rattle.ipdl_top.specs.declared.checked.CheckResult.TheVariants.{Clean}
use Rattle.ipdl_top.specs.declared.status.Status.TheVariants as status
use Rattle.ipdl_top.specs.CommandAnswer.{BreaksRules, IsBrokenFile, IsCompilation, IsReading, IsSchemaRead}
use Rattle.ipdl_top.specs.CommandFiles.{given_by}
use Rattle.ipdl_top.specs.Lists.{AreSections, IsFaultOfList, list_names}
use Rattle.ipdl_top.specs.Report.{broken_answer}
use Rattle.ipdl_top.specs.Waits.{IsTop}
use Rattle.ipdl_top.proofs.Tops.{has_top}
use Rattle.list_existence.specs.Laws.{ListsHaveAnswers}
use Rattle.manager_rules.specs.Broken as managers
use Rattle.message_rules.specs.Broken as messages
use Rattle.program_schema.specs.Clean.{IsClean}
use Rattle.program_schema.specs.Laws.{CleanIsSound}
use Rattle.program_schema.specs.ProtocolRules as protocols
use Rattle.report_existence.specs.Laws.{IsListed}
use Rattle.report_existence.proofs.Finite.{contains_none, either_place, no_place}
use Rattle.report_existence.proofs.Sorted.{report_of}
use Rattle.rule_existence.specs.Laws.{ListFindingsAreListed, ManagerFindingsAreListed, MessageFindingsAreListed, TypeFindingsAreListed}
use Rattle.schema_existence.specs.Laws.{CleanProgramsHaveSchemas}
use Rattle.sync_list.specs.declared.list.Section.{Section}
use Rattle.sync_list.specs.Broken as sync
use Rattle.type_rules.specs.Broken as types
use Rattle.answer_existence.proofs.Lists.{ListCase, breaks, faults_listed, list_case, spells}

-- the laws from which a compilation follows
pub record CompilationLaws : Type 0 where
  pub reaches : ReachesExist
  pub findings : FindingsAreListed
  pub programs : CleanFilesHavePrograms
  pub lists : ListsHaveAnswers
  pub types : TypeFindingsAreListed
  pub managers : ManagerFindingsAreListed
  pub messages : MessageFindingsAreListed
  pub list_rules : ListFindingsAreListed
  pub schemas : CleanProgramsHaveSchemas
  pub sound : CleanIsSound

-- what is listed has a report that is not empty, or nothing is broken
data ReportCase (Broken : Finding → Type 0) : Type 0 where
  some : (report : List Finding) → IsReport Broken report → report ≢ [] → ReportCase Broken
  none : ((f : Finding) → Broken f → ⊥) → ReportCase Broken

not_empty : {Broken : Finding → Type 0} (f : Finding) (report : List Finding) → Broken f → IsReport Broken report → report ≢ []
not_empty f report broken is e = contains_none f (subst (λ fs. Contains fs f) e ((is.exact f).1 broken))

report_case : (Broken : Finding → Type 0) → IsListed Broken → ReportCase Broken
report_case Broken ([], exact) = none (λ f h. contains_none f ((exact f).1 h))
report_case Broken (f ∷ fs, exact) =
    let r = report_of Broken (f ∷ fs, exact) in
    let broken : Broken f = (exact f).0 (0, omega arith, refl) in
    some r.0 r.1 (not_empty f r.0 broken r.1)

-- the answer for a sound schema
abbrev pub SaysSomething : (Schema → CommandAnswer → Type 0) → (Schema → Type 0) → Type 0
SaysSomething Says Is = (schema : Schema) → IsSound schema → Is schema → (answer : CommandAnswer) × Says schema answer

module _ (laws : CompilationLaws) (Says : Schema → CommandAnswer → Type 0) (Is : Schema → Type 0) (says : SaysSomething Says Is) (given : LoadInput) (lists : FileMap) (list : Option (List ℕ))
    (is : (schema : Schema) → IsSchemaRead given lists list schema → IsSound schema → Is schema) where
  abbrev HasCompilation : Type 0
  HasCompilation = (answer : CommandAnswer) × IsCompilation Says given lists list answer

  of_list : (program : List Entry) (sections : Option (List Section)) → IsListed (λ f. IsSomeAnd sections (λ ss. sync.BrokenAt program ss f))
  of_list program None = no_place (λ f. IsSomeAnd None (λ ss. sync.BrokenAt program ss f)) (λ f h. h)
  of_list program (Some ss) = laws.list_rules program ss

  rules_listed : (program : List Entry) (sections : Option (List Section)) → IsListed (BreaksRules program sections)
  rules_listed program sections =
      either_place (types.BrokenAt program) (λ f. protocols.BrokenAt program f ⊎ IsSomeAnd sections (λ ss. sync.BrokenAt program ss f)) (laws.types program)
      (either_place (protocols.BrokenAt program) (λ f. IsSomeAnd sections (λ ss. sync.BrokenAt program ss f))
      (either_place (managers.BrokenAt program) (messages.BrokenAt program) (laws.managers program) (laws.messages program)) (of_list program sections))

  -- the answer for a schema that was read
  of_schema : (schema : Schema) → IsSchemaRead given lists list schema → IsSound schema → HasCompilation
  of_schema schema read sound = let s = says schema sound (is schema read sound) in (s.0, inr (inr (record { schema = schema; read = read; says = s.1 })))

  -- the report on a program, or the answer for its schema
  of_program : (h : HasProgram given) (sections : Option (List Section)) → AreSections lists list sections → ReportCase (BreaksRules h.program sections) → HasCompilation
  of_program h sections are (some findings is_report some_found) =
      let report : Report = record { findings = findings; names = map (λ (e : Entry). e.name) h.program ++ list_names list } in
      let reading : IsReading given lists list h.program sections = record { is_program = h.is_of; whole = h.is_program; are_sections = are } in (
        broken_answer status.Broken report,
        inr (inl (record { report = report; holds = record { program = h.program; sections = sections; reading = reading; is_report = is_report; some = some_found; called = refl }; says = refl })),
      )
  of_program h sections are (none clean) =
      let is_clean : IsClean h.program = record {
        is_program = h.is_program;
        named = h.named;
        types = λ f b. clean f (inl b);
        managers = λ f b. clean f (inr (inl (inl b)));
        messages = λ f b. clean f (inr (inl (inr b)));
      } in
      let schema = laws.schemas h.program is_clean in
      let read : IsSchemaRead given lists list schema.0 = record { program = h.program; sections = sections; reading = record { is_program = h.is_of; whole = h.is_program; are_sections = are }; clean = clean; schema_of = schema.1 } in
      of_schema schema.0 read (laws.sound h.program schema.0 is_clean schema.1)

  -- the report on the files, or the result for their program
  of_files : (keys : List (List ℕ)) → AreFileWords given.words → IsReach given keys → (listed : ListCase lists list (length keys)) → ReportCase (IsBrokenFile given lists list keys) → HasCompilation
  of_files keys words reach listed (some findings is_report some_found) =
      let report : Report = record { findings = findings; names = map (text_of given) keys ++ list_names list } in
      (broken_answer status.Broken report, inl (record { report = report; holds = record { keys = keys; reach = reach; is_report = is_report; some = some_found; called = refl }; says = refl }))
  of_files keys words reach (breaks f fault) (none clean) = absurd (clean f (inr fault))
  of_files keys words reach (spells sections are no_fault) (none clean) =
      let h : HasProgram given = laws.programs given keys words reach (λ f b. clean f (inl b)) in
      of_program h sections are (report_case (BreaksRules h.program sections) (rules_listed h.program sections))

  -- A compilation has an answer.
  pub has_compilation : AreFileWords given.words → HasCompilation
  has_compilation words =
      let r = laws.reaches given words in
      let listed : ListCase lists list (length r.0) = list_case laws.lists lists (length r.0) list in
      of_files r.0 words r.1 listed
      (report_case (IsBrokenFile given lists list r.0) (either_place (IsBroken given r.0) (IsFaultOfList lists list (length r.0)) (laws.findings given r.0) (faults_listed lists list (length r.0) listed)))

-- the protocol with the name of a file is the top
abbrev pub HasTop : List ℕ → Schema → Type 0
HasTop file schema = (top : ℕ) × IsTop file schema top

-- A command on one file of a protocol has an answer, if there is an answer for each sound schema with a top.
pub has_compilation_of_one : CompilationLaws → (Says : Schema → CommandAnswer → Type 0) (files lists : FileMap) (list : Option (List ℕ)) (path : List (List ℕ)) (file front : List ℕ) → file ≡ front ++ codes ".ipdl" → SaysSomething Says (HasTop file)
    → (answer : CommandAnswer) × IsCompilation Says (given_by files path (file ∷ [])) lists list answer
has_compilation_of_one laws Says files lists list path file front ends says =
    let given : LoadInput = given_by files path (file ∷ []) in
    has_compilation laws Says (HasTop file) says given lists list (λ schema read sound. has_top given lists list file front refl ends (Clean schema) (read, sound))
    (record { few = omega arith; files = ((front, inl ends), tt) })
