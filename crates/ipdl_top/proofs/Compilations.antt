-- The answers of a compilation, from what its parts find.
use Rattle.std.proofs.Common.{◌≡◌, ◌≢◌, ◌↔◌, ℕ, zero, suc, List, [], ◌∷◌, ◌++◌, map, length, refl, sym, ◌∙◌, ap, subst, inl, inr, arith}
use Rattle.std.specs.Prelude.{Option, Some, None, slice_get, unwrap_or}
use Rattle.std.specs.List.{Contains}
use Rattle.std.proofs.lemmas.List.{length-map}
use Rattle.std.proofs.lemmas.Option.{same_Some}
use Rattle.ipdl_base.specs.Outside.{FileMap}
use Rattle.ipdl_base.specs.declared.finding.Finding.{Finding}
use Rattle.ipdl_base.specs.declared.finding.Report.{Report}
use Rattle.ipdl_base.specs.declared.schema.Schema.{Schema}
use Rattle.ipdl_syntax.specs.declared.program.Entry.{Entry}
use Rattle.ipdl_syntax.specs.Programs.{IsProgram}
use Rattle.include_graph.specs.declared.loader.BrokenFiles.{BrokenFiles}
use Rattle.include_graph.specs.declared.loader.LoadResult.{LoadResult}
use Rattle.include_graph.specs.declared.loader.LoadResult.TheVariants as load
use Rattle.include_graph.specs.Load.{AreBrokenFiles, IsAnswer, IsGood, IsProgramOf, keys_of}
use Rattle.include_graph.specs.Sources.{LoadInput, IsReadUnder, text_of}
use Rattle.sync_list.specs.declared.list.Section.{Section}
use Rattle.sync_list.specs.declared.list.ListFault.TheVariants.{Line}
use Rattle.sync_list.specs.Lists.{IsFault}
use Rattle.sync_list.proofs.Unique.{one_fault, never_both}
use Rattle.ipdl_top.specs.declared.answer.CommandAnswer.{CommandAnswer}
use Rattle.ipdl_top.specs.declared.list.SyncListFile.{SyncListFile}
use Rattle.ipdl_top.specs.declared.list.SyncListFile.TheVariants as list
use Rattle.ipdl_top.specs.declared.checked.CheckResult.{CheckResult}
use Rattle.ipdl_top.specs.declared.checked.CheckResult.TheVariants.{Broken, Clean}
use Rattle.ipdl_top.specs.CommandAnswer.{IsCompilation, IsFileReport}
use Rattle.ipdl_top.specs.Lists.{IsListFault, IsFaultOfList, AreSections, list_names}
use Rattle.ipdl_top.specs.Steps.{IsChecked, IsListed, IsListedChecked, IsLoadedChecked, IsRuleChecked, IsToldOf, Reports, ReportsWithList, file_count, names_of}

-- Lists

-- a list has one fault
one_held_fault : (held : Option (List ℕ)) (number : ℕ) (f g : Finding) → IsListFault held number f → IsListFault held number g → f ≡ g
one_held_fault held number f g (inl a) (inl b) = a.1 ∙ sym b.1
one_held_fault held number f g (inl a) (inr (inl b)) = absurd (let has = b.0.has in let none = a.0 in let no : ⊥ = cc in no)
one_held_fault held number f g (inl a) (inr (inr b)) = absurd (let has = b.1.has in let none = a.0 in let no : ⊥ = cc in no)
one_held_fault held number f g (inr (inl a)) (inl b) = absurd (let has = a.0.has in let none = b.0 in let no : ⊥ = cc in no)
one_held_fault held number f g (inr (inl a)) (inr (inl b)) = a.1 ∙ sym b.1
one_held_fault held number f g (inr (inl a)) (inr (inr b)) =
    let same : b.1.bytes ≡ a.0.bytes = same_Some _ _ (sym b.1.has ∙ a.0.has) in
    absurd (omega (arith, a.0.large, b.1.small, ap length same))
one_held_fault held number f g (inr (inr a)) (inl b) = absurd (let has = a.1.has in let none = b.0 in let no : ⊥ = cc in no)
one_held_fault held number f g (inr (inr a)) (inr (inl b)) =
    let same : a.1.bytes ≡ b.0.bytes = same_Some _ _ (sym a.1.has ∙ b.0.has) in
    absurd (omega (arith, b.0.large, a.1.small, ap length same))
one_held_fault held number f g (inr (inr a)) (inr (inr b)) =
    let same : b.1.bytes ≡ a.1.bytes = same_Some _ _ (sym b.1.has ∙ a.1.has) in
    let fault : Line a.0 ≡ Line b.0 = one_fault a.1.bytes (Line a.0) (Line b.0) a.1.bad (subst (λ (bytes : List ℕ). IsFault bytes (Line b.0)) same b.1.bad) in
    let line : a.0 ≡ b.0 = cc in
    a.2 ∙ rw line refl ∙ sym b.2

-- so has one that is named
pub one_list_fault : (lists : FileMap) (list : Option (List ℕ)) (number : ℕ) (f g : Finding) → IsFaultOfList lists list number f → IsFaultOfList lists list number g → f ≡ g
one_list_fault lists None number f g a b = absurd a
one_list_fault lists (Some word) number f g a b = one_held_fault (lists word) number f g a b

-- a list that has sections has no fault
pub no_fault : (lists : FileMap) (list : Option (List ℕ)) (sections : Option (List Section)) (number : ℕ) (f : Finding) → AreSections lists list sections → ¬ IsFaultOfList lists list number f
no_fault lists None sections number f a b = b
no_fault lists (Some word) None number f a b = a
no_fault lists (Some word) (Some sections) number f a (inl b) = let has = a.has in let none = b.0 in let no : ⊥ = cc in no
no_fault lists (Some word) (Some sections) number f a (inr (inl b)) =
    let same : a.bytes ≡ b.0.bytes = same_Some _ _ (sym a.has ∙ b.0.has) in
    absurd (omega (arith, b.0.large, a.small, ap length same))
no_fault lists (Some word) (Some sections) number f a (inr (inr b)) =
    let same : b.1.bytes ≡ a.bytes = same_Some _ _ (sym b.1.has ∙ a.has) in
    never_both a.bytes sections (Line b.0) a.spells (subst (λ (bytes : List ℕ). IsFault bytes (Line b.0)) same b.1.bad)

-- Reports

-- a list with an element is not empty
some_element : (report : List Finding) (f : Finding) → Contains report f → report ≢ []
some_element report f has none = let at : Contains [] f = subst (λ (fs : List Finding). Contains fs f) none has in absurd (omega (arith, at.1))

-- Names

-- a report calls a file by the name under which it is read
pub names_called : (given : LoadInput) (program : List Entry) → ((number : ℕ) (entry : Entry) → slice_get program number ≡ Some entry → IsReadUnder given entry.key entry.name) → map (text_of given) (keys_of program) ≡ map (λ e. e.name) program
names_called given [] h = refl
names_called given (entry ∷ program) h =
    let head : text_of given entry.key ≡ entry.name = ap (λ (o : Option (List ℕ)). unwrap_or o entry.key) (h 0 entry refl) in
    let tail : map (text_of given) (keys_of program) ≡ map (λ e. e.name) program = names_called given program (λ number other at. h (suc number) other at) in
    cc

-- Answers

-- the report on the program of the reach, where the list breaks a rule
of_broken : (given : LoadInput) (lists : FileMap) (word : Option (List ℕ)) (program : List Entry) (finding : Finding) (report : Report) → IsProgramOf given program → IsFaultOfList lists word (length program) finding → Reports (λ f. f ≡ finding) (names_of program) word report → IsFileReport given lists word report
of_broken given lists word program finding report p broken r =
    let keys = keys_of program in
    let long : length keys ≡ length program = length-map program (λ (e : Entry). e.key) in
    let fault : IsFaultOfList lists word (length keys) finding = subst (λ n. IsFaultOfList lists word n finding) (sym long) broken in
    let names = names_called given program (λ number entry at. (p.entries number entry at).name) in
    record {
      keys = keys;
      reach = p.reach;
      is_report = record {
        ordered = r.is_report.ordered;
        exact = λ f. (
          λ c. inr (subst (λ (g : Finding). IsFaultOfList lists word (length keys) g) (sym ((r.is_report.exact f).0 c)) fault),
          λ b. elim b [
            | inl broken ↦ absurd (p.clean f broken)
            | inr other ↦ (r.is_report.exact f).1 (one_list_fault lists word (length keys) f finding other fault)
          ],
        );
      };
      some = some_element report.findings finding ((r.is_report.exact finding).1 refl);
      called = r.called ∙ ap (λ (ns : List (List ℕ)). ns ++ list_names word) (sym names);
    }

-- and what is found where it has sections
of_sections : (given : LoadInput) (lists : FileMap) (word : Option (List ℕ)) (program : List Entry) (sections : Option (List Section)) (checked : CheckResult) → IsProgramOf given program → IsProgram program → AreSections lists word sections → IsRuleChecked program sections word checked → IsChecked given lists word checked
of_sections given lists word program sections (Broken report) p whole are r = inr (record {
  program = program;
  sections = sections;
  reading = record { is_program = p; whole = whole; are_sections = are };
  is_report = r.reports.is_report;
  some = r.some;
  called = r.reports.called;
})
of_sections given lists word program sections (Clean schema) p whole are t = (
  record {
    program = program;
    sections = sections;
    reading = record { is_program = p; whole = whole; are_sections = are };
    clean = t.clean;
    schema_of = t.schema_of;
  },
  t.sound,
)

-- so what is found of the program of the reach is found of the files
of_program : (given : LoadInput) (lists : FileMap) (word : Option (List ℕ)) (program : List Entry) (listed : SyncListFile) (checked : CheckResult) → IsProgramOf given program → IsProgram program → IsListed lists word (length program) listed → IsListedChecked program listed word checked → IsChecked given lists word checked
of_program given lists word program (list.Sections sections) checked p whole h found = of_sections given lists word program sections checked p whole h found
of_program given lists word program (list.Broken finding) (Broken report) p whole h found = inl (of_broken given lists word program finding report p h found)
of_program given lists word program (list.Broken finding) (Clean schema) p whole h found = absurd found

-- an answer by what was found is that of the compilation
pub of_told : (Says : Schema → CommandAnswer → Type 0) (given : LoadInput) (lists : FileMap) (list : Option (List ℕ)) (checked : CheckResult) (answer : CommandAnswer) → IsChecked given lists list checked → IsToldOf Says checked answer → IsCompilation Says given lists list answer
of_told Says given lists list (Broken report) answer (inl h) e = inl (record { report = report; holds = h; says = e })
of_told Says given lists list (Broken report) answer (inr h) e = inr (inl (record { report = report; holds = h; says = e }))
of_told Says given lists list (Clean schema) answer h says = inr (inr (record { schema = schema; read = h.0; says = says }))

-- what was found of the list is what the list breaks
listed_fault : (lists : FileMap) (word : Option (List ℕ)) (number : ℕ) (listed : SyncListFile) (f : Finding) → IsListed lists word number listed → IsFaultOfList lists word number f ↔ (listed ≡ list.Broken f)
listed_fault lists word number (list.Sections sections) f h = (λ fault. absurd (no_fault lists word sections number f h fault), λ e. absurd (let no : ⊥ = cc in no))
listed_fault lists word number (list.Broken finding) f h = (
  λ fault. ap list.Broken (one_list_fault lists word number finding f h fault),
  λ e. let same : finding ≡ f = cc in subst (λ (g : Finding). IsFaultOfList lists word number g) same h,
)

-- some finding of a report that is not empty
some_of : (findings report : List Finding) → findings ≢ [] → ((f : Finding) → Contains findings f → Contains report f) → report ≢ []
some_of [] report some to = absurd (some refl)
some_of (f ∷ findings) report some to = some_element report f (to f (zero, omega arith, refl))

-- the report on the files of the reach, where they break rules
of_files : (given : LoadInput) (lists : FileMap) (word : Option (List ℕ)) (files : BrokenFiles) (listed : SyncListFile) (report : Report) → AreBrokenFiles given files → IsListed lists word (length files.names) listed → ReportsWithList files listed word report → IsFileReport given lists word report
of_files given lists word files listed report r is h =
    let long : length files.names ≡ length r.keys = ap length r.called ∙ length-map r.keys (text_of given) in
    let following : IsListed lists word (length r.keys) listed = subst (λ n. IsListed lists word n listed) long is in
    record {
      keys = r.keys;
      reach = r.reach;
      is_report = record {
        ordered = h.is_report.ordered;
        exact = λ f. (
          λ c. elim ((h.is_report.exact f).0 c) [
            | inl a ↦ inl ((r.exact f).0 a)
            | inr e ↦ inr ((listed_fault lists word (length r.keys) listed f following).1 e)
          ],
          λ b. (h.is_report.exact f).1 (elim b [
            | inl broken ↦ inl ((r.exact f).1 broken)
            | inr fault ↦ inr ((listed_fault lists word (length r.keys) listed f following).0 fault)
          ]),
        );
      };
      some = some_of files.findings report.findings r.some (λ f c. (h.is_report.exact f).1 (inl c));
      called = h.called ∙ ap (λ (ns : List (List ℕ)). ns ++ list_names word) r.called;
    }

-- what is found of what was loaded is found of the files
pub of_loaded : (given : LoadInput) (lists : FileMap) (word : Option (List ℕ)) (loaded : LoadResult) (listed : SyncListFile) (checked : CheckResult) → IsAnswer given loaded → IsGood loaded → IsListed lists word (file_count loaded) listed → IsLoadedChecked loaded listed word checked → IsChecked given lists word checked
of_loaded given lists word (load.Whole program) listed checked p good is found = of_program given lists word program listed checked p good.0 is found
of_loaded given lists word (load.Broken files) listed (Broken report) r good is found = inl (of_files given lists word files listed report r is found)
of_loaded given lists word (load.Broken files) listed (Clean schema) r good is found = absurd found
