-- What the steps of a command find and make.
use Rattle.std.specs.Prelude.{◌≡◌, ◌≢◌, ℕ, ◌⊎◌, List, [], ◌++◌, length, map, Option, Some, None}
use Rattle.std.specs.List.{Contains}
use Rattle.ipdl_base.specs.declared.files.FileBytes.{FileBytes}
use Rattle.ipdl_base.specs.declared.files.TheConstants.{MOST_BYTES}
use Rattle.ipdl_base.specs.declared.finding.Finding.{Finding}
use Rattle.ipdl_base.specs.declared.finding.Report.{Report}
use Rattle.ipdl_base.specs.declared.schema.Schema.{Schema}
use Rattle.ipdl_base.specs.Outside.{FileMap, HasAtMost, IsHeldWithin}
use Rattle.ipdl_base.specs.Sound.{IsSound}
use Rattle.include_graph.specs.declared.loader.BrokenFiles.{BrokenFiles}
use Rattle.include_graph.specs.declared.loader.LoadResult.{LoadResult}
use Rattle.include_graph.specs.declared.loader.LoadResult.TheVariants as load
use Rattle.include_graph.specs.Sources.{LoadInput}
use Rattle.ipdl_syntax.specs.declared.program.Entry.{Entry}
use Rattle.findings.specs.Report.{IsReport}
use Rattle.sync_list.specs.declared.list.Section.{Section}
use Rattle.program_schema.specs.SchemaOf.{IsSchemaOf}
use Rattle.ipdl_top.specs.declared.answer.CommandAnswer.{CommandAnswer}
use Rattle.ipdl_top.specs.declared.list.SyncListFile.{SyncListFile}
use Rattle.ipdl_top.specs.declared.list.SyncListFile.TheVariants as list
use Rattle.ipdl_top.specs.declared.checked.CheckResult.{CheckResult}
use Rattle.ipdl_top.specs.declared.checked.CheckResult.TheVariants.{Broken, Clean}
use Rattle.ipdl_top.specs.declared.status.Status.TheVariants as status
use Rattle.ipdl_top.specs.CommandAnswer.{BreaksRules, IsFileReport, IsRuleReport, IsSchemaRead}
use Rattle.ipdl_top.specs.Report.{broken_answer}
use Rattle.ipdl_top.specs.Waits.{IsTop}
use Rattle.ipdl_top.specs.Lists.{AreSections, IsFaultOfList, IsListFault, SpellsList, list_names}

-- Files

-- what was found of a file of a program, a list, a script or a file of frames, by its bytes
abbrev pub IsHeld : Option (List ℕ) → FileBytes → Type 0
IsHeld held file = IsHeldWithin MOST_BYTES held file

-- a file that was read has at most the bytes that are read of such a file
abbrev pub IsSmall : FileBytes → Type 0
IsSmall file = HasAtMost MOST_BYTES file

-- the number of files that were read
abbrev pub file_count : LoadResult → ℕ
file_count (load.Whole program) = length program
file_count (load.Broken files) = length files.names

-- The sync list

-- what was found of a list by its bytes, as the file of this number
abbrev pub IsFound : Option (List ℕ) → ℕ → SyncListFile → Type 0
IsFound held number (list.Sections None) = ⊥
IsFound held number (list.Sections (Some sections)) = SpellsList held sections
IsFound held number (list.Broken finding) = IsListFault held number finding

-- what was found of the list, if one is named, as the file of this number
abbrev pub IsListed : FileMap → Option (List ℕ) → ℕ → SyncListFile → Type 0
IsListed lists word number (list.Sections sections) = AreSections lists word sections
IsListed lists word number (list.Broken finding) = IsFaultOfList lists word number finding

-- Findings

-- how a report calls the files of a program
abbrev pub names_of : List Entry → List (List ℕ)
names_of program = map (λ e. e.name) program

-- The report of the findings with this property, on files of these names and on the list after them.
pub record Reports (Holds : Finding → Type 0) (names : List (List ℕ)) (word : Option (List ℕ)) (report : Report) : Type 0 where
  pub is_report : IsReport Holds report.findings
  pub called : report.names ≡ names ++ list_names word

-- the report on a program, and on its list if it has one, which is not empty
pub record AreRulesReported (program : List Entry) (sections : Option (List Section)) (word : Option (List ℕ)) (report : Report) : Type 0 where
  pub reports : Reports (BreaksRules program sections) (names_of program) word report
  pub some : report.findings ≢ []

-- the schema of a program that breaks no rule
pub record IsCleanSchema (program : List Entry) (sections : Option (List Section)) (schema : Schema) : Type 0 where
  pub clean : (f : Finding) → ¬ BreaksRules program sections f
  pub schema_of : IsSchemaOf program schema
  pub sound : IsSound schema

-- what was found of a program and the sections of its list
abbrev pub IsRuleChecked : List Entry → Option (List Section) → Option (List ℕ) → CheckResult → Type 0
IsRuleChecked program sections word (Broken report) = AreRulesReported program sections word report
IsRuleChecked program sections word (Clean schema) = IsCleanSchema program sections schema

-- what was found of a program by what was found of its list
abbrev pub IsListedChecked : List Entry → SyncListFile → Option (List ℕ) → CheckResult → Type 0
IsListedChecked program (list.Sections sections) word checked = IsRuleChecked program sections word checked
IsListedChecked program (list.Broken finding) word (Broken report) = Reports (λ f. f ≡ finding) (names_of program) word report
IsListedChecked program (list.Broken finding) word (Clean schema) = ⊥

-- the report on files that break rules by how they are read and named, and on the list after them
abbrev pub ReportsWithList : BrokenFiles → SyncListFile → Option (List ℕ) → Report → Type 0
ReportsWithList files listed word report = Reports (λ f. Contains files.findings f ⊎ (listed ≡ list.Broken f)) files.names word report

-- what was found of what was loaded, by what was found of the list after its files
abbrev pub IsLoadedChecked : LoadResult → SyncListFile → Option (List ℕ) → CheckResult → Type 0
IsLoadedChecked (load.Whole program) listed word checked = IsListedChecked program listed word checked
IsLoadedChecked (load.Broken files) listed word (Broken report) = ReportsWithList files listed word report
IsLoadedChecked (load.Broken files) listed word (Clean schema) = ⊥

-- what was found of the files of a command: a report on them or on their program, or the sound schema of a program that
-- breaks no rule
abbrev pub IsChecked : LoadInput → FileMap → Option (List ℕ) → CheckResult → Type 0
IsChecked given lists word (Broken report) = IsFileReport given lists word report ⊎ IsRuleReport given lists word report
IsChecked given lists word (Clean schema) = IsSchemaRead given lists word schema × IsSound schema

-- an answer by what was found: the report, or what is said of the schema
abbrev pub IsToldOf : (Schema → CommandAnswer → Type 0) → CheckResult → CommandAnswer → Type 0
IsToldOf Says (Broken report) answer = answer ≡ broken_answer status.Broken report
IsToldOf Says (Clean schema) answer = Says schema answer

-- the schema has this property, if one was found
abbrev pub IfClean : (Schema → Type 0) → CheckResult → Type 0
IfClean Holds (Broken report) = Unit {0}
IfClean Holds (Clean schema) = Holds schema

-- a schema that was found is sound
abbrev pub IsSoundChecked : CheckResult → Type 0
IsSoundChecked checked = IfClean IsSound checked

-- a schema has a protocol with the name of a file
abbrev pub HasTopOf : List ℕ → Schema → Type 0
HasTopOf file schema = (top : ℕ) × IsTop file schema top

-- a schema that was found has one
abbrev pub HasTop : List ℕ → CheckResult → Type 0
HasTop file checked = IfClean (HasTopOf file) checked
