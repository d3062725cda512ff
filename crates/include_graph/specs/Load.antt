-- The result of a load.
use Rattle.std.specs.Prelude.{◌≡◌, ◌≢◌, ◌↔◌, ℕ, ◌≤◌, List, [], length, map, slice_get, Some}
use Rattle.std.specs.List.{Contains}
use Rattle.ipdl_base.specs.declared.finding.Finding.{Finding}
use Rattle.ipdl_syntax.specs.declared.program.Entry.{Entry}
use Rattle.ipdl_syntax.specs.Programs.{IsProgram, BearTheirNames}
use Rattle.include_graph.specs.declared.loader.BrokenFiles.{BrokenFiles}
use Rattle.include_graph.specs.declared.loader.LoadResult.{LoadResult}
use Rattle.include_graph.specs.declared.loader.LoadResult.TheVariants.{Whole, Broken}
use Rattle.include_graph.specs.Sources.{LoadInput, IsReadUnder, content, text_of}
use Rattle.include_graph.specs.Reach.{IsUnitOf, IsReach}
use Rattle.include_graph.specs.Rules.{IsBroken}

-- the keys of a program's files, in their order
abbrev pub keys_of : List Entry → List (List ℕ)
keys_of program = map (λ e. e.key) program

-- the entry of this number is that of the file of its key
pub record IsEntryOf (given : LoadInput) (number : ℕ) (entry : Entry) : Type 0 where
  pub name : IsReadUnder given entry.key entry.name
  pub unit : IsUnitOf number entry.key (content given entry.key) entry.unit

-- The program of the reach, whose files break no rule.
pub record IsProgramOf (given : LoadInput) (program : List Entry) : Type 0 where
  pub reach : IsReach given (keys_of program)
  pub clean : (f : Finding) → ¬ IsBroken given (keys_of program) f
  pub entries : (number : ℕ) (entry : Entry) → slice_get program number ≡ Some entry → IsEntryOf given number entry

-- The findings on the files of the reach, at least one, and the name of each file in a report.
pub record AreBrokenFiles (given : LoadInput) (files : BrokenFiles) : Type 0 where
  pub keys : List (List ℕ)
  pub reach : IsReach given keys
  pub exact : (f : Finding) → Contains files.findings f ↔ IsBroken given keys f
  pub some : files.findings ≢ []
  pub called : files.names ≡ map (text_of given) keys

-- The result of a load: the program if no rule is broken, or else the broken rules.
abbrev pub IsAnswer : LoadInput → LoadResult → Type 0
IsAnswer given (Whole program) = IsProgramOf given program
IsAnswer given (Broken files) = AreBrokenFiles given files

-- a program as its definition requires, with protocols that have the names of their files; or at most 4,096 files
abbrev pub IsGood : LoadResult → Type 0
IsGood (Whole program) = IsProgram program × BearTheirNames program
IsGood (Broken files) = length files.names ≤ 4096
