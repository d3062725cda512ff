-- The files that are marked for a file: itself, and the files to which its includes and those of headers lead.
use Rattle.std.specs.Prelude.{◌≡◌, ◌⊎◌, ◌<◌, ◌≤◌, ◌+◌, ◌*◌, ◌++◌, ℕ, Bool, true, false, if◌then◌else◌, List, length, slice_get, Some}
use Rattle.std.specs.List.{Contains, slice_index_or, sum_by}
use Rattle.ipdl_syntax.specs.declared.program.Entry.{Entry}
use Rattle.name_table.specs.declared.decl.DeclId.{DeclId}
use Rattle.name_table.specs.declared.decl.DeclId.TheVariants.{Builtin, Using, Struct, Union, Protocol, Endpoint}
use Rattle.name_table.specs.declared.sight.Reach.{Reach}
use Rattle.name_table.specs.declared.sight.Reach.TheVariants.{Few, Many}
use Rattle.name_table.specs.Declares.{Includes, IsHeader}

-- the includes of a file are followed: those of the file at which the search began, and those of headers
abbrev pub IsFollowed : List Entry → ℕ → ℕ → Type 0
IsFollowed program from file = (file ≡ from) ⊎ IsHeader program file

-- the files that are reached from a file: itself, and each file that is included by a reached file whose includes are
-- followed
pub data Reaches (program : List Entry) (from : ℕ) : ℕ → Type 0 where
  start : from < length program → Reaches program from from
  step : {file other : ℕ} → Reaches program from file → IsFollowed program from file → Includes program file other → other < length program → Reaches program from other

-- what a file sees, if it is declared: all declarations of a file that is reached and followed, and the protocol of a
-- file that is reached
abbrev pub Shows : List Entry → ℕ → DeclId → Type 0
Shows program file (Using other place) = Reaches program file other × IsFollowed program file other
Shows program file (Struct other place) = Reaches program file other × IsFollowed program file other
Shows program file (Union other place) = Reaches program file other × IsFollowed program file other
Shows program file (Protocol other) = Reaches program file other
Shows program file (Builtin type) = ⊥
Shows program file (Endpoint p managed) = ⊥

abbrev pub IsMarked : List Bool → ℕ → Type 0
IsMarked marks n = slice_index_or marks n false ≡ true

-- the marks on the files that are reached
abbrev pub AreMarksOf : List Entry → ℕ → List Bool → Type 0
AreMarksOf program from marks = (file : ℕ) → (IsMarked marks file → Reaches program from file) × (Reaches program from file → IsMarked marks file)

-- the files that are reached, in any order
abbrev pub AreFilesOf : List Entry → ℕ → List ℕ → Type 0
AreFilesOf program from files = (file : ℕ) → (Contains files file → Reaches program from file) × (Reaches program from file → Contains files file)

-- these files were appended to others: each whose number is below the count and which was not in the list
pub record Joins (count : ℕ) (these old new : List ℕ) : Type 0 where
  pub more : List ℕ
  pub grown : new ≡ old ++ more
  pub only : (n : ℕ) → Contains more n → Contains these n × (n < count)
  pub joined : (n : ℕ) → Contains these n → n < count → Contains new n

-- the stored list or marks are those of the files that are reached from one
abbrev pub IsSight : List Entry → ℕ → Reach → Type 0
IsSight program from (Few files) = AreFilesOf program from files.items
IsSight program from (Many marks) = AreMarksOf program from marks.items

-- there is one of these for each file
pub record AreSights (program : List Entry) (sights : List Reach) : Type 0 where
  pub size : length sights ≡ length program
  pub of_file : (file : ℕ) (sight : Reach) → slice_get sights file ≡ Some sight → IsSight program file sight

-- the number of files without a mark
abbrev pub unmarked : List Bool → ℕ
unmarked marks = sum_by (λ b. if b then 0 else 1) marks

-- these files were marked as far as they exist, and each that had no mark is in the work
pub record Marks (these : List ℕ) (old : List Bool) (left : List ℕ) (new : List Bool) (work : List ℕ) : Type 0 where
  pub size : length new ≡ length old
  pub kept : (n : ℕ) → IsMarked old n → IsMarked new n
  pub marked : (n : ℕ) → Contains these n → n < length old → IsMarked new n
  pub only : (n : ℕ) → IsMarked new n → IsMarked old n ⊎ Contains these n
  pub added : (n : ℕ) → IsMarked new n → IsMarked old n ⊎ Contains work n
  pub stays : (n : ℕ) → Contains left n → Contains work n
  pub told : (n : ℕ) → Contains work n → Contains left n ⊎ IsMarked new n
  pub less : 2 * unmarked new + length work ≤ 2 * unmarked old + length left
