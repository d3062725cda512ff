-- The log of reads, and the maps of files that agree with it.
use Rattle.std.specs.Prelude.{◌≡◌, ◌≢◌, ℕ, ◌≤◌, List, [], ◌∷◌, ◌++◌, length, Option, Some, None, Result, Ok, Err, IfSome}
use Rattle.std.specs.List.{AllByRecursion}
use Rattle.ipdl_base.specs.declared.files.FileBytes.{FileBytes}
use Rattle.ipdl_base.specs.declared.files.FileBytes.TheVariants.{Absent, Larger, Bytes}
use Rattle.ipdl_base.specs.declared.files.Failure.{Failure}
use Rattle.ipdl_base.specs.declared.files.Failure.TheVariants.{ReadFault, NoMemory}
use Rattle.ipdl_base.specs.Outside.{FileMap, HasMore}
use Rattle.file_log.specs.Entries.{Found, NoFile, MoreBytes, AllBytes, Failed}
use Rattle.file_log.specs.Entries as entries

abbrev pub ReadEntry : Type 0
ReadEntry = entries.ReadEntry

-- what was found, as plain data
abbrev pub found_of : FileBytes → Found
found_of Absent = NoFile
found_of Larger = MoreBytes
found_of (Bytes bytes) = AllBytes bytes.items

-- the entries that a read adds to the log: its result, or no entry if it ran out of memory
abbrev pub entries_of : List ℕ → ℕ → Result FileBytes Failure → List ReadEntry
entries_of name limit (Ok found) = record { name = name; limit = limit; found = found_of found } ∷ []
entries_of name limit (Err ReadFault) = record { name = name; limit = limit; found = Failed } ∷ []
entries_of name limit (Err NoMemory) = []

-- the file of the map agrees with the result of the read; it agrees with no failed read
abbrev pub IsFound : ℕ → Option (List ℕ) → Found → Type 0
IsFound most held NoFile = held ≡ None
IsFound most held MoreBytes = HasMore most held
IsFound most held (AllBytes bytes) = (held ≡ Some bytes) × (length bytes ≤ most)
IsFound most held Failed = ⊥

-- no read failed, and the map agrees at each name with the result of its read
abbrev pub Agrees : FileMap → List ReadEntry → Type 0
Agrees files reads = AllByRecursion (λ entry. IsFound entry.limit (files entry.name) entry.found) reads

-- The reads between two moments, by which the log grew: a known map agrees with them, and in any case some map does; and
-- this property holds for every map that agrees with them.
pub record ForReads (told : Option FileMap) (old new : List ReadEntry) (P : FileMap → Type 0) : Type 0 where
  pub reads : List ReadEntry
  pub logged : new ≡ old ++ reads
  pub told_agrees : IfSome told (λ files. Agrees files reads)
  pub consistent : (files : FileMap) × Agrees files reads
  pub each : (files : FileMap) → Agrees files reads → P files

-- The names of the reads between two moments have this property.
pub record HaveNames (IsOne : List ℕ → Type 0) (old new : List ReadEntry) : Type 0 where
  pub reads : List ReadEntry
  pub logged : new ≡ old ++ reads
  pub names : AllByRecursion (λ entry. IsOne entry.name) reads

-- no read failed
abbrev pub NoneFailed : List ReadEntry → Type 0
NoneFailed reads = AllByRecursion (λ entry. entry.found ≢ Failed) reads

-- No read between two moments failed.
pub record HaveSucceeded (old new : List ReadEntry) : Type 0 where
  pub reads : List ReadEntry
  pub logged : new ≡ old ++ reads
  pub none : NoneFailed reads

-- The last of the reads between two moments failed, and none before it.
pub record HasFailedLast (old new : List ReadEntry) : Type 0 where
  pub before : List ReadEntry
  pub last : ReadEntry
  pub logged : new ≡ old ++ (before ++ last ∷ [])
  pub none : NoneFailed before
  pub failed : last.found ≡ Failed

-- How a call that reads ends: with a fault of a read exactly if a read failed, and then nothing was read after it.
abbrev pub EndsWithReads : {X : Type 0} → Result X Failure → List ReadEntry → List ReadEntry → Type 0
EndsWithReads (Ok value) old new = HaveSucceeded old new
EndsWithReads (Err ReadFault) old new = HasFailedLast old new
EndsWithReads (Err NoMemory) old new = HaveSucceeded old new
