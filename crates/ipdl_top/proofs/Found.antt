-- What is found of a file that is read, and of a list.
use Rattle.std.proofs.Common.{◌≡◌, List, ◌++◌, ℕ}
use Rattle.std.specs.Prelude.{Err, IfOk, IfSome, None, Ok, Option, Result, Some}
use Rattle.ipdl_base.specs.Outside.{FileMap, HasAtMost, IsHeldWithin}
use Rattle.ipdl_base.specs.declared.files.Failure.{Failure}
use Rattle.ipdl_base.specs.declared.files.FileBytes.{FileBytes}
use Rattle.file_log.specs.Log.{ForReads, ReadEntry, entries_of}
use Rattle.file_log.proofs.Between.{one_read}
use Rattle.ipdl_top.specs.declared.list.SyncListFile.{SyncListFile}
use Rattle.ipdl_top.specs.declared.list.SyncListFile.TheVariants.{Sections, Broken}
use Rattle.ipdl_top.specs.Steps.{IsFound, IsListed}

-- what one read found is what every map that agrees with it has
pub read_so : (told : Option FileMap) (old new : List ReadEntry) (name : List ℕ) (limit : ℕ) (result : Result FileBytes Failure) → new ≡ old ++ entries_of name limit result
    → IfOk result (HasAtMost limit) → IfOk result (λ found. IfSome told (λ map. IsHeldWithin limit (map name) found)) → IfOk result (λ found. ForReads told old new (λ map. IsHeldWithin limit (map name) found))
read_so told old new name limit (Ok found) logged small held = one_read told name limit found logged small held
read_so told old new name limit (Err failure) logged small held = tt

-- what was found of a list is that of the one which is named
pub listed_so : (lists : FileMap) (word : List ℕ) (number : ℕ) (listed : SyncListFile) → IsFound (lists word) number listed → IsListed lists (Some word) number listed
listed_so lists word number (Sections None) found = found
listed_so lists word number (Sections (Some sections)) found = found
listed_so lists word number (Broken finding) found = found
