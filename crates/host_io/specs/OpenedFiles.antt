-- What a read of a real file gives.
use Rattle.std.specs.Prelude.{◌≡◌, ℕ, List, Option, Some, None, IfSome}
use Rattle.ipdl_base.specs.Outside.{IsHeldWithin}
use Rattle.ipdl_base.specs.declared.files.FileBytes.{FileBytes}
use Rattle.ipdl_base.specs.declared.files.FileBytes.TheVariants.{Absent}
use Rattle.host_io.specs.declared.files.RealFiles.{RealFiles}

-- The result of a read of an opened file: its bytes, within the limit, if they are known; or that there is no file.
abbrev pub IsFoundIn : {F : Type 0} → (F → Option (List ℕ)) → Option F → ℕ → FileBytes → Type 0
IsFoundIn remaining (Some file) limit found = IfSome (remaining file) (λ bytes. IsHeldWithin limit (Some bytes) found)
IsFoundIn remaining None limit found = found ≡ Absent

-- the number of reads of real files that failed
abbrev pub read_faults_of : {R : Type 0} → RealFiles R → ℕ
read_faults_of files = files.faults
