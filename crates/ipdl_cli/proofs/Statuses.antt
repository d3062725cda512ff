-- Statuses by their numbers.
use Rattle.std.proofs.Common.{◌≡◌, refl}
use Rattle.ipdl_top.specs.Codes.{code_of}
use Rattle.ipdl_top.specs.declared.status.Status.{Status}
use Rattle.ipdl_top.specs.declared.status.Status.TheVariants.{Done, Broken, Usage, ReadFault, WriteFault, Spent, NoMemory, BadScript, BadFrames, BadTranscript}

-- no other status has the number of Usage
pub usage_alone : (status : Status) → code_of status ≡ 2 → status ≡ Usage
usage_alone Done is = cc
usage_alone Broken is = cc
usage_alone Usage is = refl
usage_alone ReadFault is = cc
usage_alone WriteFault is = cc
usage_alone Spent is = cc
usage_alone NoMemory is = cc
usage_alone BadScript is = cc
usage_alone BadFrames is = cc
usage_alone BadTranscript is = cc
