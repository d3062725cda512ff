use Rattle.std.specs.Prelude.{ℕ}
use Rattle.ipdl_top.specs.declared.status.Status.{Status}
use Rattle.ipdl_top.specs.declared.status.Status.TheVariants.{Done, Broken, Usage, ReadFault, WriteFault, Spent, NoMemory, BadScript, BadFrames, BadTranscript}

-- the number of a status
abbrev pub code_of : Status → ℕ
code_of Done = 0
code_of Broken = 1
code_of Usage = 2
code_of ReadFault = 3
code_of WriteFault = 4
code_of Spent = 5
code_of NoMemory = 6
code_of BadScript = 7
code_of BadFrames = 8
code_of BadTranscript = 9
