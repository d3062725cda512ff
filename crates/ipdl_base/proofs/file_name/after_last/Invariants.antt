use Rattle.std.proofs.Common.{◌≡◌, ◌++◌, take, drop}
use Rattle.ipdl_base.specs.FileNames.{after_last}
use Rattle.ipdl_base.proofs.file_name.after_last.Given as goal

-- what follows the last such byte so far, with the rest of the text
abbrev pub invariant-loop-i : goal.invariant-loop-i
invariant-loop-i l = l.following ≡ after_last l.mark (take l.i l.text) ++ drop l.i l.text
