use Rattle.std.proofs.Common.{◌≡◌, take}
use Rattle.ipdl_top.specs.Steps.{names_of}
use Rattle.ipdl_top.proofs.rules.names_of.Given as goal

-- the names of the files so far
abbrev pub invariant-loop-entry : goal.invariant-loop-entry
invariant-loop-entry l = l.names.items ≡ names_of (take l.entry-index l.program)
