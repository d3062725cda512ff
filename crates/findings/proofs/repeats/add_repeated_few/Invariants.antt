use Rattle.std.proofs.Common.{take, map}
use Rattle.findings.specs.Adds.{Adds}
use Rattle.findings.specs.Repeats.{IsRepeatedAt}
use Rattle.findings.proofs.Repeated.{plain_name}
use Rattle.findings.proofs.repeats.add_repeated_few.Given as goal

-- the repeated ones of the names so far have their findings
abbrev pub invariant-loop-i : goal.invariant-loop-i
invariant-loop-i l = Adds l.rule (IsRepeatedAt (map plain_name (take l.i l.names))) l.fn.found.items l.found.items
