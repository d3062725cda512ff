use Rattle.std.proofs.Common.{take}
use Rattle.ipdl_base.specs.declared.finding.TheConstants.Rule as rule
use Rattle.findings.specs.Adds.{Adds}
use Rattle.sync_list.specs.Broken.{IsUnlistedSync}
use Rattle.sync_list.proofs.report.add_unlisted.Given as goal

-- the protocols so far have their findings
abbrev pub invariant-loop-entry : goal.invariant-loop-entry
invariant-loop-entry l = Adds rule.UNLISTED_SYNC (IsUnlistedSync (take l.entry-index l.program) l.list) l.fn.found.items l.found.items
