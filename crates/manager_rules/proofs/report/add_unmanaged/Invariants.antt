use Rattle.std.proofs.Common.{take}
use Rattle.ipdl_base.specs.declared.finding.TheConstants.Rule as rule
use Rattle.findings.specs.Adds.{Adds}
use Rattle.manager_rules.specs.InProtocol.{UnmanagedIn}
use Rattle.manager_rules.proofs.report.add_unmanaged.Given as goal

-- the messages so far have their findings
abbrev pub invariant-loop-message : goal.invariant-loop-message
invariant-loop-message l = Adds rule.UNMANAGED_CONSTRUCTOR (UnmanagedIn l.known.program.now l.subject.file l.subject.protocol.now (take l.message-index l.messages)) l.fn.found.items l.found.items
