use Rattle.std.proofs.Common.{take}
use Rattle.findings.specs.Gains.{Gains}
use Rattle.message_rules.specs.Gathered.{IsRepeatedIn}
use Rattle.message_rules.proofs.report.add_repeated_in.Given as goal

-- the messages so far have their findings
abbrev pub invariant-loop-message : goal.invariant-loop-message
invariant-loop-message l = Gains (IsRepeatedIn (take l.message-index l.messages)) l.fn.found.items l.found.items
