use Rattle.std.proofs.Common.{◌≡◌, List, length, take}
use Rattle.ipdl_syntax.specs.declared.program.Entry.{Entry}
use Rattle.findings.specs.Adds.{Adds}
use Rattle.sync_list.specs.Breaches.{rule_of, Breaks}
use Rattle.sync_list.specs.Broken.{AtSection}
use Rattle.sync_list.specs.Knowing.{Knows}
use Rattle.sync_list.proofs.report.add_breaches.Given as goal

-- the sections so far have their findings
abbrev pub invariant-loop-section : goal.invariant-loop-section
invariant-loop-section l =
    (program : List Entry) → Knows program l.known → l.file ≡ length program → Adds (rule_of l.breach) (AtSection (Breaks l.breach program) program (take l.section-index l.list)) l.fn.found.items l.found.items
