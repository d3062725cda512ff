-- The rules that a section can break, one for each breach.
use Rattle.std.specs.Prelude.{List}
use Rattle.ipdl_base.specs.declared.finding.Rule.{Rule}
use Rattle.ipdl_base.specs.declared.finding.TheConstants.Rule as rule
use Rattle.ipdl_syntax.specs.declared.program.Entry.{Entry}
use Rattle.sync_list.specs.declared.list.Section.{Section}
use Rattle.sync_list.specs.declared.report.SectionBreach.{SectionBreach}
use Rattle.sync_list.specs.declared.report.SectionBreach.TheVariants.{Async, Absent, Undescribed}
use Rattle.sync_list.specs.Broken.{NamesAsync, NamesAbsent, HasNoDescription}

-- the rule that is broken
abbrev pub rule_of : SectionBreach → Rule
rule_of Async = rule.LISTED_ASYNC
rule_of Absent = rule.LISTED_ABSENT
rule_of Undescribed = rule.NO_DESCRIPTION

-- the section breaks this rule
abbrev pub Breaks : SectionBreach → List Entry → Section → Type 0
Breaks Async program s = NamesAsync program s
Breaks Absent program s = NamesAbsent program s
Breaks Undescribed program s = HasNoDescription s
