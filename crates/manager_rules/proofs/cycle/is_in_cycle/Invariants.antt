use Rattle.std.proofs.Common.{◌+◌, ◌*◌, length}
use Rattle.name_table.specs.Marks.{unmarked}
use Rattle.manager_rules.proofs.Cycles.{Searches}
use Rattle.manager_rules.proofs.cycle.is_in_cycle.Given as goal

abbrev pub invariant-loop-file : goal.invariant-loop-file
invariant-loop-file l = Searches l.known.program.now l.from l.marks.items l.work.items

abbrev pub decreases-loop-file : goal.decreases-loop-file
decreases-loop-file l = 2 * unmarked l.marks.items + length l.work.items
