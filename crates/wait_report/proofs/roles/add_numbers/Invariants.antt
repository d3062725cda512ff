use Rattle.std.proofs.Common.{◌≡◌, ◌++◌, take}
use Rattle.wait_report.specs.Listed as listed
use Rattle.wait_report.proofs.roles.add_numbers.Given as goal

-- the numbers of the messages so far were added
abbrev pub invariant-loop-row : goal.invariant-loop-row
invariant-loop-row l = l.numbers.items ≡ l.fn.numbers.items ++ listed.numbers_in l.known.types.items l.known.built.items l.role l.side (take l.row-index l.rows)
