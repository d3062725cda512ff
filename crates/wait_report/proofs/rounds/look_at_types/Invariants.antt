use Rattle.wait_report.specs.Least.{TypesLook}
use Rattle.wait_report.proofs.rounds.look_at_types.Given as goal

-- the types so far were looked at
abbrev pub invariant-loop-number : goal.invariant-loop-number
invariant-loop-number l = TypesLook l.schema l.built l.number l.fn.types.items l.types.items l.changed
