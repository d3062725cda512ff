use Rattle.std.proofs.Common.{◌+◌, ◌<◌}
use Rattle.wait_report.specs.Least.{Spreads, known, unbuilt}
use Rattle.wait_report.proofs.spread.spread.Given as goal

-- what is known stays true, and more is known than before
abbrev pub invariant-loop : goal.invariant-loop
invariant-loop l = Spreads l.schema l.fn.types.items l.fn.built.items l.types.items l.built.items
    × (known l.types.items + unbuilt l.built.items < known l.fn.types.items + unbuilt l.fn.built.items)
