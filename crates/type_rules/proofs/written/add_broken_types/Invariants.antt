use Rattle.std.proofs.Common.{take}
use Rattle.std.specs.List.{Any}
use Rattle.findings.specs.Gains.{Gains}
use Rattle.type_rules.specs.Breaks.{BreaksAt}
use Rattle.type_rules.proofs.written.add_broken_types.Given as goal

-- the types so far have their findings
abbrev pub invariant-loop-written : goal.invariant-loop-written
invariant-loop-written l =
    Gains (λ f. Any (λ w. BreaksAt l.names f w.file w.spec.now.nullable w.spec.now.base w.spec.now.place) (take l.written-index l.written-items)) l.fn.found.items l.found.items
