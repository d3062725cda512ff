use Rattle.std.proofs.Common.{map, ap, ◌∙◌}
use Rattle.std.proofs.lemmas.List.{take_all}
use Rattle.ipdl_base.specs.declared.finding.Finding.{Finding}
use Rattle.findings.proofs.Gathers.{Gains-at_none}
use Rattle.written_parts.specs.Types.{TypeInFile, told, written_types}
use Rattle.written_parts.specs.declared.types.WrittenType.{WrittenType}
use Rattle.type_rules.specs.Breaks.{BreaksAt}
use Rattle.type_rules.proofs.Gains.{Gains-turn, Gains-listed}
use Rattle.type_rules.proofs.written.add_broken_types.Goals as goal

pub loop-written-init : goal.loop-written-init
loop-written-init c =
    Gains-at_none (λ (f : Finding) (w : WrittenType). BreaksAt c.args.names.now f w.file w.spec.now.nullable w.spec.now.base w.spec.now.place) c.args.found.now.items

pub loop-written-preserved : goal.loop-written-preserved
loop-written-preserved c =
    Gains-turn (λ (f : Finding) (w : WrittenType). BreaksAt c.args.names.now f w.file w.spec.now.nullable w.spec.now.base w.spec.now.place) c.deref-written-items.result.now c.loop-written.written-index c.written-item.result _ _ _
    c.loop-written-test.true c.written-item.is c.loop-written.invariant c.in_ok-add_broken.ensures

pub returns : goal.returns
returns c =
    let all = c.deref-written-items.result.now in
    Gains-listed (λ (f : Finding) (w : TypeInFile). BreaksAt c.args.names.now f w.file w.spec.nullable w.spec.base w.spec.place) told all (written_types c.args.program.now) _ _
    (ap (map told) c.deref-written-items.ensures.value ∙ c.in_ok-types.ensures) (rw (take_all c.loop-written.written-index all c.loop-written-test.false) at c.loop-written.invariant)
