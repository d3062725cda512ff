use Rattle.ipdl_base.specs.declared.finding.TheConstants.Rule as rule
use Rattle.ipdl_syntax.specs.declared.program.Entry.{Entry}
use Rattle.std.proofs.lemmas.List.{take_all}
use Rattle.std.specs.List.{Any}
use Rattle.type_rules.proofs.Placed.{Adds-turn}
use Rattle.type_rules.proofs.fields.add_repeated_fields.Goals as goal
use Rattle.type_rules.specs.Steps.{HasRepeatedField}

pub loop-entry-preserved : goal.loop-entry-preserved
loop-entry-preserved c =
    Adds-turn rule.REPEATED_FIELD (λ place (x : Entry). Any (HasRepeatedField place) x.unit.structs) c.args.program.now c.loop-entry.entry-index c.entry-item.result _ _ _ c.loop-entry-test.true c.entry-item.is c.loop-entry.invariant (rw c.as_slice.ensures at c.in_ok-add_repeated_in.ensures)

pub returns : goal.returns
returns c = rw (take_all c.loop-entry.entry-index c.args.program.now c.loop-entry-test.false) at c.loop-entry.invariant
