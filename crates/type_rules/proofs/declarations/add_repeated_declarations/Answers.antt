use Rattle.ipdl_base.specs.declared.finding.TheConstants.Rule as rule
use Rattle.ipdl_syntax.specs.declared.program.Entry.{Entry}
use Rattle.std.proofs.lemmas.List.{take_all}
use Rattle.std.specs.List.{Any}
use Rattle.std.specs.Prelude.{◌≡◌}
use Rattle.type_rules.proofs.Placed.{Adds-turn}
use Rattle.type_rules.proofs.declarations.add_repeated_declarations.Goals as goal
use Rattle.type_rules.specs.Declarations.{declarations}
use Rattle.type_rules.specs.Firsts.{IsRepeatedAmong}

pub loop-entry-preserved : goal.loop-entry-preserved
loop-entry-preserved c =
    Adds-turn rule.REPEATED_DECLARATION (λ place (x : Entry). Any (λ d. IsRepeatedAmong (declarations x.unit) d × (d.place ≡ place)) (declarations x.unit)) c.args.program.now c.loop-entry.entry-index c.entry-item.result _ _ _ c.loop-entry-test.true c.entry-item.is c.loop-entry.invariant c.in_ok-add_repeated_in.ensures

pub returns : goal.returns
returns c = rw (take_all c.loop-entry.entry-index c.args.program.now c.loop-entry-test.false) at c.loop-entry.invariant
