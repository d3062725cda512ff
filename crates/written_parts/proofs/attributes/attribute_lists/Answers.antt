use Rattle.std.proofs.Common.{[]}
use Rattle.std.proofs.lemmas.List.{take_all}
use Rattle.ipdl_syntax.specs.declared.program.Entry.{Entry}
use Rattle.written_parts.specs.Attributes.{told, lists_of_unit}
use Rattle.written_parts.proofs.Appending.{appends_turn}
use Rattle.written_parts.proofs.attributes.attribute_lists.Goals as goal

pub loop-entry-preserved : goal.loop-entry-preserved
loop-entry-preserved c =
    appends_turn told (λ (e : Entry). lists_of_unit e.unit) c.args.program.now c.loop-entry.entry-index c.entry-item.result [] _ _ c.loop-entry-test.true c.entry-item.is c.loop-entry.invariant c.in_ok-add_unit.ensures

pub returns : goal.returns
returns c = rw (take_all c.loop-entry.entry-index c.args.program.now c.loop-entry-test.false) at c.loop-entry.invariant
