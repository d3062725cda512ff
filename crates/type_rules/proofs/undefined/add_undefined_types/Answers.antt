use Rattle.std.proofs.lemmas.Result.{on_ok_weaker}
use Rattle.ipdl_base.specs.declared.finding.TheConstants.Rule as rule
use Rattle.type_rules.proofs.Reported.{undefined_types}
use Rattle.type_rules.proofs.undefined.add_undefined_types.Goals as goal

pub returns : goal.returns
returns c =
    let compounds = c.in_ok-compounds.compounds in
    on_ok_weaker c.add_unmarked.result (λ g.
    undefined_types rule.UNDEFINED_TYPE c.args.program.now compounds.all.items compounds.files.items c.in_ok-nodes.nodes.items c.in_ok-marks.marks.items _ _
    c.in_ok-compounds.ensures (rw c.requires.of_program at c.in_ok-nodes.ensures) (rw c.as_slice.ensures.value at c.in_ok-marks.ensures) (rw (c.as_slice-2.ensures.value, c.as_slice-3.ensures.value) at g))
    c.add_unmarked.ensures
