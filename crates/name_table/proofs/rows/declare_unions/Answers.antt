use Rattle.name_table.specs.declared.decl.DeclId.TheVariants.{Union}
use Rattle.name_table.proofs.Listing.{lists_next}
use Rattle.name_table.proofs.rows.declare_unions.Goals as goal

pub loop-place-preserved : goal.loop-place-preserved
loop-place-preserved c =
    let l = c.loop-place in
    let item = c.index-unions-place.result in
    lists_next (λ d. d.full) (Union c.args.file) c.args.unions.now l.place item c.as_slice.result.now c.args.rows.now l.rows c.declare.new.rows c.loop-place-test.true c.index-unions-place.is c.as_slice.ensures l.invariant c.in_ok-declare.ensures
