use Rattle.name_table.specs.declared.decl.DeclId.TheVariants.{Struct}
use Rattle.name_table.proofs.Listing.{lists_next}
use Rattle.name_table.proofs.rows.declare_structs.Goals as goal

pub loop-place-preserved : goal.loop-place-preserved
loop-place-preserved c =
    let l = c.loop-place in
    let item = c.index-structs-place.result in
    lists_next (λ d. d.full) (Struct c.args.file) c.args.structs.now l.place item c.as_slice.result.now c.args.rows.now l.rows c.declare.new.rows c.loop-place-test.true c.index-structs-place.is c.as_slice.ensures l.invariant c.in_ok-declare.ensures
