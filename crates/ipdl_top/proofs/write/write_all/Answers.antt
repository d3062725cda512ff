use Rattle.std.proofs.Common.{◌++◌, take, arith}
use Rattle.ipdl_top.proofs.Pieces.{Appends-more, moved}
use Rattle.ipdl_top.proofs.write.write_all.Goals as goal

pub pieces-preserved : goal.pieces-preserved
pieces-preserved g c =
    let old = c.pieces.invariant in (
      old.0 ++ take c.in-Took.n c.pieces.rest.now,
      rw c.split_at.ensures.back (moved c.args.text.now old.0 c.pieces.rest.now c.in-Took.n old.1),
      Appends-more _ _ _ old.0 (take c.in-Took.n c.pieces.rest.now) old.2 c.in-Took.ensures.appended,
      omega (arith, old.3, c.write.ensures.count),
    )
