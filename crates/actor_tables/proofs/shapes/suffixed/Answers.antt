use Rattle.std.proofs.Common.{◌≡◌}
use Rattle.actor_tables.proofs.Suffixes.{suffixed_array, suffixed_maybe}
use Rattle.actor_tables.proofs.shapes.suffixed.Goals as goal
use Rattle.actor_tables.proofs.shapes.suffixed.Goals.{in-Array+in_ok-new-in-Array, in-Maybe+in_ok-new-in-Maybe}

pub loop-suffix-preserved : goal.loop-suffix-preserved
loop-suffix-preserved c = elim c.match-suffix.branch [
  | in-Array+in_ok-new-in-Array w ↦ suffixed_array (λ shape. shape ≡ c.args.base) c.args.suffixes.now c.loop-suffix.suffix-index c.loop-suffix.shape c.match-suffix.shape w.in_ok-new-in-Array.field-0 c.loop-suffix-test.true w.in-Array.is w.shape-is w.in_ok-new-in-Array.ensures.ok c.loop-suffix.invariant
  | in-Maybe+in_ok-new-in-Maybe w ↦ suffixed_maybe (λ shape. shape ≡ c.args.base) c.args.suffixes.now c.loop-suffix.suffix-index c.loop-suffix.shape c.match-suffix.shape w.in_ok-new-in-Maybe.field-0 c.loop-suffix-test.true w.in-Maybe.is w.shape-is w.in_ok-new-in-Maybe.ensures.ok c.loop-suffix.invariant
]
