use Rattle.std.proofs.Common.{◌≡◌, take}
use Rattle.program_schema.specs.Shapes.{IsSuffixed}
use Rattle.actor_tables.proofs.shapes.suffixed.Given as goal

abbrev pub invariant-loop-suffix : goal.invariant-loop-suffix
invariant-loop-suffix l = IsSuffixed (λ shape. shape ≡ l.fn.base) (take l.suffix-index l.suffixes) l.shape
