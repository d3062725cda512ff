-- Reading a value at a depth.
use Rattle.std.proofs.Common.{◌≡◌, ◌≢◌, ℕ, zero, suc, ◌-◌, List, Err, refl, arith}
use Rattle.ipdl_base.specs.declared.schema.Schema.{Schema}
use Rattle.ipdl_base.specs.declared.schema.Shape.{Shape}
use Rattle.value_types.specs.declared.layout.Layout.{Layout}
use Rattle.value_codec.specs.Reading.{short, shape_at, value_at}

pub no_depth : (depth : ℕ) (layout : Layout) (schema : Schema) (shape : Shape) (bytes : List ℕ) → depth ≡ 0 → value_at depth layout schema shape bytes ≡ Err short
unfolding value_at
no_depth depth layout schema shape bytes none = rw none refl

pub at_depth : (depth : ℕ) (layout : Layout) (schema : Schema) (shape : Shape) (bytes : List ℕ) → depth ≢ 0 → value_at depth layout schema shape bytes ≡ shape_at (value_at (depth - 1) layout schema) layout schema shape bytes
unfolding value_at
at_depth zero layout schema shape bytes some = absurd (some refl)
at_depth (suc depth) layout schema shape bytes some = let e : suc depth - 1 ≡ depth = omega arith in rw e refl
