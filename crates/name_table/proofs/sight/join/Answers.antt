use Rattle.std.proofs.Common.{arith, List, ℕ, subst}
use Rattle.std.specs.List.{Contains}
use Rattle.name_table.proofs.Marking.{joins_none}
use Rattle.name_table.proofs.sight.join.Goals as goal
use Rattle.name_table.proofs.sight.join.Goals.{else-file-count-via-then-file-count+else-not-is_among, else-file-count-via-else-file-count}

pub returns-else-file-count : goal.returns-else-file-count
returns-else-file-count c = elim c.else-file-count.branch [
  | else-file-count-via-then-file-count+else-not-is_among w ↦ joins_none _ _ _ (λ below. subst (λ (xs : List ℕ). Contains xs c.args.file) w.as_slice.ensures.value (w.is_among.ensures.0 w.if-not-is_among.false))
  | else-file-count-via-else-file-count w ↦ joins_none _ _ _ (λ below. absurd (let k = w.if-file-count.false in omega arith))
]
