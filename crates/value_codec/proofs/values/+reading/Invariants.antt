use Rattle.std.proofs.Common.{ℕ, ◌+◌, ◌*◌, ◌^◌, length}
use Rattle.value_codec.proofs.values.+reading.Given as goal

-- Each depth has room for the fields or elements of one value, and for what reads them.
abbrev deep : ℕ → ℕ
deep depth = depth * 2 ^ 70

abbrev pub decreases-value : goal.decreases-value
decreases-value l = deep l.depth

abbrev pub decreases-value_of_shape : goal.decreases-value_of_shape
decreases-value_of_shape l = deep l.depth + 2 ^ 69

abbrev pub decreases-named : goal.decreases-named
decreases-named l = deep l.depth + 2 ^ 68

abbrev pub decreases-structure : goal.decreases-structure
decreases-structure l = deep l.depth + 2 ^ 67

abbrev pub decreases-union_value : goal.decreases-union_value
decreases-union_value l = deep l.depth + 2 ^ 67

abbrev pub decreases-array : goal.decreases-array
decreases-array l = deep l.depth + 2 ^ 67

abbrev pub decreases-maybe : goal.decreases-maybe
decreases-maybe l = deep l.depth + 2 ^ 67

abbrev pub decreases-elements : goal.decreases-elements
decreases-elements l = deep l.depth + 1 + l.count

abbrev pub decreases-values : goal.decreases-values
decreases-values l = deep l.depth + 1 + length l.fields.now
