use Rattle.std.proofs.Common.{◌≡◌, ◌+◌, ℕ, length}
use Rattle.std.specs.Prelude.{option_map}
use Rattle.charts.specs.Labels.{kept_values}
use Rattle.charts.proofs.labels.kept_values.Given as goal

-- what is kept of the whole is what is kept of the rest, after the bytes so far
abbrev pub invariant-loop-byte : goal.invariant-loop-byte
invariant-loop-byte l = record {
  all : l.kept + length l.rest ≡ length l.values;
  keeps : kept_values 40 l.values ≡ option_map (λ (n : ℕ). l.kept + n) (kept_values l.left l.rest);
}

abbrev pub decreases-loop-byte : goal.decreases-loop-byte
decreases-loop-byte l = length l.rest
