use Rattle.std.proofs.Common.{◌≡◌, ℕ, length}
use Rattle.least_fixed_points.specs.Marking.{HasUser}
use Rattle.least_fixed_points.proofs.users.rows.Given as goal

-- this number of rows, and no user in them
abbrev pub invariant-loop : goal.invariant-loop
invariant-loop l = record {
  size : length l.rows.items ≡ l.counter;
  empty : (p u : ℕ) → ¬ HasUser l.rows.items p u;
}
