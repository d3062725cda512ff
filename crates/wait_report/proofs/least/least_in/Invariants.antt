use Rattle.std.proofs.Common.{◌≡◌, ◌≤◌, min, drop}
use Rattle.wait_report.specs.Least as least
use Rattle.wait_report.proofs.least.least_in.Given as goal

-- the least value so far and that of the remaining components give the least of all
abbrev pub invariant-loop-component : goal.invariant-loop-component
invariant-loop-component l = record {
  few : l.bytes ≤ least.too_many;
  whole : min l.bytes (least.least_in l.types l.built (drop l.component-index l.components)) ≡ least.least_in l.types l.built l.components;
}
