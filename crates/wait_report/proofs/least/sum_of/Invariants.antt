use Rattle.std.proofs.Common.{◌≡◌, ◌+◌, ◌≤◌, min, drop}
use Rattle.wait_report.specs.Least as least
use Rattle.wait_report.proofs.least.sum_of.Given as goal

-- the sum so far and that of the remaining fields give the sum of all
abbrev pub invariant-loop-field : goal.invariant-loop-field
invariant-loop-field l = record {
  few : l.bytes ≤ least.too_many;
  whole : min least.too_many (l.bytes + least.sum_of l.types l.built (drop l.field-index l.fields)) ≡ least.sum_of l.types l.built l.fields;
}
