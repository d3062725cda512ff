use Rattle.std.proofs.Common.{◌≡◌, ℕ, List, Bor, length, map}
use Rattle.sync_list.proofs.Whole.{HasReadLines}
use Rattle.sync_list.proofs.reader.read_lines.Given as goal

-- the reader has read the lines so far, and the number is that of the last
abbrev pub invariant-loop-line : goal.invariant-loop-line
invariant-loop-line l = record {
  counted : l.number ≡ length l.yielded;
  read : HasReadLines (map (λ (x : Bor (List ℕ)). x.now) l.yielded) l.reader;
}
