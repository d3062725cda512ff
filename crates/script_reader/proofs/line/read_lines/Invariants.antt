use Rattle.std.proofs.Common.{ℕ, List, Bor, map}
use Rattle.script_reader.proofs.Turns.{HasRead}
use Rattle.script_reader.proofs.line.read_lines.Given as goal

-- the lines so far are read
abbrev pub invariant-loop-line : goal.invariant-loop-line
invariant-loop-line l = HasRead (map (λ (x : Bor (List ℕ)). x.now) l.yielded) l.readings.items
