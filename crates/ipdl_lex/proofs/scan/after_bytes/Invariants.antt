use Rattle.std.proofs.Common.{◌≡◌, ◌+◌, ◌≤◌, take}
use Rattle.ipdl_lex.specs.Scan.{after_bytes}
use Rattle.ipdl_lex.proofs.scan.after_bytes.Given as goal

abbrev pub invariant-loop-b : goal.invariant-loop-b
invariant-loop-b l = record {
  place : l.place ≡ after_bytes l.fn.here (take l.b-index l.bytes);
  line : l.place.line ≤ l.fn.here.line + l.b-index;
  column : l.place.column ≤ l.fn.here.column + l.b-index;
}
