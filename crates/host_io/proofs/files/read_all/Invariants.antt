use Rattle.std.proofs.Common.{◌≤◌, ◌<◌, length}
use Rattle.std.specs.Io.KnownBytes.{Consumes}
use Rattle.host_io.proofs.files.read_all.Given as goal

-- the bytes so far are those that the reader gave, and no more than may be read
abbrev pub invariant-pieces : goal.invariant-pieces
invariant-pieces g l = record {
  few : length l.bytes.items ≤ l.limit;
  room : 0 < length l.piece;
  given : Consumes (g.F.Read.remaining l.fn.file) (g.F.Read.remaining l.file) l.bytes.items;
}
