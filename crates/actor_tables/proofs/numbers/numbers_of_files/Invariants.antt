use Rattle.std.proofs.Common.{◌≡◌, length}
use Rattle.actor_tables.proofs.NamedFiles.{FindsBelow}
use Rattle.actor_tables.proofs.numbers.numbers_of_files.Given as goal

abbrev pub invariant-loop-number : goal.invariant-loop-number
invariant-loop-number l = record {
  long : length l.numbers.items ≡ l.count;
  found : FindsBelow l.files l.numbers.items l.number;
}
