use Rattle.std.proofs.Common.{◌≤◌, ◌-◌, length}
use Rattle.tree_reader.proofs.TypeForms.{SuffixesGoOn, HasRoom}
use Rattle.tree_reader.proofs.types.suffixes.Given as goal

abbrev pub invariant-suffixes : goal.invariant-suffixes
invariant-suffixes l = record {
  read : SuffixesGoOn l.all.items l.fn.reader l.reader;
  turns : HasRoom (4 - length l.all.items) l.fn.reader l.reader;
  few : length l.all.items ≤ 4;
  fewer : length l.reader ≤ length l.fn.reader;
}

abbrev pub decreases-suffixes : goal.decreases-suffixes
decreases-suffixes l = 4 - length l.all.items
