use Rattle.std.proofs.Common.{◌≤◌, length}
use Rattle.tree_reader.proofs.NameForms.{WordsGoOn, StaysOn}
use Rattle.tree_reader.proofs.names.more_words.Given as goal

abbrev pub invariant-words : goal.invariant-words
invariant-words l = record {
  read : WordsGoOn l.fn.text l.text l.fn.reader l.reader;
  turns : StaysOn l.fn.reader l.reader;
  fewer : length l.reader ≤ length l.fn.reader;
}

abbrev pub decreases-words : goal.decreases-words
decreases-words l = length l.reader
