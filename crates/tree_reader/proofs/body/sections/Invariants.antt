use Rattle.std.proofs.Common.{length}
use Rattle.tree_reader.proofs.BodyTurns.{ReadSections}
use Rattle.tree_reader.proofs.body.sections.Given as goal

abbrev pub invariant-sections : goal.invariant-sections
invariant-sections l = ReadSections l.all.items l.fn.reader l.reader

abbrev pub decreases-sections : goal.decreases-sections
decreases-sections l = length l.reader
