use Rattle.std.proofs.Common.{length}
use Rattle.tree_reader.proofs.BodyTurns.{ReadMessages}
use Rattle.tree_reader.proofs.body.section_messages.Given as goal

abbrev pub invariant-messages : goal.invariant-messages
invariant-messages l = ReadMessages l.direction l.fn.all.items l.all.items l.fn.reader l.reader

abbrev pub decreases-messages : goal.decreases-messages
decreases-messages l = length l.reader
