use Rattle.std.proofs.Common.{length}
use Rattle.tree_reader.proofs.BodyTurns.{ReadStatements}
use Rattle.tree_reader.proofs.body.protocol_body.Given as goal

abbrev pub invariant-statements : goal.invariant-statements
invariant-statements l = ReadStatements l.managers.items l.manages.items l.fn.reader l.reader

abbrev pub decreases-statements : goal.decreases-statements
decreases-statements l = length l.reader
