use Rattle.std.proofs.Common.{length}
use Rattle.tree_reader.specs.Files.{IsDraft}
use Rattle.tree_reader.proofs.file.read_file.Given as goal

-- the draft has what was before the tokens that are left
abbrev pub invariant-declarations : goal.invariant-declarations
invariant-declarations l = IsDraft l.fn.kind l.fn.tokens l.draft l.reader

abbrev pub decreases-declarations : goal.decreases-declarations
decreases-declarations l = length l.reader
