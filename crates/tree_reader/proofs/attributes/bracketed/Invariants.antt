use Rattle.std.proofs.Common.{◌<◌, [], ◌∷◌, length}
use Rattle.tree_reader.specs.Machine.{attributed, more_attributed}
use Rattle.tree_reader.specs.Reading.{Turns}
use Rattle.tree_reader.proofs.AttributeForms.{GoesOn}
use Rattle.tree_reader.proofs.attributes.bracketed.Given as goal

abbrev pub invariant-attributes : goal.invariant-attributes
invariant-attributes l = record {
  read : GoesOn l.all.items l.fn.reader l.reader;
  turns : Turns (attributed ∷ []) l.fn.reader (more_attributed ∷ []) l.reader;
  less : length l.reader < length l.fn.reader;
}

abbrev pub decreases-attributes : goal.decreases-attributes
decreases-attributes l = length l.reader
