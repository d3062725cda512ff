use Rattle.std.proofs.Common.{[], ◌∷◌, length, ◌<◌, ◌≢◌, List, ◌++◌}
use Rattle.ipdl_base.specs.declared.token.Token.{Token}
use Rattle.ipdl_syntax.specs.declared.tree.TypeSpec.{TypeSpec}
use Rattle.ipdl_syntax.specs.Grammar.{components}
use Rattle.tree_reader.specs.Ending as ending
use Rattle.tree_reader.specs.Machine.{typed, componented}
use Rattle.tree_reader.specs.Reading.{Turns}
use Rattle.tree_reader.proofs.fields.components.Given as goal

-- whatever follows from here makes a list together with the components so far
abbrev pub invariant-components : goal.invariant-components
invariant-components l = record {
  read : (more : List TypeSpec) (to : List Token) → components more l.reader to → components (l.all.items ++ more) l.fn.reader to;
  some : l.all.items ≢ [];
  turns : Turns (typed 4 ending.Semicolon ∷ componented ∷ []) l.fn.reader (componented ∷ []) l.reader;
  less : length l.reader < length l.fn.reader;
}

abbrev pub decreases-components : goal.decreases-components
decreases-components l = length l.reader
