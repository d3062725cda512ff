use Rattle.std.proofs.Common.{[], ◌∷◌, length, ◌≤◌, List, ◌++◌}
use Rattle.ipdl_base.specs.declared.token.Token.{Token}
use Rattle.ipdl_syntax.specs.declared.tree.Param.{Param}
use Rattle.ipdl_syntax.specs.Grammar.{fields}
use Rattle.tree_reader.specs.Machine.{fielded}
use Rattle.tree_reader.specs.Reading.{Turns}
use Rattle.tree_reader.proofs.fields.fields.Given as goal

-- whatever follows from here makes a list together with the fields so far
abbrev pub invariant-fields : goal.invariant-fields
invariant-fields l = record {
  read : (more : List Param) (to : List Token) → fields more l.reader to → fields (l.all.items ++ more) l.fn.reader to;
  turns : Turns (fielded ∷ []) l.fn.reader (fielded ∷ []) l.reader;
  fewer : length l.reader ≤ length l.fn.reader;
}

abbrev pub decreases-fields : goal.decreases-fields
decreases-fields l = length l.reader
