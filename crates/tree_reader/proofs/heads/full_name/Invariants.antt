use Rattle.std.proofs.Common.{◌≡◌, [], ◌∷◌, ◌++◌, drop}
use Rattle.ipdl_base.specs.Words.{joined}
use Rattle.tree_reader.proofs.heads.full_name.Given as goal

-- the text so far, and the joined name of what is left, are the joined name of all
abbrev pub invariant-scope : goal.invariant-scope
invariant-scope l = l.full ++ joined (drop l.outer-index l.scope ++ l.name ∷ []) ≡ joined (l.scope ++ l.name ∷ [])
