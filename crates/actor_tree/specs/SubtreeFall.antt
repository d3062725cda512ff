-- A fall that has begun.
use Rattle.std.specs.Prelude.{ℤ, List}
use Rattle.std.specs.Borrow.{MutBor}
use Rattle.actor_tree.specs.declared.actor.Actor.{Actor}
use Rattle.actor_tree.specs.declared.tree.SubtreeFall.{SubtreeFall}

-- the tree whose actors fall
abbrev pub tree_of : SubtreeFall → MutBor (List Actor)
tree_of f = f.tree

-- the actors that live
abbrev pub living : SubtreeFall → List Actor
living f = (tree_of f).now

-- the id whose subtree falls
abbrev pub root_of : SubtreeFall → ℤ
root_of f = f.id
