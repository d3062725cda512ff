use Rattle.std.proofs.Common.{◌≡◌, List, ◌++◌, length}
use Rattle.actor_tree.specs.declared.actor.Actor.{Actor}
use Rattle.actor_tree.specs.Fall.{Falls, post_order}
use Rattle.actor_tree.specs.SubtreeFall.{living, root_of, tree_of}
use Rattle.part_tests.proofs.actors.fall_all.Given as goal

abbrev pub invariant-loop-actor : goal.invariant-loop-actor
invariant-loop-actor l = record {
  same_tree : (tree_of l.falling).ghost_name ≡ (tree_of l.initial.falling).ghost_name;
  same_root : root_of l.falling ≡ root_of l.initial.falling;
  so_far : (given left : List Actor) → Falls (root_of l.falling) (living l.falling) given left → Falls (root_of l.falling) (living l.initial.falling) (l.fallen.items ++ given) left;
}

abbrev pub decreases-loop-actor : goal.decreases-loop-actor
decreases-loop-actor l = length (post_order (root_of l.falling) (living l.falling))
