use Rattle.std.proofs.Common.{◌≡◌, length}
use Rattle.actor_tree.specs.SubtreeFall.{living, root_of, tree_of}
use Rattle.end_steps.specs.Falls.{destroy_by}
use Rattle.end_steps.proofs.FallLemmas.{IsFalling}
use Rattle.end_steps.proofs.closing.destroy_subtree.Given as goal

abbrev pub invariant-loop-actor : goal.invariant-loop-actor
invariant-loop-actor l = record {
  same_tree : (tree_of l.falling).ghost_name ≡ (tree_of l.initial.falling).ghost_name;
  same_root : root_of l.falling ≡ root_of l.initial.falling;
  so_far : IsFalling l.side (root_of l.falling) (destroy_by l.cause) (living l.initial.falling) l.initial.promises l.initial.out (living l.falling) l.promises l.out;
}

abbrev pub decreases-loop-actor : goal.decreases-loop-actor
decreases-loop-actor l = length (living l.falling)
