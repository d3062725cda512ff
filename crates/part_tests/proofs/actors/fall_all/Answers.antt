use Rattle.std.proofs.Common.{[], append-nil, rules}
use Rattle.actor_tree.specs.Tree.{IsTree}
use Rattle.actor_tree.specs.Fall.{Falls}
use Rattle.actor_tree.specs.SubtreeFall.{living}
use Rattle.part_tests.proofs.actors.fall_all.Goals as goal

pub returns : goal.returns
returns c =
    let left = living c.next.new.self in
    let given = c.loop-actor.fallen.items in
    let h = rw (append-nil given) at (c.loop-actor.invariant.so_far [] left c.in_default.ensures.next) in
    let tree : IsTree c.args.tree.now = search rules in
    let whole : Falls c.args.id c.args.tree.now given left = search (rules, h) in
    let law = (c.gives_subtree.ensures c.args.id c.args.tree.now given left tree).0 whole in
    record { given = law.0; left = search (rules, law.1) }
