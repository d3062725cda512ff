use Rattle.std.proofs.Common.{◌≡◌, ◌+◌, ◌≤◌, ℤ, List, [], length, Some, None, ◌∙◌, sym, ap, subst, rules}
use Rattle.std.proofs.lemmas.Int.{to_z-of_z}
use mir.Val.{SFits}
use mir.Syntax.{w32}
use Rattle.actor_tree.specs.declared.actor.Actor.{Actor}
use Rattle.actor_tree.specs.Fall.{IsNext, post_order}
use Rattle.actor_tree.specs.SubtreeFall.{living, root_of}
use Rattle.ipdl_base.specs.declared.line.What.TheVariants as what
use Rattle.channel_model.specs.Outputs.{line_at}
use Rattle.end_steps.specs.Falls.{destroy_by, HasFallen}
use Rattle.end_parts.specs.PromiseRequests.{pending_in}
use Rattle.end_parts.specs.OutputView.{with_line}
use Rattle.end_steps.proofs.FallLemmas.{FallsNext, is_shorter, IsFalling, falling_goes_on, falling_ends}
use Rattle.end_steps.proofs.closing.destroy_subtree.Goals as goal

-- a call of `next` that gave somebody
next_of : (id : ℤ) (actors after : List Actor) (a : Actor) → IsNext id actors (Some a) after → FallsNext id actors a after
next_of id actors after a h = record { next = h.next; left = h.left }

pub loop-actor-smaller : goal.loop-actor-smaller
loop-actor-smaller c =
    let falls : FallsNext (root_of c.loop-actor.falling) (living c.loop-actor.falling) c.in-Some.actor (living c.next.new.self) =
    next_of (root_of c.loop-actor.falling) (living c.loop-actor.falling) (living c.next.new.self) c.in-Some.actor (subst (λ found. IsNext (root_of c.loop-actor.falling) (living c.loop-actor.falling) found (living c.next.new.self)) c.in-Some.is c.next.ensures.next) in
    is_shorter (root_of c.loop-actor.falling) (living c.loop-actor.falling) c.in-Some.actor (living c.next.new.self) falls

pub loop-actor-preserved : goal.loop-actor-preserved
loop-actor-preserved c =
    let root = root_of c.loop-actor.falling in
    let now = living c.loop-actor.falling in
    let after = living c.next.new.self in
    let a = c.in-Some.actor in
    let falls : FallsNext root now a after = next_of root now after a (subst (λ found. IsNext root now found after) c.in-Some.is c.next.ensures.next) in
    let fits : SFits w32 a.id = search rules in
    let plainly : c.push_line.new.self ≡ with_line c.reject_all_of.new.out (line_at c.args.side (what.Fall a.id c.destroy_by-destroy.result)) = simp (to_z-of_z, fits) at c.push_line.ensures in
    let says : c.push_line.new.self ≡ with_line c.reject_all_of.new.out (line_at c.args.side (what.Fall a.id (destroy_by c.args.cause a.id))) =
    plainly ∙ ap (λ d. with_line c.reject_all_of.new.out (line_at c.args.side (what.Fall a.id d))) c.destroy_by-destroy.ensures in
    let start = living c.fall-falling.result in
    let same_actors : start ≡ c.args.tree.now = c.fall-falling.ensures.same_actors in
    let enough : length start + pending_in c.args.promises.now ≤ c.args.out.now.line_spare = rw same_actors c.requires in
    let so_far : IsFalling c.args.side root (destroy_by c.args.cause) start c.args.promises.now c.args.out.now after c.reject_all_of.new.promises c.push_line.new.self =
    falling_goes_on c.args.side root (destroy_by c.args.cause) start c.args.promises.now c.args.out.now now c.loop-actor.promises c.loop-actor.out a after c.reject_all_of.new.promises c.reject_all_of.new.out c.push_line.new.self
    enough c.loop-actor.invariant.so_far falls c.reject_all_of.ensures says in
    record {
      same_tree = c.next.ensures.same_tree ∙ c.loop-actor.invariant.same_tree;
      same_root = c.next.ensures.same_root ∙ c.loop-actor.invariant.same_root;
      so_far = subst (λ (z : ℤ). IsFalling c.args.side z (destroy_by c.args.cause) start c.args.promises.now c.args.out.now after c.reject_all_of.new.promises c.push_line.new.self) (sym c.next.ensures.same_root) so_far;
    }

-- a call of `next` that gave nobody
over_of : (id : ℤ) (actors after : List Actor) → IsNext id actors None after → (post_order id actors ≡ []) × (after ≡ actors)
over_of id actors after h = (h.next, h.left)

pub returns : goal.returns
returns c =
    let root = root_of c.loop-actor.falling in
    let now = living c.loop-actor.falling in
    let after = living c.next.new.self in
    let start = living c.fall-falling.result in
    let over = over_of root now after (subst (λ found. IsNext root now found after) c.in_default.is c.next.ensures.next) in
    let fits : SFits w32 c.args.id = search rules in
    let root_is : root ≡ c.args.id = c.loop-actor.invariant.same_root ∙ c.fall-falling.ensures.root ∙ to_z-of_z w32 c.args.id fits in
    let fell : HasFallen c.args.side root (destroy_by c.args.cause) start c.args.promises.now c.args.out.now now c.loop-actor.promises c.loop-actor.out =
    falling_ends c.args.side root (destroy_by c.args.cause) start c.args.promises.now c.args.out.now now c.loop-actor.promises c.loop-actor.out c.loop-actor.invariant.so_far over.0 in
    let fell_there : HasFallen c.args.side c.args.id (destroy_by c.args.cause) c.args.tree.now c.args.promises.now c.args.out.now after c.loop-actor.promises c.loop-actor.out =
    subst (λ (t : List Actor). HasFallen c.args.side c.args.id (destroy_by c.args.cause) c.args.tree.now c.args.promises.now c.args.out.now t c.loop-actor.promises c.loop-actor.out) (sym over.1)
    (subst (λ (t : List Actor). HasFallen c.args.side c.args.id (destroy_by c.args.cause) t c.args.promises.now c.args.out.now now c.loop-actor.promises c.loop-actor.out) c.fall-falling.ensures.same_actors
    (subst (λ (z : ℤ). HasFallen c.args.side z (destroy_by c.args.cause) start c.args.promises.now c.args.out.now now c.loop-actor.promises c.loop-actor.out) root_is fell)) in
    let there : after ≡ c.tree-1.given.0 = search rules in
    subst (λ (t : List Actor). HasFallen c.args.side c.args.id (destroy_by c.args.cause) c.args.tree.now c.args.promises.now c.args.out.now t c.loop-actor.promises c.loop-actor.out) there fell_there
