use Rattle.std.proofs.Common.{◌≡◌, subst}
use Rattle.std.proofs.lemmas.List.{take_all}
use Rattle.least_fixed_points.specs.declared.nodes.Need.TheVariants.{All, One}
use Rattle.least_fixed_points.specs.declared.nodes.Node.{Node}
use Rattle.least_fixed_points.proofs.Working.{AreStarters-none, AreStarters-more, AreStarters-other}
use Rattle.least_fixed_points.proofs.nodes.starters.Goals as goal
use Rattle.least_fixed_points.proofs.nodes.starters.Goals.{in-All+in_ok-push-in-All, in-One}

pub loop-number-init : goal.loop-number-init
loop-number-init c = rw c.new-starters.ensures.items AreStarters-none

pub loop-number-preserved : goal.loop-number-preserved
loop-number-preserved c =
    let nodes = c.args.nodes.now in
    let i = c.loop-number.number in
    let node = c.index-nodes-number.result in
    elim c.match-node.branch [
      | in-All+in_ok-push-in-All w ↦
          rw (w.starters-is, w.in_ok-push-in-All.ensures.items)
          (AreStarters-more nodes i node c.loop-number.starters.items c.loop-number-test.true (let P : Node → Type 0 = λ n. n.need ≡ All in subst P c.index-nodes-number.is w.in-All.is) c.loop-number.invariant)
      | in-One w ↦
          rw w.starters-is
          (AreStarters-other nodes i node c.loop-number.starters.items c.loop-number-test.true
          (λ h. let P : Node → Type 0 = λ n. n.need ≡ One in let one = subst P c.index-nodes-number.is w.in-One.is in let no_need : ⊥ = cc in no_need) c.loop-number.invariant)
    ]

pub returns : goal.returns
returns c = (rw (take_all c.loop-number.number c.args.nodes.now c.loop-number-test.false) at c.loop-number.invariant).exact
