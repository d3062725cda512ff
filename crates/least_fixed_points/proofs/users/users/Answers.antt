use Rattle.std.proofs.Common.{subst}
use Rattle.std.proofs.lemmas.List.{take_all}
use Rattle.least_fixed_points.specs.declared.nodes.Node.{Node}
use Rattle.least_fixed_points.specs.Marking.{AddsUsers}
use Rattle.least_fixed_points.proofs.Rows.{AreUsersOf-none, AreUsersOf-more}
use Rattle.least_fixed_points.proofs.users.users.Goals as goal

pub loop-user-init : goal.loop-user-init
loop-user-init c = AreUsersOf-none _ _ c.in_ok-users.ensures.size c.in_ok-users.ensures.empty

pub loop-user-preserved : goal.loop-user-preserved
loop-user-preserved c =
    let Q : Node → Type 0 = λ n. AddsUsers n.parts.items c.loop-user.user c.loop-user.users.items c.add_users.new.users.items in
    AreUsersOf-more _ c.args.nodes.now c.loop-user.user c.index-nodes-user.result c.loop-user.users.items c.add_users.new.users.items c.loop-user-test.true c.loop-user.invariant
    (subst Q c.index-nodes-user.is (rw c.as_slice.ensures.value at c.in_ok-add_users.ensures))

pub returns : goal.returns
returns c = let all = rw (take_all c.loop-user.user c.args.nodes.now c.loop-user-test.false) at c.loop-user.invariant in record { size = all.size; exact = all.exact }
