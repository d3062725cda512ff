use Rattle.std.proofs.Common.{take}
use Rattle.std.proofs.lemmas.List.{get_or_default, take_more, take_all}
use Rattle.least_fixed_points.proofs.Growth.{Visits-none, Visits-then}
use Rattle.least_fixed_points.proofs.marking.visit_all.Goals as goal

pub loop-user-init : goal.loop-user-init
loop-user-init c = Visits-none c.args.nodes.now c.args.marks.now.items c.args.work.now.items c.args.seen.now.items c.requires.knows

pub visit-requires-clause-knows : goal.visit-requires-clause-knows
visit-requires-clause-knows c = c.loop-user.invariant.knows

pub visit-requires-clause-reason : goal.visit-requires-clause-reason
visit-requires-clause-reason c = c.requires.reason _ (c.loop-user.user-index, c.loop-user-test.true, get_or_default c.args.users.now c.loop-user.user-index _ 0 c.loop-user-test.true)

pub loop-user-preserved : goal.loop-user-preserved
loop-user-preserved c =
    rw (take_more c.args.users.now c.loop-user.user-index 0 c.loop-user-test.true)
    (Visits-then c.args.nodes.now (take c.loop-user.user-index c.args.users.now) _ _ _ _ _ _ _ _ _ c.loop-user.invariant c.in_ok-visit.ensures)

pub returns : goal.returns
returns c = rw (take_all c.loop-user.user-index c.args.users.now c.loop-user-test.false) at c.loop-user.invariant
