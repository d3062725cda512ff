use Rattle.std.proofs.lemmas.List.{take_all}
use Rattle.least_fixed_points.proofs.Rows.{AddsUsers-none, AddsUsers-more}
use Rattle.least_fixed_points.proofs.users.add_users.Goals as goal

pub loop-part-init : goal.loop-part-init
loop-part-init c = AddsUsers-none c.args.user c.args.users.now.items

pub loop-part-preserved : goal.loop-part-preserved
loop-part-preserved c = AddsUsers-more c.args.parts.now c.loop-part.part-index _ c.args.user _ _ _ c.loop-part-test.true c.loop-part.invariant c.in_ok-add_user.ensures

pub returns : goal.returns
returns c = rw (take_all c.loop-part.part-index c.args.parts.now c.loop-part-test.false) at c.loop-part.invariant
