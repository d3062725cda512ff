use Rattle.std.proofs.Common.{arith, length, refl, ◌<◌}
use Rattle.std.proofs.lemmas.Option.{slice_get_read}
use Rattle.least_fixed_points.proofs.Rows.{AddsUser-push, AddsUser-none}
use Rattle.least_fixed_points.proofs.users.add_user.Goals as goal

pub returns-in_ok-push : goal.returns-in_ok-push
returns-in_ok-push c =
    let rows = c.args.users.now.items in
    let below : c.args.part < length rows = omega (arith, c.if-part-len.true, c.len.ensures, c.args.users.now.ok.0) in
    AddsUser-push c.args.part c.args.user rows c.index_mut.result.now c.push.new.self below (slice_get_read rows (length rows) c.args.part c.index_mut.result.now refl below c.index_mut.ensures.value) c.in_ok-push.ensures.items

pub returns-else-part-len : goal.returns-else-part-len
returns-else-part-len c = AddsUser-none _ _ _ (omega (arith, c.if-part-len.false, c.len.ensures, c.args.users.now.ok.0))
