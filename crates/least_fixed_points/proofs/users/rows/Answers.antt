use Rattle.std.proofs.Common.{arith, refl, length-append, ◌∷◌, []}
use Rattle.least_fixed_points.proofs.Rows.{no_user, no_user-push}
use Rattle.least_fixed_points.proofs.users.rows.Goals as goal

pub loop-init : goal.loop-init
loop-init c = record { size = rw c.in_ok-rows.ensures.items refl; empty = rw c.in_ok-rows.ensures.items no_user }

pub loop-preserved : goal.loop-preserved
loop-preserved c =
    let more = c.in_ok-push.ensures.items in
    record {
      size = rw more (omega (arith, length-append c.loop.rows.items (c.new.result ∷ []), c.loop.invariant.size));
      empty = rw more (no_user-push c.loop.rows.items c.new.result c.new.ensures.items c.loop.invariant.empty);
    }

pub returns-clause-size : goal.returns-clause-size
returns-clause-size c = omega (arith, c.loop.invariant.size, c.loop-test.false, c.loop.auto.counter-end)

pub returns-clause-empty : goal.returns-clause-empty
returns-clause-empty c = c.loop.invariant.empty
