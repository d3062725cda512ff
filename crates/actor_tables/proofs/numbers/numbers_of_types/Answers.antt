use Rattle.std.proofs.Common.{false}
use Rattle.actor_tables.proofs.TypeNumbers.{gives_more, gives_all}
use Rattle.actor_tables.proofs.numbers.numbers_of_types.Goals as goal

pub loop-place-preserved : goal.loop-place-preserved
loop-place-preserved c =
    gives_more c.args.ids.now c.loop-place.numbers c.insert.new.self c.loop-place.place c.in-Ok.number (record { file = 0; is_union = false; index = 0 }) c.loop-place-test.true c.in-Ok.ensures.1 c.in_ok-insert.ensures.updates.0 c.loop-place.invariant

pub returns : goal.returns
returns c = gives_all c.args.ids.now c.loop-place.numbers c.loop-place.place c.loop-place-test.false c.loop-place.invariant
