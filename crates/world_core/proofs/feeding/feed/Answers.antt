use Rattle.std.proofs.Common.{None, refl, subst}
use Rattle.world_core.specs.Feeding.{HasEnded, state_in}
use Rattle.world_core.specs.HalfView.{HalfView, setting_of}
use Rattle.world_core.proofs.FeedStates.{feed-opens}
use Rattle.world_core.proofs.feeding.feed.Goals as goal

pub do_turns-requires : goal.do_turns-requires
do_turns-requires c =
    feed-opens c.args.schema.now c.args.script.now c.args.side c.args.limit c.args.bytes.now c.in_ok-half.half c.in_ok-half.ensures.made (record { history = c.new.result; place = 0; fault = None }) c.requires.sound
    c.requires.valid c.requires.small c.are_bytes.ensures c.in_ok-half.ensures.counted c.new.ensures refl refl

pub returns : goal.returns
returns c =
    let ended = c.in_ok-spent.ensures in
    let here = subst (λ (h : HalfView). HasEnded (setting_of h) h.end.end.side c.args.bytes.now c.in_ok-spent.spent c.do_turns.new.half c.do_turns.new.trace) c.in_ok-half.ensures.made ended in
    record { packets = here.passed.delivered; feed = record { last = state_in c.do_turns.new.half c.do_turns.new.trace here.passed; feeds = here.feeds; lines_are = refl; packets_are = refl; fault_is = refl } }
