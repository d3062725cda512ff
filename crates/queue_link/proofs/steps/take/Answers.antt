use Rattle.std.proofs.Common.{◌∙◌, rules, refl, sym, ap}
use Rattle.ordered_queue.specs.Passes.{view_of}
use Rattle.queue_link.specs.Work.{PacketView}
use Rattle.queue_link.proofs.Hands.{empty-resting, shut-resting, take-step}
use Rattle.queue_link.proofs.steps.take.Goals as goal

pub returns-then-not-is_open-clause-gives : goal.returns-then-not-is_open-clause-gives
returns-then-not-is_open-clause-gives g c = (
  refl,
  refl,
  shut-resting g.at.0 g.at.1 (view_of c.args.pushing.now).pushed (view_of c.args.popping.now).popped c.args.half.now c.args.half.now (view_of c.args.popping.now) c.requires.1.1.1 c.is_open.result c.is_open.ensures c.if-not-is_open.true,
)

pub returns-in-None-clause-gives : goal.returns-in-None-clause-gives
returns-in-None-clause-gives g c = (
  refl,
  c.in-None.ensures.none,
  empty-resting g.at.0 g.at.1 (view_of c.args.pushing.now).pushed c.args.half.now (view_of c.args.popping.now) (view_of c.pop.new.pass) c.in-None.ensures.none c.in-None.ensures.empty c.requires.1.1.1,
)

pub deliver-requires : goal.deliver-requires
deliver-requires g c κs within =
    let before = (view_of c.args.popping.now).popped in
    (search rules, (c.requires.1.0, ((before, ap (λ (v : PacketView). v.popped) c.in-Some.ensures.some, c.requires.1.1.1), sym c.is_open.ensures ∙ c.if-not-is_open.false)))

pub returns-in-Some-clause-gives : goal.returns-in-Some-clause-gives
returns-in-Some-clause-gives g c =
    take-step g.at.0 g.at.1 (view_of c.args.pushing.now) (view_of c.args.popping.now) (view_of c.deliver.new.pushing) (view_of c.pop.new.pass) c.deliver.new.half c.deliver.result c.deliver.ensures.gives
