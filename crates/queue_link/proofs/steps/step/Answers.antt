use Rattle.ordered_queue.specs.Passes.{view_of}
use Rattle.queue_link.proofs.Hands.{done-take, own-step, take-step}
use Rattle.queue_link.proofs.steps.step.Goals as goal

pub returns-in-Did-clause-gives : goal.returns-in-Did-clause-gives
returns-in-Did-clause-gives g c =
    take-step g.at.0 g.at.1 (view_of c.args.pushing.now) (view_of c.args.popping.now) (view_of c.hand_over.new.pushing) (view_of c.args.popping.now) c.hand_over.new.half c.done.result
    (done-take g.at.0 g.at.1 (view_of c.hand_over.new.pushing).pushed (view_of c.args.popping.now).popped c.hand_over.new.half c.hand_over.result c.done.result c.done.ensures c.hand_over.ensures.work)

pub returns-in_default-clause-gives : goal.returns-in_default-clause-gives
returns-in_default-clause-gives g c =
    own-step g.at.0 g.at.1 (view_of c.args.pushing.now) (view_of c.args.popping.now) c.go_on.new.half c.go_on.result c.in_default.not-Did c.in_default.not-Nothing
    (c.go_on.ensures (view_of c.args.pushing.now).pushed (view_of c.args.popping.now).popped c.requires.1.1.1)
