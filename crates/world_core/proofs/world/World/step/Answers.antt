use Rattle.script_steps.specs.Choices.{Setting}
use Rattle.world_core.proofs.WorldTurns.{child-steps, gives-so, parent-steps}
use Rattle.world_core.proofs.world.World.step.Goals as goal
use Rattle.world_core.proofs.world.World.step.Goals.{in-Child, in-Parent}
use Rattle.world_core.specs.WorldView.{seen_by}

pub invariant_of-self : goal.invariant_of-self
invariant_of-self c =
    let w = c.self.inside in
    let setting : Setting = record { schema = w.schema.now; script = w.script.now; stop = w.stop; limit = w.limit } in
    (parent-steps setting c.args.turn w.parent w.child c.turn_of-answer.new.half w.link c.turn_of-answer.new.link c.self.invariant c.turn_of-answer.result c.in-Parent.is c.turn_of-answer.ensures).is

pub invariant_of-self-in-Child : goal.invariant_of-self-in-Child
invariant_of-self-in-Child c =
    let w = c.self.inside in
    let setting : Setting = record { schema = w.schema.now; script = w.script.now; stop = w.stop; limit = w.limit } in
    (child-steps setting c.args.turn w.parent w.child c.turn_of-answer-in-Child.new.half w.link c.turn_of-answer-in-Child.new.link c.self.invariant c.turn_of-answer-in-Child.result c.in-Child.is c.turn_of-answer-in-Child.ensures).is

pub returns-clause-gives : goal.returns-clause-gives
returns-clause-gives c =
    let w = c.self.inside in
    let setting : Setting = record { schema = w.schema.now; script = w.script.now; stop = w.stop; limit = w.limit } in
    elim c.match-turn.branch [
      | in-Parent b ↦
          gives-so c.args.turn (seen_by setting w.link) c.args.self.now (seen_by setting b.turn_of-answer.new.link) c.match-turn.self b.turn_of-answer.result c.match-turn.answer c.self.view_is b.self-is b.answer-is
          (parent-steps setting c.args.turn w.parent w.child b.turn_of-answer.new.half w.link b.turn_of-answer.new.link c.self.invariant b.turn_of-answer.result b.in-Parent.is b.turn_of-answer.ensures).gives
      | in-Child b ↦
          gives-so c.args.turn (seen_by setting w.link) c.args.self.now (seen_by setting b.turn_of-answer-in-Child.new.link) c.match-turn.self b.turn_of-answer-in-Child.result c.match-turn.answer c.self.view_is b.self-is b.answer-is
          (child-steps setting c.args.turn w.parent w.child b.turn_of-answer-in-Child.new.half w.link b.turn_of-answer-in-Child.new.link c.self.invariant b.turn_of-answer-in-Child.result b.in-Child.is b.turn_of-answer-in-Child.ensures).gives
    ]
