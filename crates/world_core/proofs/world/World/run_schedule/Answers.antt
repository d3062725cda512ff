use Rattle.std.proofs.Common.{drop, subst, sym}
use Rattle.world_core.proofs.WordLoop.{picks-stop, stands-so, word-goes_on, word-spent}
use Rattle.world_core.proofs.world.World.run_schedule.Goals as goal
use Rattle.world_core.specs.Turns.{PicksInPart}
use Rattle.world_core.specs.WorldView.{WorldView}

pub returns-in-Spent-clause-gives : goal.returns-in-Spent-clause-gives
returns-in-Spent-clause-gives c = (word-spent c.args.self.now c.loop-turn.self c.step.new.self c.args.word.now c.loop-turn.turn-index _ c.in-Spent.side c.loop-turn-test.true c.loop-turn.invariant c.in-Spent.ensures.gives).0

pub returns-in-Spent-clause-stands : goal.returns-in-Spent-clause-stands
returns-in-Spent-clause-stands c = (word-spent c.args.self.now c.loop-turn.self c.step.new.self c.args.word.now c.loop-turn.turn-index _ c.in-Spent.side c.loop-turn-test.true c.loop-turn.invariant c.in-Spent.ensures.gives).1

pub returns-in-NoMemory-clause-gives : goal.returns-in-NoMemory-clause-gives
returns-in-NoMemory-clause-gives c =
    subst (λ (w : WorldView). PicksInPart c.args.self.now.setting c.args.word.now c.args.self.now.state w.state) (sym c.in-NoMemory.ensures.gives)
    (picks-stop c.args.self.now c.loop-turn.self c.args.word.now (drop c.loop-turn.turn-index c.args.word.now) c.loop-turn.invariant)

pub loop-turn-preserved : goal.loop-turn-preserved
loop-turn-preserved c =
    word-goes_on c.args.self.now c.loop-turn.self c.step.new.self c.args.word.now c.loop-turn.turn-index _ c.step.result c.loop-turn-test.true c.loop-turn.invariant c.step.ensures.gives c.step.ensures.case c.step.ensures.laws c.in-Did.is

pub returns-clause-stands : goal.returns-clause-stands
returns-clause-stands c =
    stands-so c.loop-turn.self c.run_to_rest-answer.new.self c.run_to_rest-answer.result c.run_to_rest-answer.ensures.gives c.run_to_rest-answer.ensures.same c.run_to_rest-answer.ensures.spent c.run_to_rest-answer.ensures.case c.is_lawful-2.ensures.sound
