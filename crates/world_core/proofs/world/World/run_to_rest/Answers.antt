use Rattle.std.proofs.Common.{◌-◌, [], subst, sym}
use Rattle.ipdl_base.specs.declared.kinds.Side.{Side}
use Rattle.schedules.specs.declared.turn.Turn.{Turn}
use Rattle.script_steps.specs.Turns.{Picks, at_limit}
use Rattle.world_core.proofs.RestLoop.{RestsSo, exceeds-spent, less-did, rests-did, rests-end, rests-idle, rests-spent}
use Rattle.world_core.proofs.world.World.run_to_rest.Goals as goal
use Rattle.world_core.specs.Turns.{IsSpent, PicksInPart, RestsInPart}
use Rattle.world_core.specs.Turns as part
use Rattle.world_core.specs.WorldView.{WorldView}

pub loop-left-smaller-in-Did : goal.loop-left-smaller-in-Did
loop-left-smaller-in-Did c = less-did c.loop-left.self c.step.new.self c.loop-left.left c.loop-left.invariant.case_is c.in-Did.ensures.gives.1 c.in-Did.ensures.gives.2

pub loop-left-preserved-in-Did : goal.loop-left-preserved-in-Did
loop-left-preserved-in-Did c =
    subst (λ (s : Side). RestsSo c.args.self.now c.step.new.self s 2) (sym c.other-side.ensures)
    (rests-did c.args.self.now c.loop-left.self c.step.new.self c.loop-left.side c.loop-left.left c.loop-left-test.true c.loop-left.invariant (rw c.whole-turn.ensures at c.in-Did.ensures.gives.0) c.in-Did.ensures.gives.1 c.in-Did.ensures.gives.2 c.in-Did.ensures.case c.in-Did.ensures.laws)

pub loop-left-preserved : goal.loop-left-preserved
loop-left-preserved c =
    subst (λ (s : Side). RestsSo c.args.self.now c.step.new.self s (c.loop-left.left - 1)) (sym c.other-side.ensures)
    (rests-idle c.args.self.now c.loop-left.self c.step.new.self c.loop-left.side c.loop-left.left c.loop-left-test.true c.loop-left.invariant (rw c.whole-turn.ensures at c.in-Nothing.ensures.gives.0) c.in-Nothing.ensures.gives.1)

pub returns-in-Spent-clause-gives : goal.returns-in-Spent-clause-gives
returns-in-Spent-clause-gives c =
    subst (λ (w : WorldView). Picks c.args.self.now.setting [] c.args.self.now.state w.state (at_limit c.in-Spent.at)) (sym c.in-Spent.ensures.gives.2)
    (subst (λ (s : Side). Picks c.args.self.now.setting [] c.args.self.now.state c.loop-left.self.state (at_limit s)) (sym c.in-Spent.ensures.gives.1)
    (subst (λ (t : Turn). Picks c.args.self.now.setting [] c.args.self.now.state c.loop-left.self.state (at_limit t.side)) (sym c.whole-turn.ensures)
    (rests-spent c.args.self.now c.loop-left.self c.loop-left.side c.loop-left.left c.loop-left-test.true c.loop-left.invariant (rw c.whole-turn.ensures at c.in-Spent.ensures.gives.0))))

pub returns-in-Spent-clause-spent : goal.returns-in-Spent-clause-spent
returns-in-Spent-clause-spent c =
    subst (λ (w : WorldView). IsSpent w c.in-Spent.at) (sym c.in-Spent.ensures.gives.2)
    (subst (λ (s : Side). IsSpent c.loop-left.self s) (sym c.in-Spent.ensures.gives.1) (exceeds-spent c.loop-left.self c.whole-turn.result c.in-Spent.ensures.gives.0))

pub returns-in-NoMemory-clause-gives : goal.returns-in-NoMemory-clause-gives
returns-in-NoMemory-clause-gives c =
    subst (λ (w : WorldView). PicksInPart c.args.self.now.setting [] c.args.self.now.state w.state) (sym c.in-NoMemory.ensures.gives)
    (part.word_ends c.args.self.now.state c.loop-left.self.state (c.loop-left.invariant.in_part c.loop-left.self.state (part.stops c.loop-left.side c.loop-left.left c.loop-left.self.state)))

pub returns-clause-gives : goal.returns-clause-gives
returns-clause-gives c = rests-end c.args.self.now c.loop-left.self c.loop-left.side c.loop-left.left c.loop-left-test.false c.loop-left.invariant
