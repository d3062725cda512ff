use Rattle.std.proofs.Common.{◌-◌, subst, sym}
use Rattle.ipdl_base.specs.declared.kinds.Side.{Side}
use Rattle.world_core.proofs.RelayLoop.{LoopsInEach, loops-apart, loops-did, loops-end, loops-fewer, loops-idle, loops-less, loops-spent}
use Rattle.world_core.proofs.relay.take_turns.Goals as goal

pub side_turn-requires : goal.side_turn-requires
side_turn-requires c = loops-apart c.args.parent.now c.args.child.now c.loop-left.parent c.loop-left.child c.loop-left.side c.loop-left.left c.requires c.loop-left.invariant

pub loop-left-smaller-in-Did : goal.loop-left-smaller-in-Did
loop-left-smaller-in-Did c =
    loops-less c.args.parent.now c.args.child.now c.loop-left.parent c.loop-left.child c.side_turn.new.parent c.side_turn.new.child c.loop-left.side c.loop-left.left c.loop-left-test.true c.loop-left.invariant c.requires c.in-Did.ensures

pub loop-left-preserved-in-Did : goal.loop-left-preserved-in-Did
loop-left-preserved-in-Did c =
    subst (λ (s : Side). LoopsInEach c.args.parent.now c.args.child.now s 2 c.side_turn.new.parent c.side_turn.new.child) (sym c.other-side.ensures)
    (loops-did c.args.parent.now c.args.child.now c.loop-left.parent c.loop-left.child c.side_turn.new.parent c.side_turn.new.child c.loop-left.side c.loop-left.left c.loop-left-test.true c.loop-left.invariant c.in-Did.ensures)

pub loop-left-smaller : goal.loop-left-smaller
loop-left-smaller c =
    loops-fewer c.args.parent.now c.args.child.now c.loop-left.parent c.loop-left.child c.side_turn.new.parent c.side_turn.new.child c.loop-left.side c.loop-left.left c.loop-left-test.true c.loop-left.invariant c.requires c.in-Nothing.ensures

pub loop-left-preserved : goal.loop-left-preserved
loop-left-preserved c =
    subst (λ (s : Side). LoopsInEach c.args.parent.now c.args.child.now s (c.loop-left.left - 1) c.side_turn.new.parent c.side_turn.new.child) (sym c.other-side.ensures)
    (loops-idle c.args.parent.now c.args.child.now c.loop-left.parent c.loop-left.child c.side_turn.new.parent c.side_turn.new.child c.loop-left.side c.loop-left.left c.loop-left-test.true c.loop-left.invariant c.in-Nothing.ensures)

pub returns-in-Spent : goal.returns-in-Spent
returns-in-Spent c =
    loops-spent c.args.parent.now c.args.child.now c.loop-left.parent c.loop-left.child c.side_turn.new.parent c.side_turn.new.child c.loop-left.side c.loop-left.left c.loop-left-test.true c.loop-left.invariant c.in-Spent.at c.in-Spent.ensures

pub returns : goal.returns
returns c = loops-end c.args.parent.now c.args.child.now c.loop-left.parent c.loop-left.child c.loop-left.side c.loop-left.left c.loop-left-test.false c.loop-left.invariant
