use Rattle.std.proofs.Common.{subst, sym, arith, rules}
use Rattle.script_steps.specs.Progress.{Progress}
use Rattle.world_core.proofs.FeedStates.{may-be-given, place-within, read-break, read-room, read-taken}
use Rattle.world_core.specs.Feeding.{MayBeGiven}
use Rattle.world_core.specs.HalfView.{HalfView}
use Rattle.world_core.proofs.feeding.read_on.Goals as goal

pub split_at-requires : goal.split_at-requires
split_at-requires g c = place-within g.at.0 g.at.1 c.args.bytes.now c.args.half.now c.args.trace.now c.requires.0

pub deliver_frame-requires : goal.deliver_frame-requires
deliver_frame-requires g c = (
  subst (λ (p : Progress). MayBeGiven c.args.half.now p) (sym c.requires.1.0) (may-be-given g.at.0 g.at.1 c.args.bytes.now c.args.half.now c.args.trace.now c.requires.0 c.requires.1.1),
  search rules,
)

pub overflow_add-trace : goal.overflow_add-trace
overflow_add-trace g c =
    let room = read-room g.at.0 g.at.1 c.args.bytes.now c.args.half.now c.args.trace.now c.requires.0 g.at.2 c.split_at.result.1.now c.split_at.ensures.back c.in-Taken.size c.deliver_frame.new.half c.in-Taken.ensures in
    grind (arith, rules)

pub break_off-requires : goal.break_off-requires
break_off-requires g c =
    subst (λ (h : HalfView). MayBeGiven h g.at.2) (sym c.in-Refused.ensures.2)
    (subst (λ (p : Progress). MayBeGiven c.args.half.now p) (sym c.requires.1.0) (may-be-given g.at.0 g.at.1 c.args.bytes.now c.args.half.now c.args.trace.now c.requires.0 c.requires.1.1))

pub returns-in-Taken : goal.returns-in-Taken
returns-in-Taken g c =
    read-taken g.at.0 g.at.1 c.args.bytes.now c.args.half.now c.args.trace.now c.requires.0 g.at.2 c.split_at.result.1.now c.split_at.ensures.back c.requires.1.0 c.requires.1.1 c.in-Taken.size c.deliver_frame.new.half c.store.new.half c.store.new.trace c.in-Taken.ensures c.store.result c.store.ensures

pub returns-in-Refused : goal.returns-in-Refused
returns-in-Refused g c =
    read-break g.at.0 g.at.1 c.args.bytes.now c.args.half.now c.args.trace.now c.requires.0 g.at.2 c.split_at.result.1.now c.split_at.ensures.back c.requires.1.0 c.requires.1.1 c.in-Refused.fault c.deliver_frame.new.half c.in-Refused.ensures _ c.kept_fault-trace.ensures c.break_off.new.half c.break_off.new.trace c.break_off.result c.break_off.ensures
