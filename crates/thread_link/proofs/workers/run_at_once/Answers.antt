use Rattle.std.proofs.Common.{◌∙◌}
use Rattle.thread_link.proofs.HalfMeetings.{grows-on}
use Rattle.thread_link.proofs.Together.{GoesOn, goes-on, runs-at-once}
use Rattle.thread_link.proofs.workers.run_at_once.Goals as goal
use Rattle.world_core.proofs.SplitHalves.{split-own}
use Rattle.world_core.specs.HalfView.{setting_of}

pub work_apart-link-requires : goal.work_apart-link-requires
work_apart-link-requires g c = (c.type_bounds.sync-R, split-own c.args.world.setting c.split-parent.result.0 c.split-parent.result.1 c.split-parent.result.2 c.split-parent.ensures.apart)

pub join-world-requires : goal.join-world-requires
join-world-requires g c = split-own (setting_of c.split-parent.result.0) c.work_apart-link.new.parent c.work_apart-link.new.child c.work_apart-link.result.0 c.work_apart-link.ensures.split

pub returns-clause-gives : goal.returns-clause-gives
returns-clause-gives g c =
    let on : GoesOn c.args.world c.join-world.result =
    goes-on c.args.world c.join-world.result c.split-parent.result.0 c.split-parent.result.1 c.work_apart-link.new.parent c.work_apart-link.new.child c.split-parent.result.2 c.work_apart-link.result.0 c.split-parent.ensures.apart c.split-parent.ensures.same c.work_apart-link.ensures.split c.work_apart-link.ensures.grows
    c.join-world.ensures in
    runs-at-once c.args.world c.join-world.result c.end_run-answer.new.world c.end_run-answer.result on c.end_run-answer.ensures.history c.end_run-answer.ensures.gives

pub returns-clause-same : goal.returns-clause-same
returns-clause-same g c =
    let on : GoesOn c.args.world c.join-world.result =
    goes-on c.args.world c.join-world.result c.split-parent.result.0 c.split-parent.result.1 c.work_apart-link.new.parent c.work_apart-link.new.child c.split-parent.result.2 c.work_apart-link.result.0 c.split-parent.ensures.apart c.split-parent.ensures.same c.work_apart-link.ensures.split c.work_apart-link.ensures.grows
    c.join-world.ensures in
    c.end_run-answer.ensures.same ∙ on.same

pub returns-clause-grows : goal.returns-clause-grows
returns-clause-grows g c =
    let on : GoesOn c.args.world c.join-world.result =
    goes-on c.args.world c.join-world.result c.split-parent.result.0 c.split-parent.result.1 c.work_apart-link.new.parent c.work_apart-link.new.child c.split-parent.result.2 c.work_apart-link.result.0 c.split-parent.ensures.apart c.split-parent.ensures.same c.work_apart-link.ensures.split c.work_apart-link.ensures.grows
    c.join-world.ensures in
    grows-on c.args.world.state.lines c.join-world.result.state.lines c.end_run-answer.new.world.state.lines on.grows c.end_run-answer.ensures.grows
