use Rattle.ipdl_base.specs.declared.kinds.Side.TheVariants as sides
use Rattle.ordered_queue.specs.Passes.{view_of}
use Rattle.queue_link.proofs.Rounds.{begins-work, worked-so}
use Rattle.queue_link.proofs.workers.work_at_once.Goals as goal
use Rattle.world_core.specs.HalfView.{setting_of}

pub work_both-first-requires-clause-parent : goal.work_both-first-requires-clause-parent
work_both-first-requires-clause-parent g c κs within =
    let parted = c.side_passes-of_parent in
    let of_parent = parted.result.0 in
    let down = parted.ensures.down in
    let up = parted.ensures.up in
    let work =
    begins-work g.at sides.Parent c.args.parent.now c.requires.1.1.1.1.0 (view_of of_parent.pushing) (view_of of_parent.popping) (view_of c.args.to_child) (view_of c.args.to_parent) down.0.1 c.requires.1.1.0.1 up.1.1
    c.requires.1.1.1.0.1
    in
    ((down.0.0, work.0), (up.1.0, work.1), work.2)

pub work_both-first-requires-clause-child : goal.work_both-first-requires-clause-child
work_both-first-requires-clause-child g c κs within =
    let parted = c.side_passes-of_parent in
    let of_child = parted.result.1 in
    let down = parted.ensures.down in
    let up = parted.ensures.up in
    let work =
    begins-work g.at sides.Child c.args.child.now c.requires.1.1.1.1.1 (view_of of_child.pushing) (view_of of_child.popping) (view_of c.args.to_parent) (view_of c.args.to_child) up.0.1 c.requires.1.1.1.0.1 down.1.1
    c.requires.1.1.0.1
    in
    ((up.0.0, work.0), (down.1.0, work.1), work.2)

pub returns-clause-worked : goal.returns-clause-worked
returns-clause-worked g c =
    let worked = c.work_both-first in
    let passes = c.queue_passes-to_child in
    let of_parent = worked.new.of_parent in
    let of_child = worked.new.of_child in
    worked-so g.at worked.new.parent worked.new.child (setting_of c.args.parent.now) (setting_of c.args.child.now) c.requires.1.1.1.1.0.about c.requires.1.1.1.1.1.about
    (view_of passes.result.0) (view_of passes.result.1) (view_of of_parent.pushing) (view_of of_child.popping) (view_of of_child.pushing) (view_of of_parent.popping) passes.ensures.down.1 passes.ensures.up.1
    worked.result.0 worked.result.1 worked.ensures.parent.2 worked.ensures.child.2 c.of_both.result c.of_both.ensures
