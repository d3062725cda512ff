use Rattle.std.proofs.Common.{arith, ◌≤◌, length}
use Rattle.frame_list.specs.Frames.{layout_at}
use Rattle.frame_list.proofs.Offsets.{fault_within}
use Rattle.frame_list.proofs.list.found_at.Goals as goal

pub overflow_add-result : goal.overflow_add-result
overflow_add-result c =
    let within : c.in-Bad.within ≤ length c.args.bytes.now = fault_within (layout_at c.args.bytes.now) c.args.schema.now c.args.bytes.now c.in-Bad.within c.in-Bad.number c.in-Bad.ensures in
    let room = c.requires.within in
    omega arith
