use Rattle.std.proofs.Common.{◌≤◌, length, arith, subst}
use Rattle.ipdl_base.specs.declared.schema.Schema.{Schema}
use Rattle.ipdl_base.specs.Plain.{plain_message}
use Rattle.value_types.specs.declared.layout.TheConstants.{NEW}
use Rattle.value_types.specs.Fits.{Fits}
use Rattle.frame_list.proofs.Offsets.{fault_within}
use Rattle.world_core.proofs.FeedFrames.{frame-fits}
use Rattle.world_core.proofs.feeding.deliver_frame.Goals as goal

pub deliver_message-requires : goal.deliver_message-requires
deliver_message-requires g c =
    let frame = frame-fits c.schema.result.now c.args.left.now (plain_message c.in-Frame.message) c.in-Frame.size c.in-Frame.ensures.told in
    let long = frame.0 in
    let within = frame.1 in
    let room = c.requires.1 in
    (c.requires.0, (subst (λ (schema : Schema). Fits schema c.in-Frame.message) c.schema.ensures c.in-Frame.ensures.fits, omega (arith, long, within, room)))

pub overflow_add-result : goal.overflow_add-result
overflow_add-result g c =
    let within : c.in-Bad.offset ≤ length c.args.left.now = fault_within NEW c.schema.result.now c.args.left.now c.in-Bad.offset c.in-Bad.rule c.in-Bad.ensures.told in
    let room = c.requires.1 in
    omega arith
