use Rattle.std.proofs.Common.{◌≡◌, sym, subst}
use Rattle.ipdl_base.specs.Plain.{plain_message}
use Rattle.value_types.specs.Fits.{Fits}
use Rattle.value_types.proofs.Boxes.{fits}
use Rattle.channel_model.proofs.FittingRequests.{promised-fault}
use Rattle.end_steps.specs.Renamings.{destroyed_message}
use Rattle.end_parts.specs.Replies.{answered_of}
use Rattle.end_steps.proofs.RenamingLemmas.{request-small}
use Rattle.end_steps.proofs.renaming.destroyed_reply.Goals as goal

pub reply_to-message-requires : goal.reply_to-message-requires
reply_to-message-requires c = request-small c.args.schema.now c.args.request.now.number c.requires.fits.0 c.requires.sound c.requires.fits.1.found

pub frame_of-requires-clause-fits : goal.frame_of-requires-clause-fits
frame_of-requires-clause-fits c =
    let schema = c.args.schema.now in
    let m = c.reply_to-message.result in
    let is : plain_message m ≡ destroyed_message (answered_of c.args.request.now) = c.reply_to-message.ensures in
    (fits schema m).0 (subst (Fits schema) (sym is) (promised-fault schema c.requires.sound (answered_of c.args.request.now) c.requires.fits))
