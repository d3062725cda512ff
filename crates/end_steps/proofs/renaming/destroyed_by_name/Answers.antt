use Rattle.std.proofs.Common.{◌≡◌, Some, sym, option_and_then}
use Rattle.channel_model.specs.Names.{held_by_name}
use Rattle.end_parts.specs.Replies.{answered_by, answered_of}
use Rattle.end_steps.proofs.RenamingLemmas.{held-promised}
use Rattle.end_steps.proofs.renaming.destroyed_by_name.Goals as goal

pub destroyed_reply-requires-clause-fits : goal.destroyed_reply-requires-clause-fits
destroyed_reply-requires-clause-fits c =
    let names = c.args.names.now.names in
    let held : option_and_then answered_by (held_by_name c.args.name.now names) ≡ Some (answered_of c.in-Some.request) = sym c.in-Some.ensures in
    held-promised c.args.schema.now c.args.name.now names (answered_of c.in-Some.request) c.requires.fits held
