use Rattle.std.proofs.Common.{◌∙◌, ap, drop}
use Rattle.ipdl_base.specs.declared.kinds.Side.{Side}
use Rattle.world_core.proofs.Delivering.{delivery-plays, delivery-room}
use Rattle.world_core.proofs.side_turns.deliver_first.Goals as goal
use Rattle.world_core.specs.LinkView.{packets_to, with_packets_to}

pub append-requires : goal.append-requires
append-requires g c =
    let link = c.args.link.now in
    let dropped = c.drop_first.ensures ∙ ap (λ (s : Side). with_packets_to s (drop 1 (packets_to s link)) link) c.requires.1.0 in
    delivery-room g.at.0 g.at.1 c.args.half.now link c.requires.0 c.requires.1.1 c.hand_over.new.half c.in-Did.ensures c.drop_first.new.self dropped

pub returns-in-Did : goal.returns-in-Did
returns-in-Did g c =
    let link = c.args.link.now in
    let dropped = c.drop_first.ensures ∙ ap (λ (s : Side). with_packets_to s (drop 1 (packets_to s link)) link) c.requires.1.0 in
    delivery-plays g.at.0 g.at.1 c.args.half.now link c.requires.0 c.requires.1.1 c.hand_over.new.half c.in-Did.ensures c.drop_first.new.self dropped c.append.new.self c.append.new.link c.append.ensures.half c.append.ensures.link
