use Rattle.world_core.proofs.Turning.{may-go-on, own-else, own-plays, own-room}
use Rattle.world_core.proofs.side_turns.own_turn.Goals as goal

pub own_step-requires : goal.own_step-requires
own_step-requires g c = may-go-on g.at.0 g.at.1 c.args.half.now c.args.link.now c.requires

pub append-requires : goal.append-requires
append-requires g c = own-room g.at.0 g.at.1 c.args.half.now c.args.link.now c.requires c.own_step.new.self c.in-Did.ensures

pub returns-in-Did : goal.returns-in-Did
returns-in-Did g c = own-plays g.at.0 g.at.1 c.args.half.now c.args.link.now c.requires c.own_step.new.self c.in-Did.ensures c.append.new.self c.append.new.link c.append.ensures.half c.append.ensures.link

pub returns-in_default : goal.returns-in_default
returns-in_default g c = own-else g.at.0 g.at.1 c.args.half.now c.args.link.now c.requires c.own_step.result c.own_step.new.self c.in_default.not-Did c.own_step.ensures
