use Rattle.world_core.proofs.Meetings.{hand-room, handed-fits, handed-home, hands-away}
use Rattle.world_core.proofs.half.Half.hand_in.Goals as goal

pub append-requires : goal.append-requires
append-requires g c = hand-room g.at.0 g.at.1 c.args.self.now c.args.link.now c.requires.0 c.requires.1

pub returns-clause-appends : goal.returns-clause-appends
returns-clause-appends g c = hands-away g.at.0 g.at.1 c.args.self.now c.args.link.now c.requires.0 c.requires.1 c.append.new.link c.append.ensures.link

pub returns-clause-home : goal.returns-clause-home
returns-clause-home g c =
    handed-home g.at.0 g.at.1 c.args.self.now c.args.link.now c.requires.0 c.requires.1 c.append.new.link
    (hands-away g.at.0 g.at.1 c.args.self.now c.args.link.now c.requires.0 c.requires.1 c.append.new.link c.append.ensures.link)

pub returns-clause-fits : goal.returns-clause-fits
returns-clause-fits g c =
    handed-fits g.at.0 g.at.1 c.args.self.now c.args.link.now c.requires.0 c.requires.1 c.append.new.link
    (hands-away g.at.0 g.at.1 c.args.self.now c.args.link.now c.requires.0 c.requires.1 c.append.new.link c.append.ensures.link) c.append.new.self c.append.ensures.half
