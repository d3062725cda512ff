use Rattle.std.proofs.Common.{subst}
use Rattle.channel_model.specs.Events as event
use Rattle.world_core.specs.NextSteps.{IsDue}
use Rattle.world_core.proofs.OwnSteps.{die-gives, die-may, flush-gives, flush-may, owns, resume-gives, resume-may}
use Rattle.world_core.proofs.Taking.{take-gives, take-may}
use Rattle.world_core.proofs.half.Half.do_step.Goals as goal

pub die-requires-clause-may : goal.die-requires-clause-may
die-requires-clause-may g c = die-may c.args.self.now g.progress c.requires.0 (subst (IsDue c.args.self.now g.progress) c.in-Die.is c.requires.1)

pub die-requires-clause-room : goal.die-requires-clause-room
die-requires-clause-room g c = c.requires.1.room

pub returns-in-Die : goal.returns-in-Die
returns-in-Die g c =
    let due = subst (IsDue c.args.self.now g.progress) c.in-Die.is c.requires.1 in
    owns c.args.self.now c.die.new.self g.progress c.requires.0.counted event.die due.is_next due.within c.die.result (die-gives c.args.self.now c.die.new.self g.progress c.requires.0.counted c.die.result c.die.ensures)

pub resume-requires-clause-may : goal.resume-requires-clause-may
resume-requires-clause-may g c = resume-may c.args.self.now g.progress c.requires.0 (subst (IsDue c.args.self.now g.progress) c.in-Resume.is c.requires.1)

pub resume-requires-clause-room : goal.resume-requires-clause-room
resume-requires-clause-room g c = c.requires.1.room

pub returns-in-Resume : goal.returns-in-Resume
returns-in-Resume g c =
    let due = subst (IsDue c.args.self.now g.progress) c.in-Resume.is c.requires.1 in
    owns c.args.self.now c.resume.new.self g.progress c.requires.0.counted event.resume due.is_next due.within c.resume.result (resume-gives c.args.self.now c.resume.new.self g.progress c.requires.0.counted c.resume.result c.resume.ensures)

pub flush-requires-clause-may : goal.flush-requires-clause-may
flush-requires-clause-may g c = flush-may c.args.self.now g.progress c.requires.0 (subst (IsDue c.args.self.now g.progress) c.in-Flush.is c.requires.1)

pub flush-requires-clause-room : goal.flush-requires-clause-room
flush-requires-clause-room g c = c.requires.1.room

pub returns-in-Flush : goal.returns-in-Flush
returns-in-Flush g c =
    let due = subst (IsDue c.args.self.now g.progress) c.in-Flush.is c.requires.1 in
    owns c.args.self.now c.flush.new.self g.progress c.requires.0.counted event.flush due.is_next due.within c.flush.result (flush-gives c.args.self.now c.flush.new.self g.progress c.requires.0.counted c.flush.result c.flush.ensures)

pub take-requires-clause-some : goal.take-requires-clause-some
take-requires-clause-some g c = take-may c.args.self.now g.progress c.requires.0 (subst (IsDue c.args.self.now g.progress) c.in-Take.is c.requires.1)

pub take-requires-clause-room : goal.take-requires-clause-room
take-requires-clause-room g c = c.requires.1.room

pub returns-in-Take : goal.returns-in-Take
returns-in-Take g c =
    let due = subst (IsDue c.args.self.now g.progress) c.in-Take.is c.requires.1 in
    owns c.args.self.now c.take.new.self g.progress c.requires.0.counted event.take due.is_next due.within c.take.result
    (take-gives c.args.self.now c.take.new.self g.progress c.requires.0.counted c.requires.0.fitting c.take.result c.take.ensures)
