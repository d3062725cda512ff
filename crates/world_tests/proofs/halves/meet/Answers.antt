use Rattle.world_tests.proofs.HalfLemmas.{fits-following-met}
use Rattle.world_tests.proofs.halves.meet.Goals as goal

pub returns-clause-others : goal.returns-clause-others
returns-clause-others g c =
    fits-following-met c.halves_fit_after_more.ensures g.at.0 g.at.1 c.args.half.now c.meet.new.self c.args.link.now c.meet.new.link c.meet.ensures.met
