use Rattle.std.proofs.Common.{ap}
use Rattle.world_core.specs.LinkView.{LinkView}
use Rattle.world_tests.proofs.HalfLemmas.{fits-following-handed}
use Rattle.world_tests.proofs.halves.hand_in.Goals as goal

pub returns-clause-others : goal.returns-clause-others
returns-clause-others g c =
    fits-following-handed c.halves_fit_after_more.ensures g.at.0 g.at.1 c.args.half.now c.args.link.now c.hand_in.new.link c.requires.0 (ap (λ (l : LinkView). l.lines) c.hand_in.ensures.appends.is) c.hand_in.ensures.home
