use Rattle.std.proofs.Common.{refl}
use Rattle.explorer.proofs.Going.{begins-new}
use Rattle.explorer.proofs.search.Search.begin.Goals as goal

pub returns-clause-arriving : goal.returns-clause-arriving
returns-clause-arriving c =
    begins-new _ c.in_ok-runner.ensures.runs c.in_ok-runner.ensures.begins c.new.ensures.items c.new-2.ensures.items c.new-3.ensures.none c.new-3.ensures.begins c.new-3.ensures.apart c.new-4.ensures.items refl
    c.spot_at-spot.ensures.key c.spot_at-spot.ensures.options
