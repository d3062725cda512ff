use Rattle.std.proofs.Common.{ap}
use Rattle.world_core.proofs.world.open_halves.Goals as goal
use Rattle.world_core.specs.HalfView.{HalfView, setting_of}

pub returns-in-Ok-clause-parent : goal.returns-in-Ok-clause-parent
returns-in-Ok-clause-parent c =
    let half = c.in_ok-parent.ensures in
    record { about = ap setting_of half.made; end = ap (λ (h : HalfView). h.end) half.made; counted = half.counted }

pub returns-in-Ok-clause-child : goal.returns-in-Ok-clause-child
returns-in-Ok-clause-child c =
    let half = c.in-Ok.ensures in
    record { about = ap setting_of half.made; end = ap (λ (h : HalfView). h.end) half.made; counted = half.counted }
