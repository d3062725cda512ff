use Rattle.std.proofs.Common.{◌∙◌, is_some, sym}
use Rattle.world_core.proofs.SplitHalves.{rests-so, some-is-next}
use Rattle.world_core.proofs.half.Half.rests.Goals as goal
use Rattle.world_core.specs.HalfSteps.{next_of}

pub returns : goal.returns
returns c progress counted =
    rests-so c.is_none.result (is_some (next_of c.args.self.now progress)) (sym (some-is-next c.args.self.now progress c.next_step.result (c.next_step.ensures progress counted)) ∙ c.is_none.ensures)
