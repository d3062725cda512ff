use Rattle.std.proofs.Common.{refl, sym, ◌∙◌}
use Rattle.channel_core.proofs.TakeLemmas.{nothing_next}
use Rattle.channel_core.proofs.end.End.take.Goals as goal

pub returns-in-None : goal.returns-in-None
returns-in-None c = (nothing_next c.args.self.now (sym c.next_kind.ensures.kind ∙ c.in-None.is), refl)
