use Rattle.std.proofs.Common.{ℕ, take, ap}
use Rattle.order_checks.specs.EffectTests.{whats}
use Rattle.order_checks.proofs.effect_lines.effects_next.Goals as goal

pub returns : goal.returns
returns c = ap (λ (n : ℕ). whats (take n c.args.following.now)) c.count_effects.ensures.count
