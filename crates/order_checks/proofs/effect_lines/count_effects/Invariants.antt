use Rattle.std.proofs.Common.{◌≡◌, ◌+◌, drop}
use Rattle.std.specs.List.{prefix_len}
use Rattle.order_checks.specs.EffectTests.{is_effect_line}
use Rattle.order_checks.proofs.effect_lines.count_effects.Given as goal

-- the lines so far are effects
abbrev pub invariant-loop-index : goal.invariant-loop-index
invariant-loop-index l = prefix_len is_effect_line l.following ≡ l.index + prefix_len is_effect_line (drop l.index l.following)
