-- What two relays of one setting have in common.
use Rattle.std.specs.Prelude.{◌≡◌, ◌⊎◌, List, ◌++◌}
use Rattle.ipdl_base.specs.declared.kinds.Side.{Side}
use Rattle.script_steps.specs.Choices.{Setting}
use Rattle.script_steps.specs.Turns.{at_limit, at_rest}
use Rattle.law_statements.specs.Prefix.{IsPrefix}
use Rattle.relay_runs.specs.HalfRuns.{HalfState}
use Rattle.relay_runs.specs.RelaySteps.{RelayState, half_of}
use Rattle.relay_runs.specs.Relays.{EndsAs}

-- A half comes before another on one way: its lines, and the packets that came, were delivered and were sent, are prefixes.
pub record IsEarlierHalf (earlier later : HalfState) : Type 0 where
  pub lines : IsPrefix earlier.lines later.lines
  pub came : IsPrefix earlier.came later.came
  pub delivered : IsPrefix earlier.delivered later.delivered
  pub sent : IsPrefix earlier.sent later.sent

-- Of each side the half of one relay is as early as that of the other, or earlier. A relay that is finished has come
-- furthest at both sides, and no other is spent then. Two that are finished are the same.
pub record HaveOneResult (setting : Setting) (one two : RelayState) : Type 0 where
  pub prefixes : (side : Side) → IsEarlierHalf (half_of side one) (half_of side two) ⊎ IsEarlierHalf (half_of side two) (half_of side one)
  pub furthest : EndsAs setting one at_rest → (side : Side) → IsEarlierHalf (half_of side two) (half_of side one)
  pub unspent : EndsAs setting one at_rest → (side : Side) → EndsAs setting two (at_limit side) → ⊥
  pub same : EndsAs setting one at_rest → EndsAs setting two at_rest → one ≡ two
