-- Which messages may be handled at an end while it waits for the reply to another.
use Rattle.std.specs.Prelude.{◌≡◌, ◌↔◌, ℕ, ◌==◌, nat_lt, Bool, true, false, ◌&&◌, ◌||◌, List}
use Rattle.std.specs.List.{AllPairs, Contains}
use Rattle.std.specs.declared.cmp.Ordering.{Ordering}
use Rattle.std.specs.declared.cmp.Ordering.TheVariants.{Less}
use Rattle.std.specs.Ordering.{nat_cmp, ordering_then}
use Rattle.ipdl_base.specs.declared.kinds.Side.{Side}
use Rattle.ipdl_base.specs.declared.kinds.Side.TheVariants.{Parent, Child}
use Rattle.ipdl_base.specs.Sides.{sends}
use Rattle.ipdl_base.specs.declared.schema.MessageRow.{MessageRow}
use Rattle.ipdl_base.specs.declared.schema.Schema.{Schema}
use Rattle.ipdl_base.specs.Deferral.{rank}
use Rattle.ipdl_base.specs.Sound.{is_sync}
use Rattle.wait_report.specs.declared.pair.Pair.{Pair}
use Rattle.wait_report.specs.Sendable.{IsSendable}

-- The messages for whose replies an end of a side may wait while it handles another request: a sync message that the
-- parent sends, or one of level `not` or `inside_sync` that the child sends.
abbrev pub may_wait : Side → MessageRow → Bool
may_wait Parent row = sends Parent row.direction && is_sync row.semantics
may_wait Child row = sends Child row.direction && (is_sync row.semantics && nat_lt (rank row.level) 2)

-- The messages that an end may handle then: at the parent a message of the child of level `inside_cpow`, or a sync
-- one of level `inside_sync`; at the child a sync message of the parent of level `inside_sync`.
abbrev pub may_interrupt : Side → MessageRow → Bool
may_interrupt Parent row = sends Child row.direction && (rank row.level == 2 || (is_sync row.semantics && rank row.level == 1))
may_interrupt Child row = sends Parent row.direction && (is_sync row.semantics && rank row.level == 1)

-- A message by the number of its request: it passes a test, and can be sent where `top` is the top protocol.
pub record IsSendableOne (schema : Schema) (top : ℕ) (test : MessageRow → Bool) (number : ℕ) : Type 0 where
  pub row : MessageRow
  pub number_is : row.number ≡ number
  pub sendable : IsSendable schema top row
  pub passes : test row ≡ true

-- An interruption: an end of a side may handle a request of one message while it waits for the reply to another.
pub record IsInterruption (schema : Schema) (top : ℕ) (pair : Pair) : Type 0 where
  pub waits : IsSendableOne schema top (may_wait pair.side) pair.waits
  pub takes : IsSendableOne schema top (may_interrupt pair.side) pair.takes

-- the parent comes before the child
abbrev pub side_rank : Side → ℕ
side_rank Parent = 0
side_rank Child = 1

-- the order of pairs: by side, by the message that is waited for, by the one that is handled
abbrev pub pair_cmp : Pair → Pair → Ordering
pair_cmp a b = ordering_then (nat_cmp (side_rank a.side) (side_rank b.side)) (ordering_then (nat_cmp a.waits b.waits) (nat_cmp a.takes b.takes))

-- The report lists exactly the interruptions, each once, in their order.
pub record IsReport (schema : Schema) (top : ℕ) (pairs : List Pair) : Type 0 where
  pub ordered : AllPairs (λ a b. pair_cmp a b ≡ Less) pairs
  pub exact : (pair : Pair) → Contains pairs pair ↔ IsInterruption schema top pair
