-- The rule of deferral.
use Rattle.std.specs.Prelude.{ℕ, ℤ, Bool, true, false, not, nat_lt, if◌then◌else◌, Option, Some, None}
use Rattle.std.specs.Ordering.{int_eq}
use Rattle.ipdl_base.specs.declared.kinds.Level.{Level}
use Rattle.ipdl_base.specs.declared.kinds.Level.TheVariants.{Not, InsideSync, InsideCpow}
use Rattle.ipdl_base.specs.declared.kinds.Side.{Side}
use Rattle.ipdl_base.specs.declared.kinds.Side.TheVariants.{Parent, Child}

-- the levels in their order
abbrev pub rank : Level → ℕ
rank Not = 0
rank InsideSync = 1
rank InsideCpow = 2

-- whether there is an inner transaction and it is this one
abbrev pub is_inner : Option ℤ → ℤ → Bool
is_inner None transaction = false
is_inner (Some inner) transaction = int_eq inner transaction

-- whether an end that waits defers a request of its own level: the child never does, and the parent
-- does unless the request is of the inner transaction
abbrev pub defers_equal : Side → Option ℤ → ℤ → Bool
defers_equal Child inner transaction = false
defers_equal Parent inner transaction = not (is_inner inner transaction)

-- whether an end that waits at level w defers a sync request: one below w it does, one above w it does not
abbrev pub defers_sync : Side → Level → Option ℤ → Level → ℤ → Bool
defers_sync side w inner level transaction =
    if nat_lt (rank level) (rank w) then true else
    (if nat_lt (rank w) (rank level) then false else defers_equal side inner transaction)

-- Whether an end on this side that waits at level w defers a request. The inner transaction is that of
-- its innermost frame of a sync message of level inside_sync. No request of level inside_cpow is
-- deferred; any other async request is.
abbrev pub defers_request : Side → Level → Option ℤ → Bool → Level → ℤ → Bool
defers_request side w inner sync InsideCpow transaction = false
defers_request side w inner false Not transaction = true
defers_request side w inner false InsideSync transaction = true
defers_request side w inner true Not transaction = defers_sync side w inner Not transaction
defers_request side w inner true InsideSync transaction = defers_sync side w inner InsideSync transaction

-- What arrives at an end, as far as deferral looks at it: a request, by its sync, level and transaction; a
-- reply or fault, by whether it answers a sync request; a goodbye; the mark that the other end has died.
pub data Arrival : Type 0 where
  request : Bool → Level → ℤ → Arrival
  reply : Bool → Arrival
  goodbye : Arrival
  mark : Arrival

-- whether an end on this side that waits at level w defers what arrives: a request by the rule of
-- requests, the reply of an async request always, a goodbye or a mark never
abbrev pub defers_waiting : Side → Level → Option ℤ → Arrival → Bool
defers_waiting side w inner (request sync level transaction) = defers_request side w inner sync level transaction
defers_waiting side w inner (reply sync) = not sync
defers_waiting side w inner goodbye = false
defers_waiting side w inner mark = false

-- What an end defers of all that arrives, by its side, the level of the message whose reply it awaits, and
-- its inner transaction. One that awaits no reply defers nothing.
abbrev pub defers_arrival : Side → Option Level → Option ℤ → Arrival → Bool
defers_arrival side None inner arrival = false
defers_arrival side (Some w) inner arrival = defers_waiting side w inner arrival
