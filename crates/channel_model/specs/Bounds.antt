-- How much a step may add to what an end has printed, sent and counted.
use Rattle.std.specs.Prelude.{ℕ, ◌+◌, ◌≤◌, List, filter, length}
use Rattle.promise_table.specs.Promises.{is_pending}
use Rattle.channel_model.specs.Deliveries.{unanswered}
use Rattle.channel_model.specs.Ends.{End, PromiseEntry}
use Rattle.channel_model.specs.Outputs.{Output}

-- the promises that are pending
abbrev pub pending_in : List PromiseEntry → List PromiseEntry
pending_in promises = filter (λ entry. is_pending entry.promise) promises

-- the number of things that an end has yet to settle: its living actors, its pending promises and its unanswered
-- waits
abbrev pub unsettled : End → ℕ
unsettled e = length e.actors + (length (pending_in e.promises) + length (unanswered e))

-- A step prints at most five lines more than the number of things that it settles. It adds at most two packets,
-- counting those in the outbox.
pub record IsBounded (e : End) (output : Output) : Type 0 where
  pub lines : length output.lines + unsettled output.end ≤ unsettled e + 5
  pub packets : length output.packets + length output.end.outbox ≤ length e.outbox + 2

-- The counts of requests grow by at most one. The outbox and the count of sent constructors grow by no more than the
-- count of sent requests.
pub record HasCounted (e next : End) : Type 0 where
  pub sent : (e.sent ≤ next.sent) × (next.sent ≤ e.sent + 1)
  pub delivered : (e.delivered ≤ next.delivered) × (next.delivered ≤ e.delivered + 1)
  pub outbox : length next.outbox + e.sent ≤ length e.outbox + next.sent
  pub constructors : next.constructors_sent + e.sent ≤ e.constructors_sent + next.sent

-- Neither the outbox nor the count of sent constructors exceeds the number of requests that the end has sent.
pub record IsCounted (e : End) : Type 0 where
  pub outbox : length e.outbox ≤ e.sent
  pub constructors : e.constructors_sent ≤ e.sent
