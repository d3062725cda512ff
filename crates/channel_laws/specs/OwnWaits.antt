-- What lines show of the requests for whose replies an end waits.
use Rattle.std.specs.Prelude.{◌≡◌, true, false}
use Rattle.std.specs.List.{AllByRecursion}
use Rattle.nesting_core.specs.Frames.{head_of, is_dispatch}
use Rattle.channel_model.specs.Ends.{End, StackEntry}
use Rattle.history_reading.specs.EndReading.{EndReading, is_sync_request}
use Rattle.history_reading.specs.SentPacket.{Request, requests_of}

-- a wait is for the reply to a sync request of the end
abbrev pub IsOwnWait : EndReading → StackEntry → Type 0
IsOwnWait own entry = is_dispatch entry.frame ≡ false → is_sync_request own (head_of entry.frame).seq ≡ true

-- a request that makes a promise is not sync
abbrev pub WaitsOneWay : Request → Type 0
WaitsOneWay r = r.wants ≡ true → r.sync ≡ false

-- Each wait is for a sync request of the end, and no request of the end is both sync and promised.
pub record WaitsAreOwn (e : End) (own : EndReading) : Type 0 where
  pub waits : AllByRecursion (IsOwnWait own) e.stack
  pub requests : AllByRecursion WaitsOneWay (requests_of own.sent)
