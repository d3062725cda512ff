-- What lines show of an end's promises.
use Rattle.std.specs.Prelude.{◌≡◌, ℕ, ℤ, true, not, cond, List, [], ◌∷◌, map}
use Rattle.std.specs.List.{AllByRecursion, flat_map}
use Rattle.ipdl_base.specs.declared.kinds.Side.{Side}
use Rattle.promise_table.specs.Promises.{is_pending}
use Rattle.channel_model.specs.Ends.{End, PromiseEntry}
use Rattle.channel_model.specs.Requests.{IsSeqOf}
use Rattle.history_reading.specs.EndReading.{EndReading}
use Rattle.history_reading.specs.Numbers.{has}
use Rattle.history_reading.specs.SentPacket.{Request, requests_of}
use Rattle.channel_laws.specs.Counts.{how_many, is_number, AreNumberedOnce}
use Rattle.channel_laws.specs.SentAccounts.{request_seq}

-- A request that makes a promise: its number, its actor and its message.
pub record Promised : Type 0 where
  pub seq : ℤ
  pub route : ℤ
  pub number : ℕ

abbrev pub promised_by : Request → List Promised
promised_by r = cond r.wants (record { seq = r.seq; route = r.route; number = r.number } ∷ []) []

-- the requests that make promises
abbrev pub promised_in : List Request → List Promised
promised_in requests = flat_map promised_by requests

abbrev pub promised_entry : PromiseEntry → Promised
promised_entry entry = record { seq = entry.promise.seq; route = entry.promise.actor; number = entry.number }

-- What is read of an end's own requests, and the numbers of those that were settled.
pub record PromiseReading : Type 0 where
  pub requests : List Request
  pub settled : List ℤ

abbrev pub promise_reading : EndReading → PromiseReading
promise_reading own = record { requests = requests_of own.sent; settled = own.settled }

-- the number of requests with a number
abbrev pub requests_numbered : List Request → ℤ → ℕ
requests_numbered requests n = how_many (is_number n) (map request_seq requests)

-- a promise is pending exactly where it was not settled
abbrev pub IsReadPromise : List ℤ → PromiseEntry → Type 0
IsReadPromise settled entry = is_pending entry.promise ≡ not (has settled entry.promise.seq)

-- An end's promises are those that its requests make, in their order, and each is pending until it is settled. Its
-- requests are among the first `count` of its side, none twice, and only their promises are settled.
pub record HasPromises (side : Side) (promises : List PromiseEntry) (count : ℕ) (read : PromiseReading) : Type 0 where
  pub promises_are : map promised_entry promises ≡ promised_in read.requests
  pub outcomes : AllByRecursion (IsReadPromise read.settled) promises
  pub numbered : AreNumberedOnce side count (requests_numbered read.requests)
  pub known : (n : ℤ) → has read.settled n ≡ true → IsSeqOf side count n

abbrev pub PromisesAreRead : End → EndReading → Type 0
PromisesAreRead e own = HasPromises e.side e.promises e.sent (promise_reading own)
