-- The numbers of an end's own requests, as its promises show them.
use Rattle.std.specs.Prelude.{◌≡◌, ℕ, ◌≤◌, ℤ, List, map}
use Rattle.std.specs.List.{AllByRecursion}
use Rattle.ipdl_base.specs.declared.kinds.Side.{Side}
use Rattle.channel_model.specs.Ends.{End, PromiseEntry}
use Rattle.channel_model.specs.Numbers.{seq_of}
use Rattle.channel_model.specs.Actors.{AreDistinct}

-- What decides which numbers are taken at an end: the number of requests that it has sent, and the numbers of its
-- promises.
pub record Requests : Type 0 where
  pub side : Side
  pub sent : ℕ
  pub promised : List ℤ

abbrev pub promise_seq : PromiseEntry → ℤ
promise_seq entry = entry.promise.seq

abbrev pub requests_of : End → Requests
requests_of e = record { side = e.side; sent = e.sent; promised = map promise_seq e.promises }

-- a number is that of one of the first n requests of a side
abbrev pub IsSeqOf : Side → ℕ → ℤ → Type 0
IsSeqOf side n seq = (k : ℕ) × (1 ≤ k) × (k ≤ n) × (seq ≡ seq_of side k)

-- Each promise has the number of a request that was sent, and no two promises have the same number.
pub record AreNumbered (requests : Requests) : Type 0 where
  pub promised : AllByRecursion (IsSeqOf requests.side requests.sent) requests.promised
  pub distinct : AreDistinct requests.promised
