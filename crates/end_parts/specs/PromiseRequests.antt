-- Promises with their requests, and those of them that pend.
use Rattle.std.specs.Prelude.{◌≡◌, ℕ, suc, ℤ, Bool, true, false, List, [], ◌∷◌, find, Option, option_map, if◌then◌else◌}
use Rattle.ipdl_base.specs.declared.kinds.Reason.{Reason}
use Rattle.promise_table.specs.declared.promise.Promise.{Promise}
use Rattle.promise_table.specs.declared.promise.Settling.{Settling}
use Rattle.promise_table.specs.declared.promise.Settling.TheVariants.{Now, Already, Unknown}
use Rattle.promise_table.specs.Plain.{plain_promise}
use Rattle.promise_table.specs.Promises.{is_pending}
use Rattle.channel_model.specs.Ends.{PromiseEntry}
use Rattle.channel_model.specs.Falls.{rejected_entry}
use Rattle.end_parts.specs.declared.reply.RequestKey.{RequestKey}

-- promises with the messages of their requests
abbrev pub entries_of : List Promise → List RequestKey → List PromiseEntry
entries_of [] requests = []
entries_of (promise ∷ promises) [] = []
entries_of (promise ∷ promises) (request ∷ requests) = record { promise = plain_promise promise; number = request.number } ∷ entries_of promises requests

-- A promise is that of a request.
pub record IsRequestOf (promise : Promise) (request : RequestKey) : Type 0 where
  pub seq : request.seq ≡ promise.seq
  pub actor : request.route ≡ promise.actor

-- each promise is that of the request at its place
abbrev pub AreRequestsOf : List Promise → List RequestKey → Type 0
AreRequestsOf [] [] = Unit {0}
AreRequestsOf [] (request ∷ requests) = ⊥
AreRequestsOf (promise ∷ promises) [] = ⊥
AreRequestsOf (promise ∷ promises) (request ∷ requests) = IsRequestOf promise request × AreRequestsOf promises requests

-- each request is at its number
abbrev pub AreByNumber : List (ℤ × RequestKey) → Type 0
AreByNumber [] = Unit {0}
AreByNumber (entry ∷ entries) = (entry.0 ≡ entry.1.seq) × AreByNumber entries

-- the number of pending promises
abbrev pub pending_in : List PromiseEntry → ℕ
pending_in [] = 0
pending_in (entry ∷ entries) = if is_pending entry.promise then suc (pending_in entries) else pending_in entries

-- the number of the oldest whose promise passes
abbrev pub oldest_of : (Promise → Bool) → List PromiseEntry → Option ℤ
oldest_of test entries = option_map (λ entry. entry.promise.seq) (find (λ entry. test entry.promise) entries)

-- the entries when the oldest whose promise passes, if any, is rejected
abbrev pub with_oldest_rejected : (Promise → Bool) → Reason → List PromiseEntry → List PromiseEntry
with_oldest_rejected test reason [] = []
with_oldest_rejected test reason (entry ∷ entries) =
    if test entry.promise then rejected_entry reason entry ∷ entries else entry ∷ with_oldest_rejected test reason entries

-- whether a settling found its promise pending
abbrev pub is_now : Settling → Bool
is_now Now = true
is_now Already = false
is_now Unknown = false
