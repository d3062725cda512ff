-- What an end settles is a promise of its own that was not settled, and one that is rejected in a fall or a closing has
-- its cause.
use Rattle.std.proofs.Common.{◌≡◌, ◌≢◌, ℕ, ℤ, Bool, true, false, not, ◌&&◌, ◌||◌, cond, int_eq, find, filter, List, [], ◌∷◌, ◌++◌, map, Option, Some, option_map, refl, sym, ap, subst, ◌∙◌}
use Rattle.std.specs.List.{AllByRecursion}
use Rattle.std.specs.Option.{option_map_or}
use Rattle.std.proofs.lemmas.Bool.{false≢true}
use Rattle.std.proofs.lemmas.Bool.Decides.{Decides-int_eq}
use Rattle.actor_tree.specs.declared.actor.Actor.{Actor}
use Rattle.actor_tree.specs.Laws.{EachOnce}
use Rattle.actor_tree.specs.Tree.{lives}
use Rattle.ipdl_base.specs.declared.kinds.Side.{Side}
use Rattle.promise_table.specs.declared.promise.Promise.{Promise}
use Rattle.promise_table.specs.Promises.{is_pending, is_pending_of}
use Rattle.channel_model.specs.Actors.{AreDistinct}
use Rattle.channel_model.specs.Ends.{PromiseEntry}
use Rattle.channel_model.specs.Falls.{passes}
use Rattle.channel_model.specs.Requests.{promise_seq}
use Rattle.channel_model.proofs.Known.{all-append, all-map}
use Rattle.history_reading.specs.Numbers.{has}
use Rattle.history_reading.specs.SentPacket.{Request}
use Rattle.channel_laws.specs.Promised.{Promised, promised_in, promised_entry, PromiseReading, IsReadPromise, HasPromises}
use Rattle.channel_laws.specs.SentAccounts.{request_seq}
use Rattle.channel_model.proofs.Tests.{and-left, and-right}
use Rattle.channel_laws.proofs.Promising.{int-apart, once-distinct, numbers_passing, numbers_falling, is_falling, IsAmong, among-falling}
use Rattle.channel_laws.proofs.Counting.{int-same}

-- The own requests of promises

-- the request of a number makes a promise that was not settled
abbrev pub unsettled_in : PromiseReading → ℤ → Bool
unsettled_in read n = option_map_or (λ r. r.wants) (find (λ r. int_eq r.seq n) read.requests) false && not (has read.settled n)

abbrev pub IsUnsettled : PromiseReading → ℤ → Type 0
IsUnsettled read n = unsettled_in read n ≡ true

-- the request of a number goes to this actor
abbrev pub GoesTo : PromiseReading → ℤ → ℤ → Type 0
GoesTo read id n = option_map (λ r. r.route) (find (λ r. int_eq r.seq n) read.requests) ≡ Some id

abbrev FoundIn : List Request → Request → Type 0
FoundIn all r = find (λ x. int_eq x.seq r.seq) all ≡ Some r

found-later : (x : Request) (all some : List Request) → AllByRecursion (λ later. x.seq ≢ later) (map request_seq some) → AllByRecursion (FoundIn all) some → AllByRecursion (FoundIn (x ∷ all)) some
found-later x all [] d h = tt
found-later x all (r ∷ some) d h =
    (ap (λ (b : Bool). cond b (Some x) (find (λ (y : Request). int_eq y.seq r.seq) all)) (int-apart x.seq r.seq d.0) ∙ h.0, found-later x all some d.1 h.1)

found-each : (requests : List Request) → AreDistinct (map request_seq requests) → AllByRecursion (FoundIn requests) requests
found-each [] d = tt
found-each (r ∷ requests) d =
    (ap (λ (b : Bool). cond b (Some r) (find (λ (y : Request). int_eq y.seq r.seq) requests)) (int-same r.seq), found-later r requests requests d.0 (found-each requests d.1))

-- a promise's request is found by its number, makes a promise, and goes to the promise's actor
abbrev pub IsOwn : List Request → Promised → Type 0
IsOwn all p = (r : Request) × (find (λ x. int_eq x.seq p.seq) all ≡ Some r) × (r.wants ≡ true) × (r.route ≡ p.route)

own-promised : (all some : List Request) → AllByRecursion (FoundIn all) some → AllByRecursion (IsOwn all) (promised_in some)
own-promised all [] h = tt
own-promised all (r ∷ some) h = by r.wants refl (own-promised all some h.1)
  where
    by : (b : Bool) → r.wants ≡ b → AllByRecursion (IsOwn all) (promised_in some) → AllByRecursion (IsOwn all) (cond b (record { seq = r.seq; route = r.route; number = r.number } ∷ []) [] ++ promised_in some)
    by true is rest = ((r, h.0, is, refl), rest)
    by false is rest = rest

of-entries : (P : Promised → Type 0) (promises : List PromiseEntry) → AllByRecursion P (map promised_entry promises) → AllByRecursion (λ entry. P (promised_entry entry)) promises
of-entries P [] h = tt
of-entries P (entry ∷ promises) h = (h.0, of-entries P promises h.1)

module _ (side : Side) (promises : List PromiseEntry) (count : ℕ) (read : PromiseReading) (h : HasPromises side promises count read) where
  pub own-entries : AllByRecursion (λ entry. IsOwn read.requests (promised_entry entry)) promises
  own-entries = of-entries (IsOwn read.requests) promises (subst (AllByRecursion (IsOwn read.requests)) (sym h.promises_are) (own-promised read.requests read.requests (found-each read.requests (once-distinct (map request_seq read.requests) h.numbered.once))))

  -- a pending promise is unsettled
  pub pending-unsettled : AllByRecursion (λ entry. is_pending entry.promise ≡ true → IsUnsettled read (promise_seq entry)) promises
  pending-unsettled = both-entries promises own-entries h.outcomes
    where
      both-entries : (some : List PromiseEntry) → AllByRecursion (λ entry. IsOwn read.requests (promised_entry entry)) some → AllByRecursion (IsReadPromise read.settled) some → AllByRecursion (λ entry. is_pending entry.promise ≡ true → IsUnsettled read (promise_seq entry)) some
      both-entries [] o r = tt
      both-entries (entry ∷ some) o r = (
        λ pending.
            ap (λ (x : Option Request). option_map_or (λ (y : Request). y.wants) x false && not (has read.settled (promise_seq entry))) o.0.1
            ∙ (ap (λ (b : Bool). b && not (has read.settled (promise_seq entry))) o.0.2 ∙ (sym r.0 ∙ pending)),
        both-entries some o.1 r.1,
      )

  -- and it goes to its actor
  pub entries-go : AllByRecursion (λ entry. GoesTo read entry.promise.actor (promise_seq entry)) promises
  entries-go = each promises own-entries
    where
      each : (some : List PromiseEntry) → AllByRecursion (λ entry. IsOwn read.requests (promised_entry entry)) some → AllByRecursion (λ entry. GoesTo read entry.promise.actor (promise_seq entry)) some
      each [] o = tt
      each (entry ∷ some) o = (ap (λ (x : Option Request). option_map (λ (y : Request). y.route) x) o.0.1 ∙ ap (λ (id : ℤ). Some id) o.0.3, each some o.1)

-- Promises that pass

all-passing : (P : ℤ → Type 0) (test : PromiseEntry → Bool) (promises : List PromiseEntry) → AllByRecursion (λ entry. test entry ≡ true → P (promise_seq entry)) promises → AllByRecursion P (numbers_passing test promises)
all-passing P test [] h = tt
all-passing P test (entry ∷ promises) h = by (test entry) refl (all-passing P test promises h.1)
  where
    by : (b : Bool) → test entry ≡ b → AllByRecursion P (numbers_passing test promises) → AllByRecursion P (map promise_seq (cond b (entry ∷ filter test promises) (filter test promises)))
    by true is rest = (h.0 is, rest)
    by false is rest = rest

pub passing-distinct : (test : PromiseEntry → Bool) (promises : List PromiseEntry) → AreDistinct (map promise_seq promises) → AreDistinct (numbers_passing test promises)
passing-distinct test [] d = tt
passing-distinct test (entry ∷ promises) d = by (test entry) (passing-distinct test promises d.1)
  where
    each : (some : List PromiseEntry) → AllByRecursion (λ later. promise_seq entry ≢ later) (map promise_seq some) → AllByRecursion (λ x. test x ≡ true → promise_seq entry ≢ promise_seq x) some
    each [] h = tt
    each (x ∷ some) h = ((λ is. h.0), each some h.1)

    by : (b : Bool) → AreDistinct (numbers_passing test promises) → AreDistinct (map promise_seq (cond b (entry ∷ filter test promises) (filter test promises)))
    by true rest = (all-passing (λ later. promise_seq entry ≢ later) test promises (each promises d.0), rest)
    by false rest = rest

-- a promise that passes is pending
pub passing-unsettled : (side : Side) (promises : List PromiseEntry) (count : ℕ) (read : PromiseReading) (test : Promise → Bool) → HasPromises side promises count read → AllByRecursion (IsUnsettled read) (numbers_passing (passes test) promises)
passing-unsettled side promises count read test h =
    all-passing (IsUnsettled read) (passes test) promises
    (all-map (λ entry. is_pending entry.promise ≡ true → IsUnsettled read (promise_seq entry)) (λ entry. passes test entry ≡ true → IsUnsettled read (promise_seq entry)) promises (λ entry k is. k (and-left (is_pending entry.promise) (test entry.promise) is)) (pending-unsettled side promises count read h))

actor-is : (id : ℤ) (entry : PromiseEntry) → passes (is_pending_of id) entry ≡ true → entry.promise.actor ≡ id
actor-is id entry is = (Decides-int_eq entry.promise.actor id).0 (and-left (int_eq entry.promise.actor id) (is_pending entry.promise) (and-right (is_pending entry.promise) (is_pending_of id entry.promise) is))

pub passing-go : (side : Side) (promises : List PromiseEntry) (count : ℕ) (read : PromiseReading) (id : ℤ) → HasPromises side promises count read → AllByRecursion (GoesTo read id) (numbers_passing (passes (is_pending_of id)) promises)
passing-go side promises count read id h =
    all-passing (GoesTo read id) (passes (is_pending_of id)) promises
    (all-map (λ entry. GoesTo read entry.promise.actor (promise_seq entry)) (λ entry. passes (is_pending_of id) entry ≡ true → GoesTo read id (promise_seq entry)) promises (λ entry k is. k ∙ ap (λ (x : ℤ). Some x) (actor-is id entry is)) (entries-go side promises count read h))

-- Promises of actors that fall, one actor after another

distinct-append : (xs ys : List ℤ) → AreDistinct xs → AreDistinct ys → AllByRecursion (λ x. AllByRecursion (λ y. x ≢ y) ys) xs → AreDistinct (xs ++ ys)
distinct-append [] ys d e h = e
distinct-append (x ∷ xs) ys d e h = (all-append (λ later. x ≢ later) xs ys d.0 h.0, distinct-append xs ys d.1 e h.1)

none-same : (ns : List ℤ) (n : ℤ) → has ns n ≡ false → AllByRecursion (λ m. n ≢ m) ns
none-same [] n e = tt
none-same (m ∷ ns) n e = by (int_eq m n) refl e (none-same ns n)
  where
    by : (b : Bool) → int_eq m n ≡ b → b || has ns n ≡ false → (has ns n ≡ false → AllByRecursion (λ k. n ≢ k) ns) → (n ≢ m) × AllByRecursion (λ k. n ≢ k) ns
    by true is e rest = cc
    by false is e rest = ((λ same. false≢true (sym is ∙ (Decides-int_eq m n).1 (sym same))), rest e)

pub falling-distinct : (promises : List PromiseEntry) (fs : List Actor) → AreDistinct (map promise_seq promises) → EachOnce fs → AreDistinct (numbers_falling promises fs)
falling-distinct promises [] d o = tt
falling-distinct promises (a ∷ fs) d o =
    distinct-append (numbers_passing (passes (is_pending_of a.id)) promises) (numbers_falling promises fs) (passing-distinct (passes (is_pending_of a.id)) promises d) (falling-distinct promises fs d o.1)
    (all-passing (λ n. AllByRecursion (λ m. n ≢ m) (numbers_falling promises fs)) (passes (is_pending_of a.id)) promises
    (all-map (IsAmong (passes (is_falling fs)) (numbers_falling promises fs)) (λ entry. passes (is_pending_of a.id) entry ≡ true → AllByRecursion (λ m. promise_seq entry ≢ m) (numbers_falling promises fs)) promises
    (λ entry among is. none-same (numbers_falling promises fs) (promise_seq entry) (among ∙ (ap (λ (id : ℤ). is_pending entry.promise && lives id fs) (actor-is a.id entry is) ∙ (ap (λ (b : Bool). is_pending entry.promise && b) o.0 ∙ and-none (is_pending entry.promise))))) (among-falling promises fs d)))
  where
    and-none : (b : Bool) → b && false ≡ false
    and-none true = refl
    and-none false = refl

pub falling-unsettled : (side : Side) (promises : List PromiseEntry) (count : ℕ) (read : PromiseReading) (fs : List Actor) → HasPromises side promises count read → AllByRecursion (IsUnsettled read) (numbers_falling promises fs)
falling-unsettled side promises count read [] h = tt
falling-unsettled side promises count read (a ∷ fs) h =
    all-append (IsUnsettled read) (numbers_passing (passes (is_pending_of a.id)) promises) (numbers_falling promises fs) (passing-unsettled side promises count read (is_pending_of a.id) h) (falling-unsettled side promises count read fs h)
