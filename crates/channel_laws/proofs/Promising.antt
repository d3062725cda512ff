-- Promises that are made, settled and rejected keep their reading.
use Rattle.std.proofs.Common.{◌≡◌, ◌≢◌, ℕ, ◌+◌, ◌≤◌, ℤ, Bool, true, false, not, ◌&&◌, ◌||◌, cond, if◌then◌else◌, int_eq, List, [], ◌∷◌, ◌++◌, filter, find, map, Option, Some, is_some, refl, sym, ap, subst, ◌∙◌, arith}
use Rattle.std.specs.List.{AllByRecursion, flat_map}
use Rattle.std.proofs.lemmas.Bool.{false≢true}
use Rattle.std.proofs.lemmas.Bool.Decides.{Decides-int_eq}
use Rattle.std.proofs.lemmas.List.{map-append, append-nil}
use Rattle.std.proofs.lemmas.List.Concat.{flat_map-append}
use Rattle.actor_tree.specs.declared.actor.Actor.{Actor}
use Rattle.actor_tree.specs.Tree.{lives}
use Rattle.ipdl_base.specs.declared.kinds.Reason.{Reason}
use Rattle.ipdl_base.specs.declared.kinds.Reason.TheVariants.{ActorDestroyed}
use Rattle.ipdl_base.specs.declared.kinds.Side.{Side}
use Rattle.promise_table.specs.declared.promise.Outcome.{Outcome}
use Rattle.promise_table.specs.declared.promise.Promise.{Promise}
use Rattle.promise_table.specs.Promises.{is_pending, is_pending_of}
use Rattle.channel_model.specs.Actors.{AreDistinct}
use Rattle.channel_model.specs.Ends.{PromiseEntry}
use Rattle.channel_model.specs.Falls.{passes, rejected, rejected_entry}
use Rattle.channel_model.specs.Numbers.{seq_of}
use Rattle.channel_model.specs.Requests.{IsSeqOf, promise_seq}
use Rattle.channel_model.specs.Takes.{settled_entry}
use Rattle.channel_model.proofs.Known.{all-map, all-append}
use Rattle.history_reading.specs.Numbers.{has}
use Rattle.history_reading.specs.SentPacket.{Request}
use Rattle.channel_model.proofs.Numbered.{more_seqs, next-is_free}
use Rattle.channel_laws.specs.Counts.{one_if, how_many, is_number}
use Rattle.channel_laws.specs.Promised.{Promised, promised_by, promised_in, promised_entry, PromiseReading, requests_numbered, IsReadPromise, HasPromises}
use Rattle.channel_laws.specs.SentAccounts.{request_seq}
use Rattle.channel_laws.proofs.Standing.{has-append}
use Rattle.channel_laws.proofs.Counting.{many-last, none-passes, int-same, next-once}

-- Numbers

pub int-apart : (m n : ℤ) → m ≢ n → int_eq m n ≡ false
int-apart m n apart = by (int_eq m n) refl
  where
    by : (b : Bool) → int_eq m n ≡ b → int_eq m n ≡ false
    by true is = absurd (apart ((Decides-int_eq m n).0 is))
    by false is = is

pub int-flip : (m n : ℤ) → int_eq m n ≡ int_eq n m
int-flip m n = by (int_eq n m) refl
  where
    by : (b : Bool) → int_eq n m ≡ b → int_eq m n ≡ int_eq n m
    by true is = (Decides-int_eq m n).1 (sym ((Decides-int_eq n m).0 is)) ∙ sym is
    by false is = int-apart m n (λ e. false≢true (sym is ∙ (Decides-int_eq n m).1 (sym e))) ∙ sym is

not-same : (m n : ℤ) → int_eq m n ≡ false → n ≢ m
not-same m n is e = false≢true (sym is ∙ (Decides-int_eq m n).1 (sym e))

-- numbers that are each counted once are distinct
pub once-distinct : (ns : List ℤ) → ((n : ℤ) → how_many (is_number n) ns ≤ 1) → AreDistinct ns
once-distinct [] once = tt
once-distinct (m ∷ ns) once =
    let low = once m in
    let one : one_if (int_eq m m) ≡ 1 = ap one_if (int-same m) in
    let none : AllByRecursion (λ k. int_eq k m ≡ false) ns = none-passes (is_number m) ns (omega arith) in
    (all-map (λ k. int_eq k m ≡ false) (λ k. m ≢ k) ns (λ k is. not-same k m is) none, once-distinct ns (λ n. let all = once n in omega arith))

-- what is true of each number that is counted is true of the whole list
pub all-known : (P : ℤ → Type 0) (ns : List ℤ) → ((n : ℤ) → 1 ≤ how_many (is_number n) ns → P n) → AllByRecursion P ns
all-known P [] h = tt
all-known P (m ∷ ns) h =
    let one : one_if (int_eq m m) ≡ 1 = ap one_if (int-same m) in
    (h m (omega arith), all-known P ns (λ n low. h n (omega arith)))

-- The numbers of promises

abbrev promised_seq : Promised → ℤ
promised_seq p = p.seq

seqs-of : (promises : List PromiseEntry) → map promised_seq (map promised_entry promises) ≡ map promise_seq promises
seqs-of [] = refl
seqs-of (entry ∷ promises) = ap (λ (ns : List ℤ). promise_seq entry ∷ ns) (seqs-of promises)

fewer-case : (b : Bool) (n seq route : ℤ) (number : ℕ) (ps : List Promised) (count : ℕ) → how_many (is_number n) (map promised_seq ps) ≤ count → how_many (is_number n) (map promised_seq (cond b (record { seq = seq; route = route; number = number } ∷ []) [] ++ ps)) ≤ one_if (int_eq seq n) + count
fewer-case true n seq route number ps count low = omega arith
fewer-case false n seq route number ps count low = omega arith

fewer-promised : (n : ℤ) (requests : List Request) → how_many (is_number n) (map promised_seq (promised_in requests)) ≤ requests_numbered requests n
fewer-promised n [] = omega arith
fewer-promised n (r ∷ requests) = fewer-case r.wants n r.seq r.route r.number (promised_in requests) (requests_numbered requests n) (fewer-promised n requests)

module _ (side : Side) (promises : List PromiseEntry) (count : ℕ) (read : PromiseReading) (h : HasPromises side promises count read) where
  numbers-are : map promise_seq promises ≡ map promised_seq (promised_in read.requests)
  numbers-are = sym (seqs-of promises) ∙ ap (map promised_seq) h.promises_are

  few : (n : ℤ) → how_many (is_number n) (map promise_seq promises) ≤ requests_numbered read.requests n
  few n = let same = ap (how_many (is_number n)) numbers-are in let low = fewer-promised n read.requests in omega arith

  -- no two promises have one number, and each has that of a request that was sent
  pub promises-distinct : AreDistinct (map promise_seq promises)
  promises-distinct = once-distinct (map promise_seq promises) (λ n. let low = few n in let once = h.numbered.once n in omega arith)

  pub promises-known : AllByRecursion (IsSeqOf side count) (map promise_seq promises)
  promises-known = all-known (IsSeqOf side count) (map promise_seq promises) (λ n low. h.numbered.known n (let all = few n in omega arith))

-- Promises that pass a test

abbrev pub numbers_passing : (PromiseEntry → Bool) → List PromiseEntry → List ℤ
numbers_passing test promises = map promise_seq (filter test promises)

filtered : (test : PromiseEntry → Bool) (b : Bool) (entry : PromiseEntry) (promises : List PromiseEntry) (n : ℤ) → has (map promise_seq (cond b (entry ∷ filter test promises) (filter test promises))) n ≡ (b && int_eq (promise_seq entry) n) || has (numbers_passing test promises) n
filtered test true entry promises n = refl
filtered test false entry promises n = refl

elsewhere : (test : PromiseEntry → Bool) (promises : List PromiseEntry) (n : ℤ) → AllByRecursion (λ later. n ≢ later) (map promise_seq promises) → has (numbers_passing test promises) n ≡ false
elsewhere test [] n h = refl
elsewhere test (entry ∷ promises) n h =
    filtered test (test entry) entry promises n
    ∙ (ap (λ (b : Bool). (test entry && b) || has (numbers_passing test promises) n) (int-apart (promise_seq entry) n (λ e. h.0 (sym e)))
    ∙ (ap (λ (b : Bool). b || has (numbers_passing test promises) n) (and-false (test entry)) ∙ elsewhere test promises n h.1))
  where
    and-false : (b : Bool) → b && false ≡ false
    and-false true = refl
    and-false false = refl

-- the number of a promise is among those of promises that pass exactly where it passes
abbrev pub IsAmong : (PromiseEntry → Bool) → List ℤ → PromiseEntry → Type 0
IsAmong test numbers entry = has numbers (promise_seq entry) ≡ test entry

among-later : (test : PromiseEntry → Bool) (entry : PromiseEntry) (all some : List PromiseEntry) → AllByRecursion (λ later. promise_seq entry ≢ later) (map promise_seq some) → AllByRecursion (IsAmong test (numbers_passing test all)) some → AllByRecursion (IsAmong test (numbers_passing test (entry ∷ all))) some
among-later test entry all [] h k = tt
among-later test entry all (x ∷ some) h k = (
  filtered test (test entry) entry all (promise_seq x)
      ∙ (ap (λ (b : Bool). (test entry && b) || has (numbers_passing test all) (promise_seq x)) (int-apart (promise_seq entry) (promise_seq x) h.0)
      ∙ (by (test entry) ∙ k.0)),
  among-later test entry all some h.1 k.1,
)
  where
    by : (b : Bool) → (b && false) || has (numbers_passing test all) (promise_seq x) ≡ has (numbers_passing test all) (promise_seq x)
    by true = refl
    by false = refl

pub among-passing : (test : PromiseEntry → Bool) (promises : List PromiseEntry) → AreDistinct (map promise_seq promises) → AllByRecursion (IsAmong test (numbers_passing test promises)) promises
among-passing test [] d = tt
among-passing test (entry ∷ promises) d = (
  filtered test (test entry) entry promises (promise_seq entry)
      ∙ (ap (λ (b : Bool). (test entry && b) || has (numbers_passing test promises) (promise_seq entry)) (int-same (promise_seq entry))
      ∙ (ap (λ (b : Bool). (test entry && true) || b) (elsewhere test promises (promise_seq entry) d.0) ∙ by (test entry))),
  among-later test entry promises promises d.0 (among-passing test promises d.1),
)
  where
    by : (b : Bool) → (b && true) || false ≡ b
    by true = refl
    by false = refl

-- What happens to promises

has-all : (P : ℤ → Type 0) (ns : List ℤ) (n : ℤ) → AllByRecursion P ns → has ns n ≡ true → P n
has-all P [] n h e = cc
has-all P (m ∷ ns) n h e = by (int_eq m n) refl e (has-all P ns n h.1)
  where
    by : (b : Bool) → int_eq m n ≡ b → b || has ns n ≡ true → (has ns n ≡ true → P n) → P n
    by true is e rest = subst P ((Decides-int_eq m n).0 is) h.0
    by false is e rest = rest e

-- more numbers that are known
known-more : (P : ℤ → Type 0) (f g : List ℤ) → ((n : ℤ) → has f n ≡ true → P n) → AllByRecursion P g → (n : ℤ) → has (f ++ g) n ≡ true → P n
known-more P f g h k n e = by (has f n) refl (sym (has-append f g n) ∙ e)
  where
    by : (b : Bool) → has f n ≡ b → b || has g n ≡ true → P n
    by true is e = h n is
    by false is e = has-all P g n k e

seqs-last : (requests : List Request) (r : Request) (n : ℤ) → requests_numbered (requests ++ r ∷ []) n ≡ requests_numbered requests n + one_if (int_eq r.seq n)
seqs-last requests r n = ap (how_many (is_number n)) (map-append request_seq requests (r ∷ [])) ∙ many-last (is_number n) (map request_seq requests) r.seq

-- a request is sent, with its promise or without
pub request-sent : (side : Side) (promises more : List PromiseEntry) (count : ℕ) (read : PromiseReading) (r : Request) → HasPromises side promises count read → r.seq ≡ seq_of side (count + 1) → map promised_entry more ≡ promised_by r → AllByRecursion (IsReadPromise read.settled) more → HasPromises side (promises ++ more) (count + 1) (record read { requests = read.requests ++ r ∷ [] })
request-sent side promises more count read r h is made outcomes = record {
  promises_are =
      map-append promised_entry promises more
      ∙ (ap (λ (ps : List Promised). ps ++ map promised_entry more) h.promises_are
      ∙ (ap (λ (ps : List Promised). promised_in read.requests ++ ps) (made ∙ sym (append-nil (promised_by r))) ∙ sym (flat_map-append promised_by read.requests (r ∷ []))));
  outcomes = all-append (IsReadPromise read.settled) promises more h.outcomes outcomes;
  numbered = next-once side count (requests_numbered read.requests) (requests_numbered (read.requests ++ r ∷ [])) r.seq h.numbered is (seqs-last read.requests r);
  known = λ n e. more_seqs side count n (h.known n e);
}

-- the next number was not settled
pub next-unsettled : (side : Side) (promises : List PromiseEntry) (count : ℕ) (read : PromiseReading) (n : ℤ) → HasPromises side promises count read → n ≡ seq_of side (count + 1) → has read.settled n ≡ false
next-unsettled side promises count read n h is = by (has read.settled n) refl
  where
    by : (b : Bool) → has read.settled n ≡ b → has read.settled n ≡ false
    by true e = absurd (next-is_free side count n (h.known n e) is)
    by false e = e

-- one is settled

settled-one : (b : Bool) (outcome : Outcome) (entry : PromiseEntry) → promised_entry (record entry { promise = if b then record entry.promise { outcome = Some outcome } else entry.promise }) ≡ promised_entry entry
settled-one true outcome entry = refl
settled-one false outcome entry = refl

settled-same : (n : ℤ) (outcome : Outcome) (promises : List PromiseEntry) → map promised_entry (map (settled_entry n outcome) promises) ≡ map promised_entry promises
settled-same n outcome [] = refl
settled-same n outcome (entry ∷ promises) =
    ap (λ (p : Promised). p ∷ map promised_entry (map (settled_entry n outcome) promises)) (settled-one (int_eq entry.promise.seq n && is_pending entry.promise) outcome entry)
    ∙ ap (λ (ps : List Promised). promised_entry entry ∷ ps) (settled-same n outcome promises)

or-none : (b : Bool) → b || false ≡ b
or-none true = refl
or-none false = refl

settled-outcome : (ns : List ℤ) (n : ℤ) (outcome : Outcome) (entry : PromiseEntry) → IsReadPromise ns entry → IsReadPromise (ns ++ n ∷ []) (settled_entry n outcome entry)
settled-outcome ns n outcome entry h = by (int_eq entry.promise.seq n) (is_pending entry.promise) refl refl
  where
    more : has (ns ++ n ∷ []) entry.promise.seq ≡ has ns entry.promise.seq || int_eq entry.promise.seq n
    more = has-append ns (n ∷ []) entry.promise.seq ∙ ap (λ (b : Bool). has ns entry.promise.seq || b) (or-none (int_eq n entry.promise.seq) ∙ int-flip n entry.promise.seq)

    by : (b c : Bool) → int_eq entry.promise.seq n ≡ b → is_pending entry.promise ≡ c → is_pending (if b && c then record entry.promise { outcome = Some outcome } else entry.promise) ≡ not (has (ns ++ n ∷ []) (if b && c then record entry.promise { outcome = Some outcome } else entry.promise).seq)
    by true true is pending = ap not (sym (more ∙ (ap (λ (x : Bool). has ns entry.promise.seq || x) is ∙ or-all (has ns entry.promise.seq))))
      where
        or-all : (x : Bool) → x || true ≡ true
        or-all true = refl
        or-all false = refl
    by true false is pending = pending ∙ ap not (sym (more ∙ (ap (λ (x : Bool). x || int_eq entry.promise.seq n) (settled-already (has ns entry.promise.seq) (sym pending ∙ h)))))
      where
        settled-already : (x : Bool) → false ≡ not x → x ≡ true
        settled-already true e = refl
        settled-already false e = cc
    by false c is pending = h ∙ ap not (sym (more ∙ (ap (λ (x : Bool). has ns entry.promise.seq || x) is ∙ or-none (has ns entry.promise.seq))))

settled-outcomes : (ns : List ℤ) (n : ℤ) (outcome : Outcome) (promises : List PromiseEntry) → AllByRecursion (IsReadPromise ns) promises → AllByRecursion (IsReadPromise (ns ++ n ∷ [])) (map (settled_entry n outcome) promises)
settled-outcomes ns n outcome [] h = tt
settled-outcomes ns n outcome (entry ∷ promises) h = (settled-outcome ns n outcome entry h.0, settled-outcomes ns n outcome promises h.1)

pub promise-settled : (side : Side) (promises : List PromiseEntry) (count : ℕ) (read : PromiseReading) (n : ℤ) (outcome : Outcome) → HasPromises side promises count read → IsSeqOf side count n → HasPromises side (map (settled_entry n outcome) promises) count (record read { settled = read.settled ++ n ∷ [] })
promise-settled side promises count read n outcome h is = record {
  promises_are = settled-same n outcome promises ∙ h.promises_are;
  outcomes = settled-outcomes read.settled n outcome promises h.outcomes;
  numbered = h.numbered;
  known = known-more (IsSeqOf side count) read.settled (n ∷ []) h.known (is, tt);
}

-- those that pass are rejected

rejected-one : (b : Bool) (why : Reason) (entry : PromiseEntry) → promised_entry (if b then rejected_entry why entry else entry) ≡ promised_entry entry
rejected-one true why entry = refl
rejected-one false why entry = refl

rejected-same : (test : Promise → Bool) (why : Reason) (promises : List PromiseEntry) → map promised_entry (rejected test why promises) ≡ map promised_entry promises
rejected-same test why [] = refl
rejected-same test why (entry ∷ promises) =
    ap (λ (p : Promised). p ∷ map promised_entry (rejected test why promises)) (rejected-one (passes test entry) why entry) ∙ ap (λ (ps : List Promised). promised_entry entry ∷ ps) (rejected-same test why promises)

rejected-outcome : (ns more : List ℤ) (b : Bool) (why : Reason) (entry : PromiseEntry) → has more entry.promise.seq ≡ b → IsReadPromise ns entry → IsReadPromise (ns ++ more) (if b then rejected_entry why entry else entry)
rejected-outcome ns more true why entry is h = ap not (sym (has-append ns more entry.promise.seq ∙ (ap (λ (x : Bool). has ns entry.promise.seq || x) is ∙ or-all (has ns entry.promise.seq))))
  where
    or-all : (x : Bool) → x || true ≡ true
    or-all true = refl
    or-all false = refl
rejected-outcome ns more false why entry is h = h ∙ ap not (sym (has-append ns more entry.promise.seq ∙ (ap (λ (x : Bool). has ns entry.promise.seq || x) is ∙ or-none (has ns entry.promise.seq))))

rejected-outcomes : (test : Promise → Bool) (why : Reason) (ns more : List ℤ) (promises : List PromiseEntry) → AllByRecursion (IsAmong (passes test) more) promises → AllByRecursion (IsReadPromise ns) promises → AllByRecursion (IsReadPromise (ns ++ more)) (rejected test why promises)
rejected-outcomes test why ns more [] among h = tt
rejected-outcomes test why ns more (entry ∷ promises) among h = (rejected-outcome ns more (passes test entry) why entry among.0 h.0, rejected-outcomes test why ns more promises among.1 h.1)

promises-rejected : (side : Side) (promises : List PromiseEntry) (count : ℕ) (read : PromiseReading) (test : Promise → Bool) (why : Reason) (more : List ℤ) → HasPromises side promises count read → AllByRecursion (IsAmong (passes test) more) promises → AllByRecursion (IsSeqOf side count) more → HasPromises side (rejected test why promises) count (record read { settled = read.settled ++ more })
promises-rejected side promises count read test why more h among are = record {
  promises_are = rejected-same test why promises ∙ h.promises_are;
  outcomes = rejected-outcomes test why read.settled more promises among h.outcomes;
  numbered = h.numbered;
  known = known-more (IsSeqOf side count) read.settled more h.known are;
}

known-passing : (P : ℤ → Type 0) (test : PromiseEntry → Bool) (promises : List PromiseEntry) → AllByRecursion P (map promise_seq promises) → AllByRecursion P (numbers_passing test promises)
known-passing P test [] h = tt
known-passing P test (entry ∷ promises) h = by (test entry) (known-passing P test promises h.1)
  where
    by : (b : Bool) → AllByRecursion P (numbers_passing test promises) → AllByRecursion P (map promise_seq (cond b (entry ∷ filter test promises) (filter test promises)))
    by true rest = (h.0, rest)
    by false rest = rest

-- all that are pending are rejected
pub all-rejected : (side : Side) (promises : List PromiseEntry) (count : ℕ) (read : PromiseReading) (test : Promise → Bool) (why : Reason) → HasPromises side promises count read → HasPromises side (rejected test why promises) count (record read { settled = read.settled ++ numbers_passing (passes test) promises })
all-rejected side promises count read test why h =
    promises-rejected side promises count read test why (numbers_passing (passes test) promises) h (among-passing (passes test) promises (promises-distinct side promises count read h)) (known-passing (IsSeqOf side count) (passes test) promises (promises-known side promises count read h))

-- those of actors that fall are rejected, one actor after another

abbrev pub numbers_falling : List PromiseEntry → List Actor → List ℤ
numbers_falling promises fs = flat_map (λ (a : Actor). numbers_passing (passes (is_pending_of a.id)) promises) fs

abbrev pub is_falling : List Actor → Promise → Bool
is_falling fs p = lives p.actor fs

falling-bools : (pending : Bool) (a b : Bool) (later : Bool) → a ≡ b → (pending && (a && pending)) || (pending && later) ≡ pending && (b || later)
falling-bools true true b later e = ap (λ (x : Bool). x || later) e
falling-bools true false b later e = ap (λ (x : Bool). x || later) e
falling-bools false a b later e = refl

lives-more : (b : Bool) (a : Actor) (rest : Option Actor) → is_some (cond b (Some a) rest) ≡ b || is_some rest
lives-more true a rest = refl
lives-more false a rest = refl

none-falling : (promises : List PromiseEntry) → AllByRecursion (IsAmong (passes (is_falling [])) []) promises
none-falling [] = tt
none-falling (entry ∷ promises) = (by (is_pending entry.promise), none-falling promises)
  where
    by : (b : Bool) → false ≡ b && false
    by true = refl
    by false = refl

more-falling : (a : Actor) (fs : List Actor) (all some : List PromiseEntry) → AllByRecursion (IsAmong (passes (is_pending_of a.id)) (numbers_passing (passes (is_pending_of a.id)) all)) some → AllByRecursion (IsAmong (passes (is_falling fs)) (numbers_falling all fs)) some → AllByRecursion (IsAmong (passes (is_falling (a ∷ fs))) (numbers_falling all (a ∷ fs))) some
more-falling a fs all [] one rest = tt
more-falling a fs all (entry ∷ some) one rest = (
  has-append (numbers_passing (passes (is_pending_of a.id)) all) (numbers_falling all fs) (promise_seq entry)
      ∙ (ap (λ (b : Bool). b || has (numbers_falling all fs) (promise_seq entry)) one.0
      ∙ (ap (λ (b : Bool). passes (is_pending_of a.id) entry || b) rest.0
      ∙ (falling-bools (is_pending entry.promise) (int_eq entry.promise.actor a.id) (int_eq a.id entry.promise.actor) (is_falling fs entry.promise) (int-flip entry.promise.actor a.id)
      ∙ ap (λ (b : Bool). is_pending entry.promise && b) (sym (lives-more (int_eq a.id entry.promise.actor) a (find (λ (x : Actor). int_eq x.id entry.promise.actor) fs)))))),
  more-falling a fs all some one.1 rest.1,
)

pub among-falling : (promises : List PromiseEntry) (fs : List Actor) → AreDistinct (map promise_seq promises) → AllByRecursion (IsAmong (passes (is_falling fs)) (numbers_falling promises fs)) promises
among-falling promises [] d = none-falling promises
among-falling promises (a ∷ fs) d = more-falling a fs promises promises (among-passing (passes (is_pending_of a.id)) promises d) (among-falling promises fs d)

known-falling : (P : ℤ → Type 0) (promises : List PromiseEntry) (fs : List Actor) → AllByRecursion P (map promise_seq promises) → AllByRecursion P (numbers_falling promises fs)
known-falling P promises [] h = tt
known-falling P promises (a ∷ fs) h = all-append P (numbers_passing (passes (is_pending_of a.id)) promises) (numbers_falling promises fs) (known-passing P (passes (is_pending_of a.id)) promises h) (known-falling P promises fs h)

pub fallen-rejected : (side : Side) (promises : List PromiseEntry) (count : ℕ) (read : PromiseReading) (fs : List Actor) → HasPromises side promises count read → HasPromises side (rejected (λ p. lives p.actor fs) ActorDestroyed promises) count (record read { settled = read.settled ++ numbers_falling promises fs })
fallen-rejected side promises count read fs h =
    promises-rejected side promises count read (is_falling fs) ActorDestroyed (numbers_falling promises fs) h (among-falling promises fs (promises-distinct side promises count read h)) (known-falling (IsSeqOf side count) promises fs (promises-known side promises count read h))
