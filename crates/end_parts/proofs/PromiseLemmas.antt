-- What happens to promises happens to their entries.
use Rattle.std.proofs.Common.{◌≡◌, ◌≢◌, ℕ, ℤ, zero, suc, ◌<◌, Bool, true, false, cond, List, [], ◌∷◌, ◌++◌, length, get_or, Option, Some, None, refl, ap, sym, ◌∙◌, arith}
use Rattle.std.specs.Option.{option_map}
use Rattle.std.specs.Ordering.{int_eq}
use Rattle.std.specs.List.{find, AllByRecursion}
use Rattle.std.proofs.lemmas.List.Quantifiers.{all_pairs_push}
use Rattle.std.proofs.lemmas.Bool.{false_from_ne_true}
use Rattle.std.proofs.lemmas.Bool.Decides.{Decides-int_eq}
use Rattle.ipdl_base.specs.declared.kinds.Reason.{Reason}
use Rattle.promise_table.specs.declared.promise.Outcome.{Outcome}
use Rattle.promise_table.specs.declared.promise.Outcome.TheVariants.{Rejected}
use Rattle.promise_table.specs.declared.promise.Promise.{Promise}
use Rattle.promise_table.specs.Plain.{plain_promise}
use Rattle.promise_table.specs.Promises.{made, has_number, is_pending, is_pending_of, settled, with_settled, oldest, with_rejected, HaveDistinctNumbers}
use Rattle.channel_model.specs.Ends.{PromiseEntry}
use Rattle.channel_model.specs.Falls.{rejected_entry}
use Rattle.channel_model.proofs.Tests.{and-right}
use Rattle.end_parts.specs.declared.reply.RequestKey.{RequestKey}
use Rattle.end_parts.specs.PromiseRequests.{entries_of, oldest_of, with_oldest_rejected}

-- the entry of a promise
abbrev with_request : Promise → RequestKey → PromiseEntry
with_request p r = record { promise = plain_promise p; number = r.number }

-- the first entry that passes, or what is found after
seq_or : (b : Bool) (p : Promise) (n : RequestKey) (there : Option PromiseEntry) (here : Option Promise) → option_map (λ (entry : PromiseEntry). entry.promise.seq) there ≡ option_map (λ (q : Promise). q.seq) here
    → option_map (λ (entry : PromiseEntry). entry.promise.seq) (cond b (Some (with_request p n)) there) ≡ option_map (λ (q : Promise). q.seq) (cond b (Some p) here)
seq_or true p n there here following = refl
seq_or false p n there here following = following

pub oldest-entries : (test : Promise → Bool) → ((p : Promise) → test (plain_promise p) ≡ test p) → (ps : List Promise) (ns : List RequestKey) → length ns ≡ length ps → oldest_of test (entries_of ps ns) ≡ oldest test ps
oldest-entries test blind [] ns e = refl
oldest-entries test blind (p ∷ ps) [] e = absurd (omega arith)
oldest-entries test blind (p ∷ ps) (n ∷ ns) e =
    rw (blind p) (seq_or (test p) p n (find (λ (entry : PromiseEntry). test entry.promise) (entries_of ps ns)) (find test ps) (oldest-entries test blind ps ns (omega arith)))

-- no promise of them has the number
abbrev pub AreApart : ℤ → List Promise → Type 0
AreApart seq [] = Unit {0}
AreApart seq (p ∷ ps) = (p.seq ≢ seq) × AreApart seq ps

pub apart : (seq : ℤ) (ps : List Promise) → ((k : ℕ) (d : Promise) → k < length ps → (get_or ps k d).seq ≢ seq) → AreApart seq ps
apart seq [] h = tt
apart seq (p ∷ ps) h = (h 0 p (omega arith), apart seq ps (λ k d l. h (suc k) d (omega arith)))

-- the first of distinct promises is apart from those after it
pub first_apart : (p : Promise) (ps : List Promise) → HaveDistinctNumbers (p ∷ ps) → AreApart p.seq ps
first_apart p ps h = apart p.seq ps (λ k d l e. h 0 (suc k) d (omega arith) (omega arith) (sym e))

pub rest_distinct : (p : Promise) (ps : List Promise) → HaveDistinctNumbers (p ∷ ps) → HaveDistinctNumbers ps
rest_distinct p ps h = λ i j d l m. h (suc i) (suc j) d (omega arith) (omega arith)

settled_other : (seq : ℤ) (outcome : Outcome) (p : Promise) → p.seq ≢ seq → settled seq outcome p ≡ p
settled_other seq outcome p n =
    let elsewhere : has_number seq p ≡ false = false_from_ne_true (has_number seq p) (λ e. n ((Decides-int_eq p.seq seq).0 e)) in
    rw elsewhere refl

others_stay : (seq : ℤ) (outcome : Outcome) (ps : List Promise) → AreApart seq ps → with_settled ps seq outcome ≡ ps
others_stay seq outcome [] h = refl
others_stay seq outcome (p ∷ ps) h =
    let first : settled seq outcome p ≡ p = settled_other seq outcome p h.0 in
    let rest : with_settled ps seq outcome ≡ ps = others_stay seq outcome ps h.1 in
    cc

settled_here : (seq : ℤ) (outcome : Outcome) (p : Promise) → p.seq ≡ seq → is_pending p ≡ true → settled seq outcome p ≡ record p { outcome = Some outcome }
settled_here seq outcome p e pending =
    let here : has_number seq p ≡ true = (Decides-int_eq p.seq seq).1 e in
    rw (here, pending) refl

-- who is found among promises that are apart from a number has another
found_or : (seq : ℤ) (test : Promise → Bool) (p : Promise) (b : Bool) (there : Option Promise) (n : ℤ) → p.seq ≢ seq → (option_map (λ (q : Promise). q.seq) there ≡ Some n → n ≢ seq) → option_map (λ (q : Promise). q.seq) (cond b (Some p) there) ≡ Some n → n ≢ seq
found_or seq test p true there n first rest e = λ m. first (cc)
found_or seq test p false there n first rest e = rest e

found_apart : (seq : ℤ) (test : Promise → Bool) (ps : List Promise) (n : ℤ) → AreApart seq ps → oldest test ps ≡ Some n → n ≢ seq
found_apart seq test [] n h e = cc
found_apart seq test (p ∷ ps) n h e = found_or seq test p (test p) (find test ps) n h.0 (found_apart seq test ps n h.1) e

-- the rest of the promises when nobody, or one after the first, is rejected
after_first : (reason : Reason) (p : Promise) (ps : List Promise) (found : Option ℤ) → ((n : ℤ) → found ≡ Some n → n ≢ p.seq) → with_rejected (p ∷ ps) found reason ≡ p ∷ with_rejected ps found reason
after_first reason p ps None h = refl
after_first reason p ps (Some n) h =
    ap (λ (q : Promise). q ∷ with_settled ps n (Rejected reason)) (settled_other n (Rejected reason) p (λ e. h n refl (sym e)))

-- the oldest of the entries is rejected as the oldest of the promises is
rejected_at : (test : Promise → Bool) (reason : Reason) (p : Promise) (ps : List Promise) (n : RequestKey) (ns : List RequestKey) (b : Bool) → test p ≡ b → (b ≡ true → is_pending p ≡ true) → HaveDistinctNumbers (p ∷ ps)
    → entries_of (with_rejected ps (oldest test ps) reason) ns ≡ with_oldest_rejected test reason (entries_of ps ns)
    → entries_of (with_rejected (p ∷ ps) (option_map (λ (q : Promise). q.seq) (cond b (Some p) (find test ps))) reason) (n ∷ ns) ≡ cond b (rejected_entry reason (with_request p n) ∷ entries_of ps ns) (with_request p n ∷ with_oldest_rejected test reason (entries_of ps ns))
rejected_at test reason p ps n ns true e pends distinct rest =
    let first : settled p.seq (Rejected reason) p ≡ record p { outcome = Some (Rejected reason) } = settled_here p.seq (Rejected reason) p refl (pends refl) in
    let others : with_settled ps p.seq (Rejected reason) ≡ ps = others_stay p.seq (Rejected reason) ps (first_apart p ps distinct) in
    ap (λ (q : Promise). with_request q n ∷ entries_of (with_settled ps p.seq (Rejected reason)) ns) first
    ∙ ap (λ (qs : List Promise). rejected_entry reason (with_request p n) ∷ entries_of qs ns) others
rejected_at test reason p ps n ns false e pends distinct rest =
    let same : with_rejected (p ∷ ps) (oldest test ps) reason ≡ p ∷ with_rejected ps (oldest test ps) reason = after_first reason p ps (oldest test ps) (λ m found. found_apart p.seq test ps m (first_apart p ps distinct) found) in
    ap (λ (qs : List Promise). entries_of qs (n ∷ ns)) same ∙ ap (λ (es : List PromiseEntry). with_request p n ∷ es) rest

pub rejected-entries : (test : Promise → Bool) → ((p : Promise) → test (plain_promise p) ≡ test p) → ((p : Promise) → test p ≡ true → is_pending p ≡ true)
    → (reason : Reason) (ps : List Promise) (ns : List RequestKey) → length ns ≡ length ps → HaveDistinctNumbers ps → entries_of (with_rejected ps (oldest test ps) reason) ns ≡ with_oldest_rejected test reason (entries_of ps ns)
rejected-entries test blind pends reason [] ns e distinct = refl
rejected-entries test blind pends reason (p ∷ ps) [] e distinct = absurd (omega arith)
rejected-entries test blind pends reason (p ∷ ps) (n ∷ ns) e distinct =
    rw (blind p) (rejected_at test reason p ps n ns (test p) refl (pends p) distinct (rejected-entries test blind pends reason ps ns (omega arith) (rest_distinct p ps distinct)))

-- of an actor's pending promises each pends
pub pends_of : (actor : ℤ) (p : Promise) → is_pending_of actor p ≡ true → is_pending p ≡ true
pends_of actor p e = and-right (int_eq p.actor actor) (is_pending p) e

-- A promise more

pub unmade : (seq : ℤ) (ps : List Promise) (ns : List RequestKey) → length ns ≡ length ps → AllByRecursion (λ (e : PromiseEntry). e.promise.seq ≢ seq) (entries_of ps ns) → (k : ℕ) (d : Promise) → k < length ps → (get_or ps k d).seq ≢ seq
unmade seq [] ns e h k d l = absurd (omega arith)
unmade seq (p ∷ ps) [] e h k d l = absurd (omega arith)
unmade seq (p ∷ ps) (n ∷ ns) e h zero d l = h.0
unmade seq (p ∷ ps) (n ∷ ns) e h (suc k) d l = unmade seq ps ns (omega arith) h.1 k d (omega arith)

pub one_more : (seq actor : ℤ) (n : RequestKey) (ps : List Promise) (ns : List RequestKey) → length ns ≡ length ps → entries_of (ps ++ made seq actor ∷ []) (ns ++ n ∷ []) ≡ entries_of ps ns ++ record { promise = made seq actor; number = n.number } ∷ []
one_more seq actor n [] [] e = refl
one_more seq actor n [] (m ∷ ns) e = absurd (omega arith)
one_more seq actor n (p ∷ ps) [] e = absurd (omega arith)
one_more seq actor n (p ∷ ps) (m ∷ ns) e = ap (λ (es : List PromiseEntry). with_request p m ∷ es) (one_more seq actor n ps ns (omega arith))

pub distinct_more : (seq actor : ℤ) (ps : List Promise) → HaveDistinctNumbers ps → ((k : ℕ) (d : Promise) → k < length ps → (get_or ps k d).seq ≢ seq) → HaveDistinctNumbers (ps ++ made seq actor ∷ [])
distinct_more seq actor ps h new = all_pairs_push (λ (p q : Promise). p.seq ≢ q.seq) ps (made seq actor) h new
