-- Promises with their requests.
use Rattle.std.proofs.Common.{◌≡◌, ℤ, suc, ◌+◌, ◌==◌, Bool, true, false, ◌||◌, ◌&&◌, cond, List, [], ◌∷◌, ◌++◌, map, length, Option, Some, None, refl, ap, sym, subst, ◌∙◌}
use Rattle.std.proofs.lemmas.Bool.{false_from_ne_true}
use Rattle.std.proofs.lemmas.Bool.Decides.{Decides-int_eq}
use Rattle.std.specs.Map.{values_of, lookup}
use Rattle.std.specs.Ordering.{int_eq}
use Rattle.std.specs.Option.{option_map_or}
use Rattle.std.specs.List.{find}
use Rattle.ipdl_base.specs.declared.kinds.Reason.{Reason}
use Rattle.ipdl_base.specs.declared.message.Message.{Message}
use Rattle.promise_table.specs.declared.promise.Outcome.{Outcome}
use Rattle.promise_table.specs.declared.promise.Outcome.TheVariants.{Rejected}
use Rattle.promise_table.specs.declared.promise.Promise.{Promise}
use Rattle.promise_table.specs.declared.promise.Settling.TheVariants.{Now, Already}
use Rattle.promise_table.specs.Plain.{plain_outcome, plain_promise}
use Rattle.promise_table.specs.Promises.{has_number, is_pending, promise_of, settling_of, with_settled, with_rejected, HaveDistinctNumbers}
use Rattle.promise_table.proofs.PlainLemmas.{is_pending-plain}
use Rattle.channel_model.specs.Ends.{PromiseEntry}
use Rattle.channel_model.specs.Refusals.{is_replied_to}
use Rattle.channel_model.specs.Takes.{is_awaited, settled_entry}
use Rattle.end_parts.specs.declared.reply.RequestKey.{RequestKey}
use Rattle.end_parts.specs.PromiseRequests.{entries_of, is_now, AreByNumber, AreRequestsOf, IsRequestOf}
use Rattle.end_parts.specs.Replies.{is_promised_in}
use Rattle.end_parts.proofs.PromiseLemmas.{AreApart, first_apart, rest_distinct}

-- there are as many requests as promises
pub length-requests : (ps : List Promise) (rs : List RequestKey) → AreRequestsOf ps rs → length rs ≡ length ps
length-requests [] [] h = refl
length-requests [] (r ∷ rs) h = absurd h
length-requests (p ∷ ps) [] h = absurd h
length-requests (p ∷ ps) (r ∷ rs) h = ap suc (length-requests ps rs h.1)

settled_at : (b : Bool) (outcome : Outcome) (p : Promise) (r : RequestKey) → IsRequestOf p r → IsRequestOf (cond b (record p { outcome = Some outcome }) p) r
settled_at true outcome p r is = record { seq = is.seq; actor = is.actor }
settled_at false outcome p r is = is

-- a promise that is settled is of the same request
pub requests-settled : (seq : ℤ) (outcome : Outcome) (ps : List Promise) (rs : List RequestKey) → AreRequestsOf ps rs → AreRequestsOf (with_settled ps seq outcome) rs
requests-settled seq outcome [] [] h = tt
requests-settled seq outcome [] (r ∷ rs) h = absurd h
requests-settled seq outcome (p ∷ ps) [] h = absurd h
requests-settled seq outcome (p ∷ ps) (r ∷ rs) h = (settled_at (has_number seq p && is_pending p) outcome p r h.0, requests-settled seq outcome ps rs h.1)

pub requests-rejected : (found : Option ℤ) (reason : Reason) (ps : List Promise) (rs : List RequestKey) → AreRequestsOf ps rs → AreRequestsOf (with_rejected ps found reason) rs
requests-rejected None reason ps rs h = h
requests-rejected (Some seq) reason ps rs h = requests-settled seq (Rejected reason) ps rs h

-- one promise more, with its request
pub requests_more : (p : Promise) (r : RequestKey) → IsRequestOf p r → (ps : List Promise) (rs : List RequestKey) → AreRequestsOf ps rs → AreRequestsOf (ps ++ p ∷ []) (rs ++ r ∷ [])
requests_more p r is [] [] h = (is, tt)
requests_more p r is [] (s ∷ rs) h = absurd h
requests_more p r is (q ∷ ps) [] h = absurd h
requests_more p r is (q ∷ ps) (s ∷ rs) h = (h.0, requests_more p r is ps rs h.1)

settled_plain : (b c : Bool) (outcome : Outcome) (p : Promise) → b ≡ c → plain_promise (cond b (record p { outcome = Some outcome }) p) ≡ cond c (record (plain_promise p) { outcome = Some (plain_outcome outcome) }) (plain_promise p)
settled_plain true true outcome p e = refl
settled_plain true false outcome p e = cc
settled_plain false true outcome p e = cc
settled_plain false false outcome p e = refl

-- the entries are settled as the promises are
pub settled-entries : (seq : ℤ) (outcome : Outcome) (ps : List Promise) (rs : List RequestKey) → AreRequestsOf ps rs → entries_of (with_settled ps seq outcome) rs ≡ map (settled_entry seq (plain_outcome outcome)) (entries_of ps rs)
settled-entries seq outcome [] [] h = refl
settled-entries seq outcome [] (r ∷ rs) h = absurd h
settled-entries seq outcome (p ∷ ps) [] h = absurd h
settled-entries seq outcome (p ∷ ps) (r ∷ rs) h =
    let same : has_number seq p && is_pending p ≡ has_number seq p && is_pending (plain_promise p) = ap (λ (b : Bool). has_number seq p && b) (sym (is_pending-plain p)) in
    ap (λ (q : Promise). record { promise = q; number = r.number } ∷ entries_of (with_settled ps seq outcome) rs) (settled_plain (has_number seq p && is_pending p) (has_number seq p && is_pending (plain_promise p)) outcome p same)
    ∙ ap (λ (es : List PromiseEntry). settled_entry seq (plain_outcome outcome) (record { promise = plain_promise p; number = r.number }) ∷ es) (settled-entries seq outcome ps rs h.1)

now_at : (b : Bool) → is_now (cond b Now Already) ≡ b
now_at true = refl
now_at false = refl

awaited_at : (b : Bool) (p : Promise) (r : RequestKey) (there : Option PromiseEntry) (here : Option Promise) → option_map_or (λ (e : PromiseEntry). is_pending e.promise) there false ≡ is_now (settling_of here)
    → option_map_or (λ (e : PromiseEntry). is_pending e.promise) (cond b (Some (record { promise = plain_promise p; number = r.number })) there) false ≡ is_now (settling_of (cond b (Some p) here))
awaited_at true p r there here h = is_pending-plain p ∙ sym (now_at (is_pending p))
awaited_at false p r there here h = h

-- a promise of a number is awaited where a settling finds it pending
pub awaited-entries : (seq : ℤ) (ps : List Promise) (rs : List RequestKey) → AreRequestsOf ps rs → is_awaited seq (entries_of ps rs) ≡ is_now (settling_of (promise_of ps seq))
awaited-entries seq [] [] h = refl
awaited-entries seq [] (r ∷ rs) h = absurd h
awaited-entries seq (p ∷ ps) [] h = absurd h
awaited-entries seq (p ∷ ps) (r ∷ rs) h =
    awaited_at (has_number seq p) p r (find (λ (e : PromiseEntry). has_number seq e.promise) (entries_of ps rs)) (find (has_number seq) ps) (awaited-entries seq ps rs h.1)

-- Requests by their numbers

pub values_more : (r : RequestKey) (es : List (ℤ × RequestKey)) → values_of (es ++ (r.seq, r) ∷ []) ≡ values_of es ++ r ∷ []
values_more r [] = refl
values_more r (e ∷ es) = ap (λ (rs : List RequestKey). e.1 ∷ rs) (values_more r es)

-- one more request is at its number
pub by_number_more : (r : RequestKey) (es : List (ℤ × RequestKey)) → AreByNumber es → AreByNumber (es ++ (r.seq, r) ∷ [])
by_number_more r [] h = (refl, tt)
by_number_more r (e ∷ es) h = (h.0, by_number_more r es h.1)

-- no request is at a number that no promise has
pub none_at : (seq : ℤ) (ps : List Promise) (es : List (ℤ × RequestKey)) → AreRequestsOf ps (values_of es) → AreByNumber es → AreApart seq ps → lookup (int_eq seq) es ≡ None
none_at seq [] [] are by h = refl
none_at seq [] (e ∷ es) are by h = absurd are
none_at seq (p ∷ ps) [] are by h = absurd are
none_at seq (p ∷ ps) (e ∷ es) are by h =
    let elsewhere : int_eq seq e.0 ≡ false = false_from_ne_true (int_eq seq e.0) (λ b. h.0 (sym are.0.seq ∙ sym by.0 ∙ sym ((Decides-int_eq seq e.0).0 b))) in
    ap (λ (b : Bool). cond b (Some e.1) (lookup (int_eq seq) es)) elsewhere ∙ none_at seq ps es are.1 by.1 h.1

-- whether a request that was looked up is that of the reply
abbrev pub is_that_of : Message → Option RequestKey → Bool
is_that_of m found = option_map_or (λ (r : RequestKey). is_replied_to m r.seq r.number r.route) found false

-- a reply of a number that no promise has is promised by none
unpromised : (m : Message) (ps : List Promise) (rs : List RequestKey) → AreApart m.seq ps → is_promised_in (entries_of ps rs) m ≡ false
unpromised m [] rs h = refl
unpromised m (p ∷ ps) [] h = refl
unpromised m (p ∷ ps) (r ∷ rs) h =
    let elsewhere : int_eq m.seq p.seq ≡ false = false_from_ne_true (int_eq m.seq p.seq) (λ b. h.0 (sym ((Decides-int_eq m.seq p.seq).0 b))) in
    ap (λ (b : Bool). (b && ((m.number == r.number + 1) && int_eq m.route p.actor)) || is_promised_in (entries_of ps rs) m) elsewhere ∙ unpromised m ps rs h.1

or_false : (b c : Bool) → c ≡ false → b || c ≡ b
or_false true c e = refl
or_false false c e = e

promised_at : (m : Message) (p : Promise) (ps : List Promise) (r : RequestKey) (es : List (ℤ × RequestKey)) (b : Bool) → int_eq m.seq r.seq ≡ b → IsRequestOf p r → HaveDistinctNumbers (p ∷ ps)
    → is_promised_in (entries_of ps (values_of es)) m ≡ is_that_of m (lookup (int_eq m.seq) es) → is_promised_in (entries_of (p ∷ ps) (r ∷ values_of es)) m ≡ is_that_of m (cond b (Some r) (lookup (int_eq m.seq) es))
promised_at m p ps r es true e is distinct rest =
    let same : m.seq ≡ p.seq = (Decides-int_eq m.seq r.seq).0 e ∙ is.seq in
    let apart : AreApart m.seq ps = subst (λ (z : ℤ). AreApart z ps) (sym same) (first_apart p ps distinct) in
    ap (λ (z : ℤ). is_replied_to m z r.number p.actor || is_promised_in (entries_of ps (values_of es)) m) (sym is.seq)
    ∙ ap (λ (z : ℤ). is_replied_to m r.seq r.number z || is_promised_in (entries_of ps (values_of es)) m) (sym is.actor)
    ∙ or_false (is_replied_to m r.seq r.number r.route) (is_promised_in (entries_of ps (values_of es)) m) (unpromised m ps (values_of es) apart)
promised_at m p ps r es false e is distinct rest =
    ap (λ (z : ℤ). is_replied_to m z r.number p.actor || is_promised_in (entries_of ps (values_of es)) m) (sym is.seq)
    ∙ ap (λ (c : Bool). (c && ((m.number == r.number + 1) && int_eq m.route p.actor)) || is_promised_in (entries_of ps (values_of es)) m) e
    ∙ rest

-- a reply is promised where the request of its number is that of the reply
pub promised-entries : (m : Message) (ps : List Promise) (es : List (ℤ × RequestKey)) → AreRequestsOf ps (values_of es) → HaveDistinctNumbers ps → AreByNumber es → is_promised_in (entries_of ps (values_of es)) m ≡ is_that_of m (lookup (int_eq m.seq) es)
promised-entries m [] [] are distinct by = refl
promised-entries m [] (e ∷ es) are distinct by = absurd are
promised-entries m (p ∷ ps) [] are distinct by = absurd are
promised-entries m (p ∷ ps) (e ∷ es) are distinct by =
    promised_at m p ps e.1 es (int_eq m.seq e.0) (ap (λ (z : ℤ). int_eq m.seq z) (sym by.0)) are.0 distinct (promised-entries m ps es are.1 (rest_distinct p ps distinct) by.1)
