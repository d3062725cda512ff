-- What waits at an end by its passings is what is read of it, in order.
use Rattle.std.proofs.Common.{◌≡◌, ℕ, ◌+◌, ◌≤◌, ℤ, Bool, true, false, not, ◌&&◌, if◌then◌else◌, IsTrue, List, [], ◌∷◌, ◌++◌, filter_map, Option, Some, None, refl, sym, ap, subst, ◌∙◌, arith}
use Rattle.std.specs.List.{cons_option, filter, list_any}
use Rattle.ipdl_base.specs.declared.kinds.Side.{Side}
use Rattle.ipdl_base.specs.declared.line.Line.{Line}
use Rattle.ipdl_base.specs.declared.line.What.{What}
use Rattle.ipdl_base.specs.declared.line.What.TheVariants as what
use Rattle.ipdl_base.specs.declared.schema.Schema.{Schema}
use Rattle.history_reading.specs.declared.parts.PacketKind.{PacketKind}
use Rattle.history_reading.specs.declared.parts.PacketKind.TheVariants as seen
use Rattle.history_reading.specs.EndReading.{EndReading}
use Rattle.history_reading.specs.Numbers.{same_packet}
use Rattle.history_reading.specs.Reading.{after_what, end_reading_of, read, without_first}
use Rattle.channel_laws.specs.Counts.{how_many, is_packet, one_if}
use Rattle.channel_laws.specs.Notes.{In, here, there}
use Rattle.channel_laws.proofs.Counting.{many-append}
use Rattle.law_statements.specs.Arrived.{Passing, arrives, gives_up, is_arrival, is_giving_up, is_leaving, leaves, passing, passings}
use Rattle.law_statements.specs.Packets.{delivered, delivery}
use Rattle.law_statements.specs.Said.{made_of, said_by}
use Rattle.law_statements.specs.Stack.{is_sync_of}
use Rattle.law_statements.proofs.Along.{along}
use Rattle.law_statements.proofs.Arrivals.{arrived-step, held, out-cons, passed}
use Rattle.law_statements.proofs.Fields.{SentRead, sent-more}
use Rattle.law_statements.proofs.Fronts.{same-kind}
use Rattle.law_statements.proofs.Lists.{add, any-add, made-add}
use Rattle.order_statements.specs.Order.{still_waits}
use Rattle.order_statements.specs.Waiting.{waiting}

-- the packets of a list except for one
abbrev others : PacketKind → List PacketKind → List PacketKind
others q xs = filter (λ x. not (same_packet x q)) xs

-- With one more passing

kept-if : (b : Bool) (p : PacketKind) (xs ys : List PacketKind) → (if b then p ∷ (xs ++ ys) else (xs ++ ys)) ≡ (if b then p ∷ xs else xs) ++ ys
kept-if true p xs ys = refl
kept-if false p xs ys = refl

still-arrives : (p q : PacketKind) (ps : List Passing) → still_waits p (ps ++ arrives q ∷ []) ≡ still_waits p ps
still-arrives p q ps =
    ap (λ (b : Bool). not b && not (list_any (is_leaving p) (ps ++ arrives q ∷ []))) (any-add is_giving_up ps (arrives q))
    ∙ ap (λ (b : Bool). not (list_any is_giving_up ps) && not b) (any-add (is_leaving p) ps (arrives q))

pub waiting-arrives : (ps : List Passing) (q : PacketKind) → waiting (ps ++ arrives q ∷ []) ≡ waiting ps ++ q ∷ []
waiting-arrives [] q = refl
waiting-arrives (arrives p ∷ ps) q =
    ap (λ (b : Bool). if b then p ∷ waiting (ps ++ arrives q ∷ []) else waiting (ps ++ arrives q ∷ [])) (still-arrives p q ps)
    ∙ ap (λ (xs : List PacketKind). if still_waits p ps then p ∷ xs else xs) (waiting-arrives ps q)
    ∙ kept-if (still_waits p ps) p (waiting ps) (q ∷ [])
waiting-arrives (leaves p ∷ ps) q = waiting-arrives ps q
waiting-arrives (gives_up ∷ ps) q = waiting-arrives ps q

pub waiting-given_up : (ps : List Passing) → waiting (ps ++ gives_up ∷ []) ≡ []
waiting-given_up [] = refl
waiting-given_up (arrives p ∷ ps) =
    ap (λ (b : Bool). if not b && not (list_any (is_leaving p) (ps ++ gives_up ∷ [])) then p ∷ waiting (ps ++ gives_up ∷ []) else waiting (ps ++ gives_up ∷ [])) (any-add is_giving_up ps gives_up)
    ∙ waiting-given_up ps
waiting-given_up (leaves p ∷ ps) = waiting-given_up ps
waiting-given_up (gives_up ∷ ps) = waiting-given_up ps

same-swap : (p q : PacketKind) → same_packet p q ≡ same_packet q p
same-swap p q = by (same_packet p q) refl (same_packet q p) refl
  where
    by : (b : Bool) → same_packet p q ≡ b → (c : Bool) → same_packet q p ≡ c → b ≡ c
    by true x true y = refl
    by true x false y = let k : same_packet q p ≡ true = (same-kind q p).1 (sym ((same-kind p q).0 x)) in cc
    by false x true y = let k : same_packet p q ≡ true = (same-kind p q).1 (sym ((same-kind q p).0 y)) in cc
    by false x false y = refl

still-leaves : (p q : PacketKind) (ps : List Passing) → still_waits p (ps ++ leaves q ∷ []) ≡ (if same_packet p q then false else still_waits p ps)
still-leaves p q ps =
    ap (λ (b : Bool). not b && not (list_any (is_leaving p) (ps ++ leaves q ∷ []))) (any-add is_giving_up ps (leaves q))
    ∙ ap (λ (b : Bool). not (list_any is_giving_up ps) && not b) (any-add (is_leaving p) ps (leaves q))
    ∙ ap (λ (b : Bool). not (list_any is_giving_up ps) && not (if b then true else list_any (is_leaving p) ps)) (same-swap q p)
    ∙ by (same_packet p q) (list_any is_giving_up ps)
  where
    by : (b g : Bool) → not g && not (if b then true else list_any (is_leaving p) ps) ≡ (if b then false else (not g && not (list_any (is_leaving p) ps)))
    by true true = refl
    by true false = refl
    by false g = refl

pub waiting-leaves : (ps : List Passing) (q : PacketKind) → waiting (ps ++ leaves q ∷ []) ≡ filter (λ x. not (same_packet x q)) (waiting ps)
waiting-leaves [] q = refl
waiting-leaves (arrives p ∷ ps) q =
    ap (λ (b : Bool). if b then p ∷ waiting (ps ++ leaves q ∷ []) else waiting (ps ++ leaves q ∷ [])) (still-leaves p q ps)
    ∙ ap (λ (xs : List PacketKind). if (if same_packet p q then false else still_waits p ps) then p ∷ xs else xs) (waiting-leaves ps q)
    ∙ by (same_packet p q) refl (still_waits p ps)
  where
    by : (s : Bool) → same_packet p q ≡ s → (w : Bool) → (if (if s then false else w) then p ∷ others q (waiting ps) else others q (waiting ps)) ≡ others q (if w then p ∷ waiting ps else waiting ps)
    by true is true = sym (ap (λ (b : Bool). if not b then p ∷ others q (waiting ps) else others q (waiting ps)) is)
    by true is false = refl
    by false is true = sym (ap (λ (b : Bool). if not b then p ∷ others q (waiting ps) else others q (waiting ps)) is)
    by false is false = refl
waiting-leaves (leaves p ∷ ps) q = waiting-leaves ps q
waiting-leaves (gives_up ∷ ps) q = waiting-leaves ps q

-- The packet that leaves is the first, if it is there only once

others-none : (q : PacketKind) (xs : List PacketKind) → held q xs ≡ 0 → others q xs ≡ xs
others-none q [] e = refl
others-none q (x ∷ xs) e = by (same_packet x q) e (others-none q xs)
  where
    by : (b : Bool) → (if b then held q xs + 1 else held q xs) ≡ 0 → (held q xs ≡ 0 → others q xs ≡ xs) → (if not b then x ∷ others q xs else others q xs) ≡ x ∷ xs
    by true e rec = absurd (omega (arith, e))
    by false e rec = ap (λ (ys : List PacketKind). x ∷ ys) (rec e)

others-first : (q : PacketKind) (xs : List PacketKind) → held q xs ≤ 1 → without_first q xs ≡ others q xs
unfolding without_first
others-first q [] e = refl
others-first q (x ∷ xs) e = out-cons q x xs ∙ by (same_packet x q) e (others-first q xs)
  where
    by : (b : Bool) → (if b then held q xs + 1 else held q xs) ≤ 1 → (held q xs ≤ 1 → without_first q xs ≡ others q xs) → (if b then xs else x ∷ without_first q xs) ≡ (if not b then x ∷ others q xs else others q xs)
    by true e rec = sym (others-none q xs (omega (arith, e)))
    by false e rec = ap (λ (ys : List PacketKind). x ∷ ys) (rec e)

held-few : (q : PacketKind) (ps : List Passing) → held q (waiting ps) ≤ how_many (is_arrival q) ps
held-few q [] = omega arith
held-few q (arrives p ∷ ps) = by (still_waits p ps) (held-few q ps)
  where
    one : (b : Bool) → held q (waiting ps) ≤ how_many (is_arrival q) ps → (if b then held q (waiting ps) + 1 else held q (waiting ps)) ≤ one_if b + how_many (is_arrival q) ps
    one true rec = omega (arith, rec)
    one false rec = omega (arith, rec)

    by : (w : Bool) → held q (waiting ps) ≤ how_many (is_arrival q) ps → held q (if w then p ∷ waiting ps else waiting ps) ≤ one_if (same_packet p q) + how_many (is_arrival q) ps
    by true rec = one (same_packet p q) rec
    by false rec = omega (arith, rec)
held-few q (leaves p ∷ ps) = let rec = held-few q ps in omega arith
held-few q (gives_up ∷ ps) = let rec = held-few q ps in omega arith

-- Each request and each reply arrives at most once.
pub record ArriveOnce (ps : List Passing) : Type 0 where
  pub requests : (n : ℤ) → how_many (is_arrival (seen.Request n)) ps ≤ 1
  pub replies : (n : ℤ) → how_many (is_arrival (seen.Reply n)) ps ≤ 1

fewer : (q : PacketKind) (ps : List Passing) (o : Option Passing) → how_many (is_arrival q) (add ps o) ≤ 1 → how_many (is_arrival q) ps ≤ 1
fewer q ps None h = h
fewer q ps (Some x) h = let all = many-append (is_arrival q) ps (x ∷ []) in omega (arith, h, all)

once-before : (ps : List Passing) (o : Option Passing) → ArriveOnce (add ps o) → ArriveOnce ps
once-before ps o h = record { requests = λ n. fewer (seen.Request n) ps o (h.requests n); replies = λ n. fewer (seen.Reply n) ps o (h.replies n) }

-- what leaves has arrived at most once
leaver-once : (schema : Schema) (said : List What) (w : What) (ps : List Passing) → ArriveOnce ps → (q : PacketKind) → passing schema said w ≡ Some (leaves q) → how_many (is_arrival q) ps ≤ 1
leaver-once schema said (what.DeliverReply n) ps h q e = by (is_sync_of schema said n) e
  where
    by : (b : Bool) → (if b then None else Some (arrives (seen.Reply n))) ≡ Some (leaves q) → how_many (is_arrival q) ps ≤ 1
    by true e = cc
    by false e = cc
leaver-once schema said (what.Take n route number values) ps h q e = let same : seen.Request n ≡ q = cc in subst (λ (p : PacketKind). how_many (is_arrival p) ps ≤ 1) same (h.requests n)
leaver-once schema said (what.Drop n route number id) ps h q e = let same : seen.Request n ≡ q = cc in subst (λ (p : PacketKind). how_many (is_arrival p) ps ≤ 1) same (h.requests n)
leaver-once schema said (what.Replaced n) ps h q e = let same : seen.Request n ≡ q = cc in subst (λ (p : PacketKind). how_many (is_arrival p) ps ≤ 1) same (h.requests n)
leaver-once schema said (what.TakeReply n) ps h q e = let same : seen.Reply n ≡ q = cc in subst (λ (p : PacketKind). how_many (is_arrival p) ps ≤ 1) same (h.replies n)
leaver-once schema said _ ps h q e = cc

waiting-passed : (ps : List Passing) (o : Option Passing) → ((q : PacketKind) → o ≡ Some (leaves q) → how_many (is_arrival q) ps ≤ 1) → passed o (waiting ps) ≡ waiting (add ps o)
waiting-passed ps None h = refl
waiting-passed ps (Some (arrives p)) h = sym (waiting-arrives ps p)
waiting-passed ps (Some (leaves p)) h = others-first p (waiting ps) (let few = held-few p ps in let once = h p refl in omega arith) ∙ sym (waiting-leaves ps p)
waiting-passed ps (Some gives_up) h = sym (waiting-given_up ps)

-- Along the lines of an end

record WaitingRead (schema : Schema) (own : EndReading) (said : List What) : Type 0 where
  sent : SentRead schema own said
  arrived : ArriveOnce (passings schema said) → own.arrived ≡ waiting (passings schema said)

waiting-more : (schema : Schema) (place : ℕ) (own : EndReading) (said : List What) (w : What) → WaitingRead schema own said → WaitingRead schema (after_what schema place w own) (said ++ w ∷ [])
waiting-more schema place own said w p = record {
  sent = sent-more schema place own said w p.sent;
  arrived = λ h.
      let more : passings schema (said ++ w ∷ []) ≡ add (passings schema said) (passing schema said w) = made-add (passing schema) [] said w in
      let once : ArriveOnce (passings schema said) = once-before (passings schema said) (passing schema said w) (subst ArriveOnce more h) in
      arrived-step schema place w own said p.sent.sent
      ∙ ap (passed (passing schema said w)) (p.arrived once)
      ∙ waiting-passed (passings schema said) (passing schema said w) (leaver-once schema said w (passings schema said) once)
      ∙ ap waiting (sym more);
}

pub waiting-read : (schema : Schema) (end : Side) (lines : List Line) → ArriveOnce (passings schema (said_by end lines)) → (end_reading_of end (read schema lines)).arrived ≡ waiting (passings schema (said_by end lines))
waiting-read schema end lines h = (along schema (WaitingRead schema) (record { sent = record { ended = refl; made = refl; sent = refl }; arrived = λ h. refl }) (waiting-more schema) end lines).arrived h

-- what arrives is delivered
few-arrive : (schema : Schema) (q : PacketKind) (before xs : List What) → how_many (is_arrival q) (made_of (passing schema) before xs) ≤ how_many (is_packet q) (filter_map delivery xs)
few-arrive schema q before [] = omega arith
few-arrive schema q before (what.DeliverRequest n ∷ xs) = let rec = few-arrive schema q (before ++ what.DeliverRequest n ∷ []) xs in omega arith
few-arrive schema q before (what.DeliverReply n ∷ xs) = by (is_sync_of schema before n) (few-arrive schema q (before ++ what.DeliverReply n ∷ []) xs)
  where
    by : (b : Bool) → how_many (is_arrival q) (made_of (passing schema) (before ++ what.DeliverReply n ∷ []) xs) ≤ how_many (is_packet q) (filter_map delivery xs)
        → how_many (is_arrival q) (cons_option (if b then None else Some (arrives (seen.Reply n))) (made_of (passing schema) (before ++ what.DeliverReply n ∷ []) xs)) ≤ one_if (same_packet (seen.Reply n) q) + how_many (is_packet q) (filter_map delivery xs)
    by true rec = omega (arith, rec)
    by false rec = omega (arith, rec)
few-arrive schema q before (what.DeliverGoodbye ∷ xs) = let rec = few-arrive schema q (before ++ what.DeliverGoodbye ∷ []) xs in omega arith
few-arrive schema q before (what.DeliverBroken ∷ xs) = let rec = few-arrive schema q (before ++ what.DeliverBroken ∷ []) xs in omega arith
few-arrive schema q before (w ∷ xs) = let rec = few-arrive schema q (before ++ w ∷ []) xs in omega arith

pub once-arrived : (schema : Schema) (said : List What) → ((n : ℤ) → how_many (is_packet (seen.Request n)) (delivered said) ≤ 1) → ((n : ℤ) → how_many (is_packet (seen.Reply n)) (delivered said) ≤ 1) → ArriveOnce (passings schema said)
once-arrived schema said requests replies = record {
  requests = λ n. let few = few-arrive schema (seen.Request n) [] said in let one = requests n in omega arith;
  replies = λ n. let few = few-arrive schema (seen.Reply n) [] said in let one = replies n in omega arith;
}

-- Places

-- A packet that waits, with the passings before and after its arrival. Each older one that waits then is among these.
pub record WaitsAt (ps : List Passing) (olders : List PacketKind) (p : PacketKind) : Type 0 where
  pub earlier : List Passing
  pub later : List Passing
  pub whole : ps ≡ earlier ++ arrives p ∷ later
  pub waits : IsTrue (still_waits p later)
  pub older : (q : PacketKind) (front back : List Passing) → earlier ≡ front ++ arrives q ∷ back → IsTrue (still_waits q (back ++ arrives p ∷ later)) → In q olders

-- one more passing before
following : (x : Passing) (ps : List Passing) (xs ys : List PacketKind) (p : PacketKind) → ((q : PacketKind) → x ≡ arrives q → IsTrue (still_waits q ps) → In q ys) → ((q : PacketKind) → In q xs → In q ys) → WaitsAt ps xs p → WaitsAt (x ∷ ps) ys p
following x ps xs ys p first rest h = record {
  earlier = x ∷ h.earlier;
  later = h.later;
  whole = ap (λ (zs : List Passing). x ∷ zs) h.whole;
  waits = h.waits;
  older = by;
}
  where
    by : (q : PacketKind) (front back : List Passing) → x ∷ h.earlier ≡ front ++ arrives q ∷ back → IsTrue (still_waits q (back ++ arrives p ∷ h.later)) → In q ys
    by q [] back e w =
        let is : x ≡ arrives q = cc in
        let same : h.earlier ≡ back = cc in
        first q is (subst (λ (zs : List Passing). IsTrue (still_waits q zs)) (ap (λ (zs : List Passing). zs ++ arrives p ∷ h.later) (sym same) ∙ sym h.whole) w)
    by q (y ∷ front) back e w = let same : h.earlier ≡ front ++ arrives q ∷ back = cc in rest q (h.older q front back same w)

pub no-place : (front back : List Passing) (x : Passing) → [] ≡ front ++ x ∷ back → ⊥
no-place [] back x e = cc
no-place (y ∷ front) back x e = cc

pub waits-at : (ps : List Passing) (xs ys : List PacketKind) (p : PacketKind) → waiting ps ≡ xs ++ p ∷ ys → WaitsAt ps xs p
waits-at [] [] ys p e = cc
waits-at [] (x ∷ xs) ys p e = cc
waits-at (leaves q ∷ ps) xs ys p e = following (leaves q) ps xs xs p (λ r is w. cc) (λ r i. i) (waits-at ps xs ys p e)
waits-at (gives_up ∷ ps) xs ys p e = following gives_up ps xs xs p (λ r is w. cc) (λ r i. i) (waits-at ps xs ys p e)
waits-at (arrives q ∷ ps) xs ys p e = by (still_waits q ps) refl xs e (λ zs k. waits-at ps zs ys p k)
  where
    by : (b : Bool) → still_waits q ps ≡ b → (xs : List PacketKind) → (if b then q ∷ waiting ps else waiting ps) ≡ xs ++ p ∷ ys → ((zs : List PacketKind) → waiting ps ≡ zs ++ p ∷ ys → WaitsAt ps zs p) → WaitsAt (arrives q ∷ ps) xs p
    by false is xs e rec = following (arrives q) ps xs xs p (λ r same w. let s : q ≡ r = cc in let k : still_waits r ps ≡ false = subst (λ (z : PacketKind). still_waits z ps ≡ false) s is in cc) (λ r i. i) (rec xs e)
    by true is [] e rec =
        let same : q ≡ p = cc in
        subst (WaitsAt (arrives q ∷ ps) []) same (record { earlier = []; later = ps; whole = refl; waits = is; older = λ r front back k w. absurd (no-place front back (arrives r) k) })
    by true is (x ∷ xs) e rec =
        let same : q ≡ x = cc in
        following (arrives q) ps xs (x ∷ xs) p (λ r k w. let s : x ≡ r = cc in subst (λ (z : PacketKind). In r (z ∷ xs)) (sym s) here) (λ r i. there i) (rec xs cc)

-- a packet that arrived and still waits is among all that wait
pub waits-in : (ps earlier later : List Passing) (p : PacketKind) → ps ≡ earlier ++ arrives p ∷ later → IsTrue (still_waits p later) → In p (waiting ps)
waits-in ps earlier later p e w = subst (λ (zs : List Passing). In p (waiting zs)) (sym e) (by earlier)
  where
    kept : (b : Bool) (q : PacketKind) (xs : List PacketKind) → In p xs → In p (if b then q ∷ xs else xs)
    kept true q xs i = there i
    kept false q xs i = i

    first : (b : Bool) → b ≡ true → In p (if b then p ∷ waiting later else waiting later)
    first true is = here
    first false is = cc

    by : (earlier : List Passing) → In p (waiting (earlier ++ arrives p ∷ later))
    by [] = first (still_waits p later) w
    by (arrives q ∷ earlier) = kept (still_waits q (earlier ++ arrives p ∷ later)) q (waiting (earlier ++ arrives p ∷ later)) (by earlier)
    by (leaves q ∷ earlier) = by earlier
    by (gives_up ∷ earlier) = by earlier
