-- What has arrived and not left, by counts.
use Rattle.std.proofs.Common.{◌≡◌, ◌⊎◌, inl, inr, ℕ, zero, suc, ◌+◌, ◌-◌, ◌<◌, ◌≤◌, nat_lt, ℤ, Bool, true, false, not, ◌||◌, cond, if◌then◌else◌, List, [], ◌∷◌, ◌++◌, length, count_by, Option, Some, None, refl, sym, ap, subst, ◌∙◌, arith, append_assoc}
use Rattle.std.specs.Prelude.{remove}
use Rattle.std.specs.Bool.{Decides}
use Rattle.std.specs.List.{list_any, position_or_len}
use Rattle.std.specs.Option.{option_map_or}
use Rattle.std.proofs.lemmas.Bool.{lt-ltb, le-ltb, ltb-true, ltb-false}
use Rattle.std.proofs.lemmas.List.{append-nil, same_from_push}
use Rattle.ipdl_base.specs.declared.kinds.Side.{Side}
use Rattle.ipdl_base.specs.declared.line.Line.{Line}
use Rattle.ipdl_base.specs.declared.line.What.{What}
use Rattle.ipdl_base.specs.declared.line.What.TheVariants as what
use Rattle.ipdl_base.specs.declared.schema.Schema.{Schema}
use Rattle.history_reading.specs.declared.parts.PacketKind.{PacketKind}
use Rattle.history_reading.specs.declared.parts.PacketKind.TheVariants as seen
use Rattle.history_reading.specs.EndReading.{EndReading, is_sync_request}
use Rattle.history_reading.specs.Numbers.{has_packet, same_packet}
use Rattle.history_reading.specs.Reading.{after_what, answering, arriving, delivering, end_reading_of, read, without_first}
use Rattle.history_reading.specs.SentPacket.{Request, SentPacket, request_of}
use Rattle.law_statements.specs.Said.{said_by}
use Rattle.law_statements.specs.Packets.{sent}
use Rattle.law_statements.specs.Arrived.{IsArrived, Passing, arrives, gives_up, is_arrival, is_giving_up, is_leaving, leaves, passing, passings}
use Rattle.law_statements.proofs.Along.{along}
use Rattle.law_statements.proofs.Fields.{SentRead, sent-more}
use Rattle.law_statements.proofs.Fronts.{same-kind}
use Rattle.law_statements.proofs.Lists.{add, any-add, count-add, made-add}

-- A packet that leaves

one-more : (n : ℕ) → 1 + n ≡ suc n
one-more n = omega arith

lt-more : (m n : ℕ) → nat_lt (1 + m) (suc n) ≡ nat_lt m n
lt-more m n = by (nat_lt m n) refl
  where
    by : (b : Bool) → nat_lt m n ≡ b → nat_lt (1 + m) (suc n) ≡ nat_lt m n
    by true is = lt-ltb (1 + m) (suc n) (omega (arith, ltb-true m n is)) ∙ sym is
    by false is = le-ltb (1 + m) (suc n) (omega (arith, ltb-false m n is)) ∙ sym is

pub out-cons : (p x : PacketKind) (xs : List PacketKind) → without_first p (x ∷ xs) ≡ (if same_packet x p then xs else x ∷ without_first p xs)
unfolding without_first
out-cons p x xs = by (same_packet x p)
  where
    later : (b : Bool) (m : ℕ) → option_map_or (remove (x ∷ xs)) (cond b (Some (1 + m)) None) (x ∷ xs) ≡ x ∷ option_map_or (remove xs) (cond b (Some m) None) xs
    later true m = ap (remove (x ∷ xs)) (one-more m)
    later false m = refl

    by : (b : Bool) → option_map_or (remove (x ∷ xs)) (cond (nat_lt (cond (not b) (1 + position_or_len (λ q. same_packet q p) xs) 0) (length (x ∷ xs))) (Some (cond (not b) (1 + position_or_len (λ q. same_packet q p) xs) 0)) None) (x ∷ xs)
        ≡ (if b then xs else x ∷ option_map_or (remove xs) (cond (nat_lt (position_or_len (λ q. same_packet q p) xs) (length xs)) (Some (position_or_len (λ q. same_packet q p) xs)) None) xs)
    by true = ap (λ (t : Bool). option_map_or (remove (x ∷ xs)) (cond t (Some 0) None) (x ∷ xs)) (lt-ltb 0 (suc (length xs)) (omega arith))
    by false =
        ap (λ (t : Bool). option_map_or (remove (x ∷ xs)) (cond t (Some (1 + position_or_len (λ q. same_packet q p) xs)) None) (x ∷ xs)) (lt-more (position_or_len (λ q. same_packet q p) xs) (length xs))
        ∙ later (nat_lt (position_or_len (λ q. same_packet q p) xs) (length xs)) (position_or_len (λ q. same_packet q p) xs)

-- the number of times that a packet is in a list
abbrev pub held : PacketKind → List PacketKind → ℕ
held q [] = 0
held q (x ∷ xs) = if same_packet x q then held q xs + 1 else held q xs

held-last : (q : PacketKind) (xs : List PacketKind) (p : PacketKind) → held q (xs ++ p ∷ []) ≡ (if same_packet p q then held q xs + 1 else held q xs)
held-last q [] p = refl
held-last q (x ∷ xs) p = ap (λ (n : ℕ). if same_packet x q then n + 1 else n) (held-last q xs p) ∙ by (same_packet x q) (same_packet p q)
  where
    by : (b c : Bool) → (if b then (if c then held q xs + 1 else held q xs) + 1 else (if c then held q xs + 1 else held q xs)) ≡ (if c then (if b then held q xs + 1 else held q xs) + 1 else (if b then held q xs + 1 else held q xs))
    by true true = refl
    by true false = refl
    by false true = refl
    by false false = refl

held-out : (q p : PacketKind) (xs : List PacketKind) → held q (without_first p xs) ≡ (if same_packet p q then held q xs - 1 else held q xs)
unfolding without_first
held-out q p [] = by (same_packet p q)
  where
    by : (b : Bool) → 0 ≡ (if b then 0 - 1 else 0)
    by true = refl
    by false = refl
held-out q p (x ∷ xs) = ap (held q) (out-cons p x xs) ∙ by (same_packet x p) refl (held-out q p xs)
  where
    less : (n : ℕ) → n ≡ n + 1 - 1
    less n = omega arith

    more : (b c : Bool) (m n : ℕ) → m ≡ (if c then n - 1 else n) → (b ≡ true → c ≡ true → ⊥) → (if b then m + 1 else m) ≡ (if c then (if b then n + 1 else n) - 1 else (if b then n + 1 else n))
    more true true m n e h = absurd (h refl refl)
    more true false m n e h = ap (λ k. k + 1) e
    more false c m n e h = e

    same : (b : Bool) → held q xs ≡ (if b then (if b then held q xs + 1 else held q xs) - 1 else (if b then held q xs + 1 else held q xs))
    same true = less (held q xs)
    same false = refl

    by : (b : Bool) → same_packet x p ≡ b → held q (without_first p xs) ≡ (if same_packet p q then held q xs - 1 else held q xs)
        → held q (if b then xs else x ∷ without_first p xs) ≡ (if same_packet p q then (if same_packet x q then held q xs + 1 else held q xs) - 1 else (if same_packet x q then held q xs + 1 else held q xs))
    by true is rec = same (same_packet p q) ∙ ap (λ (t : Bool). if same_packet p q then (if t then held q xs + 1 else held q xs) - 1 else (if t then held q xs + 1 else held q xs)) (ap (λ (y : PacketKind). same_packet y q) (sym ((same-kind x p).0 is)))
    by false is rec = more (same_packet x q) (same_packet p q) (held q (without_first p xs)) (held q xs) rec apart
      where
        apart : same_packet x q ≡ true → same_packet p q ≡ true → ⊥
        apart a b = cc (is, (same-kind x p).1 ((same-kind x q).0 a ∙ sym ((same-kind p q).0 b)))

pub held-any : (q : PacketKind) (xs : List PacketKind) → Decides (has_packet xs q) (0 < held q xs)
held-any q [] = (λ e. cc, λ l. absurd (omega (arith, l)))
held-any q (x ∷ xs) = by (same_packet x q) (held-any q xs)
  where
    by : (b : Bool) → Decides (has_packet xs q) (0 < held q xs) → Decides (b || has_packet xs q) (0 < (if b then held q xs + 1 else held q xs))
    by true d = (λ e. omega arith, λ l. refl)
    by false d = d

-- What one more passing does

abbrev pub passed : Option Passing → List PacketKind → List PacketKind
passed None xs = xs
passed (Some (arrives p)) xs = xs ++ p ∷ []
passed (Some (leaves p)) xs = without_first p xs
passed (Some gives_up) xs = []

abbrev pub passed_count : PacketKind → Option Passing → ℕ → ℕ
passed_count q None c = c
passed_count q (Some (arrives p)) c = if same_packet p q then c + 1 else c
passed_count q (Some (leaves p)) c = if same_packet p q then c - 1 else c
passed_count q (Some gives_up) c = 0

held-passed : (q : PacketKind) (o : Option Passing) (xs : List PacketKind) → held q (passed o xs) ≡ passed_count q o (held q xs)
held-passed q None xs = refl
held-passed q (Some (arrives p)) xs = held-last q xs p
held-passed q (Some (leaves p)) xs = held-out q p xs
held-passed q (Some gives_up) xs = refl

-- The count is the greatest number by which arrivals exceed departures, from some place on

record Most (q : PacketKind) (ps : List Passing) (c : ℕ) : Type 0 where
  bound : (front following : List Passing) → ps ≡ front ++ following → list_any is_giving_up following ≡ false → count_by (is_arrival q) following ≤ count_by (is_leaving q) following + c
  front : List Passing
  following : List Passing
  split : ps ≡ front ++ following
  kept : list_any is_giving_up following ≡ false
  reached : count_by (is_arrival q) following ≡ count_by (is_leaving q) following + c

last-of : {A : Type 0} (xs : List A) → (xs ≡ []) ⊎ ((ys : List A) × (y : A) × (xs ≡ ys ++ y ∷ []))
last-of [] = inl refl
last-of (x ∷ xs) = by (last-of xs)
  where
    by : (xs ≡ []) ⊎ ((ys : List _) × (y : _) × (xs ≡ ys ++ y ∷ [])) → ((x ∷ xs) ≡ []) ⊎ ((ys : List _) × (y : _) × ((x ∷ xs) ≡ ys ++ y ∷ []))
    by (inl e) = inr ([], x, ap (λ zs. x ∷ zs) e)
    by (inr r) = inr (x ∷ r.0, r.1, ap (λ zs. x ∷ zs) r.2)

bound-step : (q : PacketKind) (ps : List Passing) (x : Passing) (c d : ℕ) → Most q ps c
    → ((b : List Passing) → is_giving_up x ≡ false → count_by (is_arrival q) b ≤ count_by (is_leaving q) b + c → count_by (is_arrival q) (b ++ x ∷ []) ≤ count_by (is_leaving q) (b ++ x ∷ []) + d)
    → (front following : List Passing) → ps ++ x ∷ [] ≡ front ++ following → list_any is_giving_up following ≡ false → count_by (is_arrival q) following ≤ count_by (is_leaving q) following + d
bound-step q ps x c d m h front following e k = by (last-of following)
  where
    none : (n : ℕ) → 0 ≤ 0 + n
    none n = omega arith

    keeps : (b : Bool) (t : Bool) → (if b then true else t) ≡ false → (b ≡ false) × (t ≡ false)
    keeps true t f = cc
    keeps false t f = (refl, f)

    by : (following ≡ []) ⊎ ((ys : List Passing) × (y : Passing) × (following ≡ ys ++ y ∷ [])) → count_by (is_arrival q) following ≤ count_by (is_leaving q) following + d
    by (inl is) = subst (λ (b : List Passing). count_by (is_arrival q) b ≤ count_by (is_leaving q) b + d) (sym is) (none d)
    by (inr r) =
        let same : (ps ≡ front ++ r.0) × (x ≡ r.1) = same_from_push ps (front ++ r.0) x r.1 (e ∙ ap (λ (b : List Passing). front ++ b) r.2 ∙ sym (append_assoc front r.0 (r.1 ∷ []))) in
        let whole : following ≡ r.0 ++ x ∷ [] = r.2 ∙ ap (λ (y : Passing). r.0 ++ y ∷ []) (sym same.1) in
        let kept : (is_giving_up x ≡ false) × (list_any is_giving_up r.0 ≡ false) = keeps (is_giving_up x) (list_any is_giving_up r.0) (sym (any-add is_giving_up r.0 x) ∙ ap (list_any is_giving_up) (sym whole) ∙ k) in
        subst (λ (b : List Passing). count_by (is_arrival q) b ≤ count_by (is_leaving q) b + d) (sym whole) (h r.0 kept.0 (m.bound front r.0 same.0 kept.1))

counts-more : (q : PacketKind) (b : List Passing) (x : Passing) (d : ℕ)
    → ((if is_arrival q x then count_by (is_arrival q) b + 1 else count_by (is_arrival q) b) ≤ (if is_leaving q x then count_by (is_leaving q) b + 1 else count_by (is_leaving q) b) + d)
    → count_by (is_arrival q) (b ++ x ∷ []) ≤ count_by (is_leaving q) (b ++ x ∷ []) + d
counts-more q b x d h = subst (λ (n : ℕ). n ≤ count_by (is_leaving q) (b ++ x ∷ []) + d) (sym (count-add (is_arrival q) b x))
    (subst (λ (n : ℕ). (if is_arrival q x then count_by (is_arrival q) b + 1 else count_by (is_arrival q) b) ≤ n + d) (sym (count-add (is_leaving q) b x)) h)

following-more : (q : PacketKind) (ps : List Passing) (x : Passing) (c d : ℕ) → Most q ps c → is_giving_up x ≡ false
    → ((front following : List Passing) → ps ++ x ∷ [] ≡ front ++ following → list_any is_giving_up following ≡ false → count_by (is_arrival q) following ≤ count_by (is_leaving q) following + d)
    → ((a l : ℕ) → a ≡ l + c → (if is_arrival q x then a + 1 else a) ≡ (if is_leaving q x then l + 1 else l) + d) → Most q (ps ++ x ∷ []) d
following-more q ps x c d m g bound h = record {
  bound = bound;
  front = m.front;
  following = m.following ++ x ∷ [];
  split = ap (λ (ys : List Passing). ys ++ x ∷ []) m.split ∙ append_assoc m.front m.following (x ∷ []);
  kept = any-add is_giving_up m.following x ∙ ap (λ (b : Bool). if b then true else list_any is_giving_up m.following) g ∙ m.kept;
  reached = count-add (is_arrival q) m.following x ∙ h (count_by (is_arrival q) m.following) (count_by (is_leaving q) m.following) m.reached ∙ ap (λ (n : ℕ). n + d) (sym (count-add (is_leaving q) m.following x));
}

nothing-following : (q : PacketKind) (ps : List Passing) (x : Passing) → ((front following : List Passing) → ps ++ x ∷ [] ≡ front ++ following → list_any is_giving_up following ≡ false → count_by (is_arrival q) following ≤ count_by (is_leaving q) following + 0)
    → Most q (ps ++ x ∷ []) 0
nothing-following q ps x bound = record { bound = bound; front = ps ++ x ∷ []; following = []; split = sym (append-nil (ps ++ x ∷ [])); kept = refl; reached = refl }

arrive-more : (q : PacketKind) (ps : List Passing) (p : PacketKind) (c : ℕ) → Most q ps c → (b : Bool) → same_packet p q ≡ b → Most q (ps ++ arrives p ∷ []) (if b then c + 1 else c)
arrive-more q ps p c m b is =
    following-more q ps (arrives p) c (if b then c + 1 else c) m refl
    (bound-step q ps (arrives p) c (if b then c + 1 else c) m (λ ys g h. counts-more q ys (arrives p) (if b then c + 1 else c)
    (subst (λ (t : Bool). (if t then count_by (is_arrival q) ys + 1 else count_by (is_arrival q) ys) ≤ count_by (is_leaving q) ys + (if b then c + 1 else c)) (sym is) (up b (count_by (is_arrival q) ys) (count_by (is_leaving q) ys) h))))
    (λ a l e. subst (λ (t : Bool). (if t then a + 1 else a) ≡ l + (if b then c + 1 else c)) (sym is) (even b a l e))
  where
    up : (t : Bool) (a l : ℕ) → a ≤ l + c → (if t then a + 1 else a) ≤ l + (if t then c + 1 else c)
    up true a l h = omega (arith, h)
    up false a l h = h

    even : (t : Bool) (a l : ℕ) → a ≡ l + c → (if t then a + 1 else a) ≡ l + (if t then c + 1 else c)
    even true a l e = omega (arith, e)
    even false a l e = e

leave-more : (q : PacketKind) (ps : List Passing) (p : PacketKind) (c : ℕ) → Most q ps c → (b : Bool) → same_packet p q ≡ b → Most q (ps ++ leaves p ∷ []) (if b then c - 1 else c)
leave-more q ps p c m false is =
    following-more q ps (leaves p) c c m refl
    (bound-step q ps (leaves p) c c m (λ ys g h. counts-more q ys (leaves p) c (subst (λ (t : Bool). count_by (is_arrival q) ys ≤ (if t then count_by (is_leaving q) ys + 1 else count_by (is_leaving q) ys) + c) (sym is) h)))
    (λ a l e. subst (λ (t : Bool). a ≡ (if t then l + 1 else l) + c) (sym is) e)
leave-more q ps p zero m true is =
    nothing-following q ps (leaves p) (bound-step q ps (leaves p) 0 0 m (λ ys g h. counts-more q ys (leaves p) 0
    (subst (λ (t : Bool). count_by (is_arrival q) ys ≤ (if t then count_by (is_leaving q) ys + 1 else count_by (is_leaving q) ys) + 0) (sym is) (down (count_by (is_arrival q) ys) (count_by (is_leaving q) ys) h))))
  where
    down : (a l : ℕ) → a ≤ l + 0 → a ≤ l + 1 + 0
    down a l h = omega (arith, h)
leave-more q ps p (suc c) m true is =
    following-more q ps (leaves p) (suc c) (suc c - 1) m refl
    (bound-step q ps (leaves p) (suc c) (suc c - 1) m (λ ys g h. counts-more q ys (leaves p) (suc c - 1)
    (subst (λ (t : Bool). count_by (is_arrival q) ys ≤ (if t then count_by (is_leaving q) ys + 1 else count_by (is_leaving q) ys) + (suc c - 1)) (sym is) (down (count_by (is_arrival q) ys) (count_by (is_leaving q) ys) h))))
    (λ a l e. subst (λ (t : Bool). a ≡ (if t then l + 1 else l) + (suc c - 1)) (sym is) (even a l e))
  where
    down : (a l : ℕ) → a ≤ l + suc c → a ≤ l + 1 + (suc c - 1)
    down a l h = omega (arith, h)

    even : (a l : ℕ) → a ≡ l + suc c → a ≡ l + 1 + (suc c - 1)
    even a l e = omega (arith, e)

most-more : (q : PacketKind) (ps : List Passing) (o : Option Passing) (c : ℕ) → Most q ps c → Most q (add ps o) (passed_count q o c)
most-more q ps None c m = m
most-more q ps (Some (arrives p)) c m = arrive-more q ps p c m (same_packet p q) refl
most-more q ps (Some (leaves p)) c m = leave-more q ps p c m (same_packet p q) refl
most-more q ps (Some gives_up) c m = nothing-following q ps gives_up (bound-step q ps gives_up c 0 m (λ ys g h. cc))

-- What is read

record ArrivedRead (schema : Schema) (q : PacketKind) (own : EndReading) (said : List What) : Type 0 where
  sent : SentRead schema own said
  most : Most q (passings schema said) (held q own.arrived)

reply-arrives : (n : ℤ) (own : EndReading) (b : Bool) → (if b then answering n (delivering (seen.Reply n) own) else arriving (seen.Reply n) own).arrived ≡ passed (if b then None else Some (arrives (seen.Reply n))) own.arrived
reply-arrives n own true = refl
reply-arrives n own false = refl

pub arrived-step : (schema : Schema) (place : ℕ) (w : What) (own : EndReading) (said : List What) → own.sent ≡ sent schema said → (after_what schema place w own).arrived ≡ passed (passing schema said w) own.arrived
arrived-step schema place (what.DeliverReply n) own said e =
    reply-arrives n own (is_sync_request own n)
    ∙ ap (λ (ps : List SentPacket). passed (if option_map_or (λ (r : Request). r.sync) (request_of ps n) false then None else Some (arrives (seen.Reply n))) own.arrived) e
arrived-step schema place what.Die own said e = refl
arrived-step schema place _ own said e = refl

arrived-more : (schema : Schema) (q : PacketKind) (place : ℕ) (own : EndReading) (said : List What) (w : What) → ArrivedRead schema q own said → ArrivedRead schema q (after_what schema place w own) (said ++ w ∷ [])
arrived-more schema q place own said w p = record {
  sent = sent-more schema place own said w p.sent;
  most = subst (λ (ps : List Passing). Most q ps (held q (after_what schema place w own).arrived)) (sym (made-add (passing schema) [] said w))
      (subst (Most q (add (passings schema said) (passing schema said w))) (sym (ap (held q) (arrived-step schema place w own said p.sent.sent) ∙ held-passed q (passing schema said w) own.arrived))
      (most-more q (passings schema said) (passing schema said w) (held q own.arrived) p.most));
}

none-most : (q : PacketKind) → Most q [] 0
none-most q = record { bound = none; front = []; following = []; split = refl; kept = refl; reached = refl }
  where
    none : (front following : List Passing) → [] ≡ front ++ following → list_any is_giving_up following ≡ false → count_by (is_arrival q) following ≤ count_by (is_leaving q) following + 0
    none [] [] e k = omega arith
    none [] (x ∷ following) e k = cc
    none (x ∷ front) following e k = cc

pub there : (schema : Schema) (end : Side) (lines : List Line) (q : PacketKind) → Decides (has_packet (end_reading_of end (read schema lines)).arrived q) (IsArrived schema (said_by end lines) q)
there schema end lines q = (λ e. to ((held-any q (end_reading_of end (read schema lines)).arrived).0 e), λ t. (held-any q (end_reading_of end (read schema lines)).arrived).1 (from t))
  where
    most : Most q (passings schema (said_by end lines)) (held q (end_reading_of end (read schema lines)).arrived)
    most = (along schema (ArrivedRead schema q) (record { sent = record { ended = refl; made = refl; sent = refl }; most = none-most q }) (arrived-more schema q) end lines).most

    to : 0 < held q (end_reading_of end (read schema lines)).arrived → IsArrived schema (said_by end lines) q
    to l = record { before = most.front; following = most.following; split = most.split; kept = most.kept; more = omega (arith, l, most.reached) }

    from : IsArrived schema (said_by end lines) q → 0 < held q (end_reading_of end (read schema lines)).arrived
    from t = omega (arith, t.more, most.bound t.before t.following t.split t.kept)
