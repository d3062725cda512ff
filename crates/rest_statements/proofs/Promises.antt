-- Where nothing is left at two open ends, no promise that is not settled was answered.
use Rattle.std.proofs.Common.{◌≡◌, ℕ, ℤ, ◌<◌, Bool, true, false, not, ◌&&◌, ◌||◌, cond, if◌then◌else◌, IsTrue, List, [], ◌∷◌, ◌++◌, map, filter_map, find, count_by, Option, Some, None, is_some, refl, sym, ap, subst, ◌∙◌, append_assoc, arith}
use Rattle.std.specs.List.{AllByRecursion, cons_option, list_any}
use Rattle.std.specs.Option.{option_map_or}
use Rattle.std.specs.Ordering.{int_eq}
use Rattle.std.proofs.lemmas.Bool.{false≢true}
use Rattle.std.proofs.lemmas.Bool.Decides.{Decides-int_eq}
use Rattle.std.proofs.lemmas.List.Elements.{filter_map-append}
use Rattle.std.proofs.lemmas.List.Folds.{list_any-append}
use Rattle.std.proofs.lemmas.List.Sums.{sum_by-cons}
use Rattle.ipdl_base.specs.declared.kinds.EndState.TheVariants as state
use Rattle.ipdl_base.specs.declared.kinds.Side.{Side}
use Rattle.ipdl_base.specs.declared.kinds.Side.TheVariants as side
use Rattle.ipdl_base.specs.declared.line.Line.{Line}
use Rattle.ipdl_base.specs.declared.line.What.{What}
use Rattle.ipdl_base.specs.declared.line.What.TheVariants as what
use Rattle.ipdl_base.specs.declared.schema.MessageRow.{MessageRow}
use Rattle.ipdl_base.specs.declared.schema.Schema.{Schema}
use Rattle.ipdl_base.specs.Lines.{is_effect, same_side}
use Rattle.ipdl_base.specs.Sound.{message_of}
use Rattle.history_reading.specs.declared.parts.PacketKind.{PacketKind}
use Rattle.history_reading.specs.declared.parts.PacketKind.TheVariants as seen
use Rattle.history_reading.specs.Numbers.{has, has_packet, same_packet}
use Rattle.history_reading.specs.Rows.{is_sync_number, is_sync_row, wants_number, wants_row}
use Rattle.history_reading.specs.SentPacket.{Request, SentPacket, broken, packet_kind, request_of, requests_of}
use Rattle.law_statements.specs.Arrived.{IsArrived, Passing, arrives, gives_up, is_arrival, is_giving_up, is_leaving, leaves, passing, passings, state_after, state_of}
use Rattle.law_statements.specs.Packets.{delivered, delivery, is_farewell, number_settled, sent, sent_at, settled}
use Rattle.ipdl_base.specs.Sides.{other as other_end}
use Rattle.law_statements.specs.Said.{is_moment, line_of, made_of, said_by, said_in}
use Rattle.law_statements.specs.Stack.{is_sync_of}
use Rattle.channel_laws.specs.Notes.{In, here, there}
use Rattle.channel_laws.proofs.SentAccounts.{requests-append}
use Rattle.alone_laws.proofs.LivingActors.{made-append}
use Rattle.order_statements.specs.Effects.{Effects}
use Rattle.order_statements.specs.Shape.{answered, number_answered}
use Rattle.rest_statements.proofs.BothEnds.{open-said, side-same}

-- Where an element comes from

-- an element from which one that passes was made, in a list made in order
record MadeAt {A : Type 0} (make : List What → What → Option A) (test : A → Bool) (before own : List What) : Type 0 where
  front : List What
  w : What
  back : List What
  is : own ≡ front ++ w ∷ back
  one : A
  makes : make (before ++ front) w ≡ Some one
  passes : test one ≡ true

made-at : {A : Type 0} (make : List What → What → Option A) (test : A → Bool) (before own : List What) → list_any test (made_of make before own) ≡ true → MadeAt make test before own
made-at make test before [] h = absurd (false≢true h)
made-at {A} make test before (w ∷ own) h = by (make before w) refl h (made-at make test (before ++ w ∷ []) own)
  where
    later : MadeAt make test (before ++ w ∷ []) own → MadeAt make test before (w ∷ own)
    later m = record { front = w ∷ m.front; w = m.w; back = m.back; is = ap (λ ws. w ∷ ws) m.is; one = m.one; makes = ap (λ ws. make ws m.w) (sym (append_assoc before (w ∷ []) m.front)) ∙ m.makes; passes = m.passes }

    by : (o : Option A) → make before w ≡ o → list_any test (cons_option o (made_of make (before ++ w ∷ []) own)) ≡ true → (list_any test (made_of make (before ++ w ∷ []) own) ≡ true → MadeAt make test (before ++ w ∷ []) own) → MadeAt make test before (w ∷ own)
    by None is k rec = later (rec k)
    by (Some x) is k rec = here (test x) refl k
      where
        here : (b : Bool) → test x ≡ b → (b || list_any test (made_of make (before ++ w ∷ []) own)) ≡ true → MadeAt make test before (w ∷ own)
        here true t l = record { front = []; w = w; back = own; is = refl; one = x; makes = ap (λ ws. make ws w) (append-none before) ∙ is; passes = t }
          where
            append-none : (ws : List What) → ws ++ [] ≡ ws
            append-none [] = refl
            append-none (v ∷ ws) = ap (λ vs. v ∷ vs) (append-none ws)
        here false t l = later (rec l)

filter-made : {A : Type 0} (f : What → Option A) (before own : List What) → filter_map f own ≡ made_of (λ ws w. f w) before own
filter-made f before [] = refl
filter-made {A} f before (w ∷ own) = by (f w) (filter-made f (before ++ w ∷ []) own)
  where
    by : (o : Option A) → filter_map f own ≡ made_of (λ ws w. f w) (before ++ w ∷ []) own → cons_option o (filter_map f own) ≡ cons_option o (made_of (λ ws w. f w) (before ++ w ∷ []) own)
    by None e = e
    by (Some x) e = ap (λ xs. x ∷ xs) e

found-at : {A : Type 0} (f : What → Option A) (test : A → Bool) (own : List What) → list_any test (filter_map f own) ≡ true → MadeAt (λ ws w. f w) test [] own
found-at f test own h = made-at (λ ws w. f w) test [] own (ap (list_any test) (sym (filter-made f [] own)) ∙ h)

or-right : (a b : Bool) → b ≡ true → (a || b) ≡ true
or-right true b h = refl
or-right false b h = h

-- An open end has no line that ends it

all-quiet : (own : List What) → ((w : What) → In w own → state_after w ≡ None) → AllByRecursion (λ w. state_after w ≡ None) own
all-quiet [] f = tt
all-quiet (w ∷ own) f = (f w here, all-quiet own (λ v i. f v (there i)))

-- so the end gives nothing up
no-giving-up : (schema : Schema) (before own : List What) → AllByRecursion (λ w. state_after w ≡ None) own → list_any is_giving_up (made_of (passing schema) before own) ≡ false
no-giving-up schema before [] h = refl
no-giving-up schema before (w ∷ own) h = by w h.0 (no-giving-up schema (before ++ w ∷ []) own h.1)
  where
    by : (w : What) → state_after w ≡ None → list_any is_giving_up (made_of (passing schema) (before ++ w ∷ []) own) ≡ false → list_any is_giving_up (cons_option (passing schema before w) (made_of (passing schema) (before ++ w ∷ []) own)) ≡ false
    by (what.DeliverReply n) e rec = reply (is_sync_of schema before n)
      where
        reply : (b : Bool) → list_any is_giving_up (cons_option (if b then None else Some (arrives (seen.Reply n))) (made_of (passing schema) (before ++ what.DeliverReply n ∷ []) own)) ≡ false
        reply true = rec
        reply false = rec
    by what.DeliverGoodbye e rec = cc
    by what.DeliverBroken e rec = cc
    by what.Close e rec = cc
    by what.ShutNormal e rec = cc
    by what.ShutAbnormal e rec = cc
    by what.Die e rec = cc
    by _ e rec = rec

all-right : {A : Type 0} (P : A → Type 0) (xs ys : List A) → AllByRecursion P (xs ++ ys) → AllByRecursion P ys
all-right P [] ys h = h
all-right P (x ∷ xs) ys h = all-right P xs ys h.1

-- Counts

count-none : {A : Type 0} (test : A → Bool) (xs : List A) → list_any test xs ≡ false → count_by test xs ≡ 0
count-none test [] h = refl
count-none test (x ∷ xs) h = by (test x) refl h (count-none test xs)
  where
    by : (b : Bool) → test x ≡ b → (b || list_any test xs) ≡ false → (list_any test xs ≡ false → count_by test xs ≡ 0) → count_by test (x ∷ xs) ≡ 0
    by true is k rec = absurd (false≢true (sym k))
    by false is k rec =
        let one = sum_by-cons (λ y. cond (test y) 1 0) x xs in
        let here : cond {A = ℕ} (test x) 1 0 ≡ 0 = ap (λ (b : Bool). cond {A = ℕ} b 1 0) is in
        let none = rec k in
        omega (arith, one, here, none)

count-first : {A : Type 0} (test : A → Bool) (x : A) (xs : List A) → test x ≡ true → 0 < count_by test (x ∷ xs)
count-first test x xs is =
    let one = sum_by-cons (λ y. cond (test y) 1 0) x xs in
    let here : cond {A = ℕ} (test x) 1 0 ≡ 1 = ap (λ (b : Bool). cond {A = ℕ} b 1 0) is in
    omega (arith, one, here)

-- A promise is not sync

Apart : Request → Type 0
Apart r = r.wants ≡ true → r.sync ≡ false

wants-apart : (schema : Schema) (number : ℕ) → wants_number schema number ≡ true → is_sync_number schema number ≡ false
wants-apart schema number = by (message_of schema number)
  where
    by : (o : Option MessageRow) → option_map_or wants_row o false ≡ true → option_map_or is_sync_row o false ≡ false
    by None h = cc
    by (Some row) h = sync (is_sync_row row) (is_some row.returns) h
      where
        sync : (b c : Bool) → (not b && c) ≡ true → b ≡ false
        sync true c k = cc
        sync false c k = refl

all-apart : (schema : Schema) (before own : List What) → AllByRecursion Apart (requests_of (made_of (sent_at schema) before own))
unfolding Apart
all-apart schema before [] = tt
all-apart schema before (what.Send n route number values ∷ own) = (wants-apart schema number, all-apart schema (before ++ what.Send n route number values ∷ []) own)
all-apart schema before (what.Call n transaction route number values ∷ own) = (wants-apart schema number, all-apart schema (before ++ what.Call n transaction route number values ∷ []) own)
all-apart schema before (what.Die ∷ own) = by (list_any is_farewell before) (all-apart schema (before ++ what.Die ∷ []) own)
  where
    by : (b : Bool) → AllByRecursion Apart (requests_of (made_of (sent_at schema) (before ++ what.Die ∷ []) own)) → AllByRecursion Apart (requests_of (cons_option (if b then None else Some broken) (made_of (sent_at schema) (before ++ what.Die ∷ []) own)))
    by true h = h
    by false h = h
all-apart schema before (w ∷ own) = all-apart schema (before ++ w ∷ []) own

first-apart : (n : ℤ) (rs : List Request) (r : Request) → AllByRecursion Apart rs → find (λ r. int_eq r.seq n) rs ≡ Some r → Apart r
first-apart n [] r h e = cc
first-apart n (q ∷ rs) r h e = by (int_eq q.seq n) e (first-apart n rs r h.1)
  where
    by : (b : Bool) → cond b (Some q) (find (λ r. int_eq r.seq n) rs) ≡ Some r → (find (λ r. int_eq r.seq n) rs ≡ Some r → Apart r) → Apart r
    by true k rec = let same : q ≡ r = cc in subst Apart same h.0
    by false k rec = rec k

-- the request of a number is the first, even among more
first-stays : (n : ℤ) (xs ys : List Request) (q : Request) → find (λ r. int_eq r.seq n) xs ≡ Some q → find (λ r. int_eq r.seq n) (xs ++ ys) ≡ Some q
first-stays n [] ys q e = cc
first-stays n (x ∷ xs) ys q e = by (int_eq x.seq n) e (first-stays n xs ys q)
  where
    by : (b : Bool) → cond b (Some x) (find (λ r. int_eq r.seq n) xs) ≡ Some q → (find (λ r. int_eq r.seq n) xs ≡ Some q → find (λ r. int_eq r.seq n) (xs ++ ys) ≡ Some q) → cond b (Some x) (find (λ r. int_eq r.seq n) (xs ++ ys)) ≡ Some q
    by true k rec = k
    by false k rec = rec k

not-sync : (schema : Schema) (front back : List What) (n : ℤ) (r : Request) → request_of (sent schema (front ++ back)) n ≡ Some r → r.wants ≡ true → is_sync_of schema front n ≡ false
unfolding Apart
not-sync schema front back n r is wants = by (request_of (sent schema front) n) refl
  where
    by : (o : Option Request) → request_of (sent schema front) n ≡ o → option_map_or (λ q. q.sync) (request_of (sent schema front) n) false ≡ false
    by None e = ap (λ o. option_map_or (λ (q : Request). q.sync) o false) e
    by (Some q) e =
        let split = made-append (sent_at schema) [] front back in
        let whole : request_of (sent schema (front ++ back)) n ≡ Some q =
        ap (λ ps. request_of ps n) split ∙ ap (find (λ (x : Request). int_eq x.seq n)) (requests-append (sent schema front) (made_of (sent_at schema) ([] ++ front) back))
        ∙ first-stays n (requests_of (sent schema front)) (requests_of (made_of (sent_at schema) ([] ++ front) back)) q e in
        let same : q ≡ r = cc in
        ap (λ o. option_map_or (λ (q : Request). q.sync) o false) e ∙ ap (λ (x : Request). x.sync) same
        ∙ first-apart n (requests_of (sent schema (front ++ back))) r (all-apart schema [] (front ++ back)) is wants

-- What follows from an answer

-- a line that answers a request sends a reply to it
answer-sends : (schema : Schema) (before : List What) (w : What) (n m : ℤ) → number_answered w ≡ Some m → int_eq m n ≡ true → (rest : List SentPacket)
    → has_packet (map packet_kind (cons_option (sent_at schema before w) rest)) (seen.Reply n) ≡ true
answer-sends schema before (what.Resolve k vs) n m e is rest = ap (λ (b : Bool). b || has_packet (map packet_kind rest) (seen.Reply n)) (ap (λ (j : ℤ). int_eq j n) (number e) ∙ is)
  where
    number : Some k ≡ Some m → k ≡ m
    number h = cc
answer-sends schema before (what.Reject k) n m e is rest = ap (λ (b : Bool). b || has_packet (map packet_kind rest) (seen.Reply n)) (ap (λ (j : ℤ). int_eq j n) (number e) ∙ is)
  where
    number : Some k ≡ Some m → k ≡ m
    number h = cc
answer-sends schema before (what.AnswerOk k vs) n m e is rest = ap (λ (b : Bool). b || has_packet (map packet_kind rest) (seen.Reply n)) (ap (λ (j : ℤ). int_eq j n) (number e) ∙ is)
  where
    number : Some k ≡ Some m → k ≡ m
    number h = cc
answer-sends schema before (what.AnswerFault k why) n m e is rest = ap (λ (b : Bool). b || has_packet (map packet_kind rest) (seen.Reply n)) (ap (λ (j : ℤ). int_eq j n) (number e) ∙ is)
  where
    number : Some k ≡ Some m → k ≡ m
    number h = cc
answer-sends schema before _ n m e is rest = cc

has-later : (xs ys : List SentPacket) (p : PacketKind) → has_packet (map packet_kind ys) p ≡ true → has_packet (map packet_kind (xs ++ ys)) p ≡ true
has-later [] ys p h = h
has-later (x ∷ xs) ys p h = or-right (same_packet (packet_kind x) p) (has_packet (map packet_kind (xs ++ ys)) p) (has-later xs ys p h)

answered-sent : (schema : Schema) (other : List What) (n : ℤ) → has (answered other) n ≡ true → has_packet (map packet_kind (sent schema other)) (seen.Reply n) ≡ true
answered-sent schema other n h =
    let a = found-at number_answered (λ m. int_eq m n) other h in
    ap (λ ws. has_packet (map packet_kind (sent schema ws)) (seen.Reply n)) a.is
    ∙ ap (λ ps. has_packet (map packet_kind ps) (seen.Reply n)) (made-append (sent_at schema) [] a.front (a.w ∷ a.back))
    ∙ has-later (sent schema a.front) (made_of (sent_at schema) ([] ++ a.front) (a.w ∷ a.back)) (seen.Reply n)
    (answer-sends schema ([] ++ a.front) a.w n a.one a.makes a.passes (made_of (sent_at schema) (([] ++ a.front) ++ a.w ∷ []) a.back))

-- a reply that was delivered has its line
reply-line : (w : What) (n : ℤ) (p : PacketKind) → delivery w ≡ Some p → same_packet p (seen.Reply n) ≡ true → w ≡ what.DeliverReply n
reply-line (what.DeliverRequest m) n p e s = wrong p e s
  where
    wrong : (p : PacketKind) → Some (seen.Request m) ≡ Some p → same_packet p (seen.Reply n) ≡ true → what.DeliverRequest m ≡ what.DeliverReply n
    wrong p k l = cc
reply-line (what.DeliverReply m) n p e s = ap what.DeliverReply ((Decides-int_eq m n).0 (right p e s))
  where
    right : (p : PacketKind) → Some (seen.Reply m) ≡ Some p → same_packet p (seen.Reply n) ≡ true → int_eq m n ≡ true
    right p k l = let same : seen.Reply m ≡ p = cc in subst (λ (q : PacketKind). same_packet q (seen.Reply n) ≡ true) (sym same) l
reply-line what.DeliverGoodbye n p e s = let same : seen.Goodbye ≡ p = cc in absurd (false≢true (subst (λ (q : PacketKind). same_packet q (seen.Reply n) ≡ true) (sym same) s))
reply-line what.DeliverBroken n p e s = let same : seen.Broken ≡ p = cc in absurd (false≢true (subst (λ (q : PacketKind). same_packet q (seen.Reply n) ≡ true) (sym same) s))
reply-line _ n p e s = cc

-- a reply leaves when it is taken
leaving-line : (schema : Schema) (before : List What) (w : What) (n : ℤ) (p : Passing) → passing schema before w ≡ Some p → is_leaving (seen.Reply n) p ≡ true → w ≡ what.TakeReply n
leaving-line schema before w n (arrives q) e l = absurd (false≢true l)
leaving-line schema before w n gives_up e l = absurd (false≢true l)
leaving-line schema before (what.TakeReply m) n (leaves q) e l = let same : seen.Reply m ≡ q = cc in ap what.TakeReply ((Decides-int_eq m n).0 (subst (λ (x : PacketKind). same_packet x (seen.Reply n) ≡ true) (sym same) l))
leaving-line schema before (what.DeliverReply m) n (leaves q) e l = by (is_sync_of schema before m) e
  where
    by : (b : Bool) → (if b then None else Some (arrives (seen.Reply m))) ≡ Some (leaves q) → what.DeliverReply m ≡ what.TakeReply n
    by true k = cc
    by false k = cc
leaving-line schema before (what.Take m a b c) n (leaves q) e l = let same : seen.Request m ≡ q = cc in absurd (false≢true (subst (λ (x : PacketKind). same_packet x (seen.Reply n) ≡ true) (sym same) l))
leaving-line schema before (what.Drop m a b c) n (leaves q) e l = let same : seen.Request m ≡ q = cc in absurd (false≢true (subst (λ (x : PacketKind). same_packet x (seen.Reply n) ≡ true) (sym same) l))
leaving-line schema before (what.Replaced m) n (leaves q) e l = let same : seen.Request m ≡ q = cc in absurd (false≢true (subst (λ (x : PacketKind). same_packet x (seen.Reply n) ≡ true) (sym same) l))
leaving-line schema before _ n (leaves q) e l = cc

-- what an end printed has a place among the lines
record SaidAt (end : Side) (w : What) (lines : List Line) : Type 0 where
  front : List Line
  back : List Line
  is : lines ≡ front ++ line_of end w ∷ back

said-at : (end : Side) (lines : List Line) (front : List What) (w : What) (back : List What) → said_by end lines ≡ front ++ w ∷ back → (p : SaidAt end w lines) × (said_by end p.front ≡ front)
said-at end [] [] w back e = cc
said-at end [] (x ∷ front) w back e = cc
said-at end (l ∷ lines) front w back e = by (same_side l.side end) refl front e (said-at end lines)
  where
    own : same_side l.side end ≡ true → l ≡ line_of end l.what
    own is = ap (λ (s : Side). line_of s l.what) (side-same l.side end is)

    by : (b : Bool) → same_side l.side end ≡ b → (front : List What) → cons_option (if b then Some l.what else None) (said_by end lines) ≡ front ++ w ∷ back
        → ((front : List What) (w : What) (back : List What) → said_by end lines ≡ front ++ w ∷ back → (p : SaidAt end w lines) × (said_by end p.front ≡ front)) → (p : SaidAt end w (l ∷ lines)) × (said_by end p.front ≡ front)
    by true is [] k rec = let same : l.what ≡ w = cc in (record { front = []; back = lines; is = ap (λ (x : Line). x ∷ lines) (own is ∙ ap (line_of end) same) }, refl)
    by true is (x ∷ front) k rec =
        let first : l.what ≡ x = cc in
        let more : said_by end lines ≡ front ++ w ∷ back = cc in
        let p = rec front w back more in (
          record { front = l ∷ p.0.front; back = p.0.back; is = ap (λ ls. l ∷ ls) p.0.is },
          ap (λ (b : Bool). cons_option (if b then Some l.what else None) (said_by end p.0.front)) is ∙ ap (λ (v : What). v ∷ said_by end p.0.front) first ∙ ap (λ ws. x ∷ ws) p.1,
        )
    by false is front k rec =
        let p = rec front w back k in
        (record { front = l ∷ p.0.front; back = p.0.back; is = ap (λ ls. l ∷ ls) p.0.is }, ap (λ (b : Bool). cons_option (if b then Some l.what else None) (said_by end p.0.front)) is ∙ p.1)

-- an effect that follows directly is before the next moment
effect-inside : (end : Side) (w : What) (back following later : List Line) → IsTrue (is_effect w) → IsTrue (is_moment following) → back ++ following ≡ line_of end w ∷ later → (more : List Line) × (back ≡ line_of end w ∷ more)
effect-inside end w [] following later effect moment e =
    absurd (false≢true (sym (ap not effect) ∙ subst (λ (b : List Line). is_moment b ≡ true) e moment))
effect-inside end w (l ∷ back) following later effect moment e = let same : l ≡ line_of end w = cc in (back, ap (λ (x : Line). x ∷ back) same)

module _ (schema : Schema) (lines before following : List Line) (effects : Effects schema lines) (at : lines ≡ before ++ following) (moment : IsTrue (is_moment following)) (end : Side) where
  own : List What
  own = said_by end before

  other : List What
  other = said_by (other_end end) before

  -- a reply that was taken has settled its promise
  taken-settles : (n : ℤ) (front back : List What) → said_by end before ≡ front ++ what.TakeReply n ∷ back → has (settled (said_by end before)) n ≡ false → ⊥
  taken-settles n front back is unsettled =
      let p = said-at end before front (what.TakeReply n) back is in
      let place : lines ≡ p.0.front ++ line_of end (what.TakeReply n) ∷ (p.0.back ++ following) = at ∙ ap (λ ls. ls ++ following) p.0.is ∙ append_assoc p.0.front (line_of end (what.TakeReply n) ∷ p.0.back) following in
      let said = said-split p.0.front p.0.back p.0.is in
      let first : has (settled (said_by end p.0.front)) n ≡ false = earlier (said_by end p.0.front) (what.TakeReply n ∷ said_by end p.0.back) said in
      let s = effects.settles end n p.0.front (p.0.back ++ following) place first in
      let inside = effect-inside end s.0 p.0.back following s.2.later (and-first (is_effect s.0) s.2.are_effects) moment s.2.split in
      let w_in : said_by end before ≡ said_by end p.0.front ++ (what.TakeReply n ∷ (s.0 ∷ said_by end inside.0)) =
      said ∙ ap (λ ls. said_by end p.0.front ++ (what.TakeReply n ∷ said_by end ls)) inside.1 ∙ ap (λ ws. said_by end p.0.front ++ (what.TakeReply n ∷ ws)) (own-said s.0 inside.0) in
      false≢true (sym unsettled ∙ ap (λ ws. has (settled ws) n) w_in ∙ has-settled (said_by end p.0.front) s.0 (said_by end inside.0) s.1)
    where
      same-self : same_side end end ≡ true
      same-self = self end
        where
          self : (s : Side) → same_side s s ≡ true
          self side.Parent = refl
          self side.Child = refl

      own-said : (w : What) (ls : List Line) → said_by end (line_of end w ∷ ls) ≡ w ∷ said_by end ls
      own-said w ls = ap (λ (b : Bool). cons_option (if b then Some w else None) (said_by end ls)) same-self

      said-split : (front back : List Line) → before ≡ front ++ line_of end (what.TakeReply n) ∷ back → said_by end before ≡ said_by end front ++ (what.TakeReply n ∷ said_by end back)
      said-split front back e = ap (said_by end) e ∙ filter_map-append (said_in end) front (line_of end (what.TakeReply n) ∷ back) ∙ ap (λ ws. said_by end front ++ ws) (own-said (what.TakeReply n) back)

      earlier : (xs ys : List What) → said_by end before ≡ xs ++ ys → has (settled xs) n ≡ false
      earlier xs ys e = by (has (settled xs) n) refl
        where
          by : (b : Bool) → has (settled xs) n ≡ b → has (settled xs) n ≡ false
          by false h = h
          by true h =
              absurd (false≢true (sym unsettled ∙ ap (λ ws. has (settled ws) n) e ∙ ap (λ ns. has ns n) (filter_map-append number_settled xs ys)
              ∙ list_any-append (λ (m : ℤ). int_eq m n) (settled xs) (settled ys) ∙ ap (λ (b : Bool). b || has (settled ys) n) h))

      and-first : (b : Bool) → (b && true) ≡ true → b ≡ true
      and-first true h = refl
      and-first false h = cc

      has-settled : (xs : List What) (w : What) (ys : List What) → number_settled w ≡ Some n → has (settled (xs ++ (what.TakeReply n ∷ (w ∷ ys)))) n ≡ true
      has-settled xs w ys e =
          ap (λ ns. has ns n) (filter_map-append number_settled xs (what.TakeReply n ∷ (w ∷ ys))) ∙ list_any-append (λ (m : ℤ). int_eq m n) (settled xs) (settled (w ∷ ys))
          ∙ or-right (has (settled xs) n) (has (settled (w ∷ ys)) n)
          (ap (λ (o : Option ℤ). has (cons_option o (settled ys)) n) e ∙ ap (λ (b : Bool). b || has (settled ys) n) ((Decides-int_eq n n).1 refl))

  pub promise-unanswered : state_of (said_by end before) ≡ state.Open → delivered (said_by end before) ≡ map packet_kind (sent schema (said_by (other_end end) before))
      → ((packet : PacketKind) → IsArrived schema (said_by end before) packet → ⊥) → (n : ℤ) (r : Request) → request_of (sent schema (said_by end before)) n ≡ Some r → IsTrue r.wants → has (settled (said_by end before)) n ≡ false
      → has (answered (said_by (other_end end) before)) n ≡ false
  promise-unanswered opened all none n r asked wants unsettled = by (has (answered (said_by (other_end end) before)) n) refl
    where
      by : (b : Bool) → has (answered (said_by (other_end end) before)) n ≡ b → has (answered (said_by (other_end end) before)) n ≡ false
      by false h = h
      by true h = absurd (never (found-at delivery (λ p. same_packet p (seen.Reply n)) (said_by end before) (ap (λ ps. has_packet ps (seen.Reply n)) all ∙ answered-sent schema (said_by (other_end end) before) n h)))
        where
          never : MadeAt (λ ws w. delivery w) (λ p. same_packet p (seen.Reply n)) [] (said_by end before) → ⊥
          never d =
              let line : d.w ≡ what.DeliverReply n = reply-line d.w n d.one d.makes d.passes in
              let is : said_by end before ≡ d.front ++ what.DeliverReply n ∷ d.back = d.is ∙ ap (λ w. d.front ++ w ∷ d.back) line in
              let async : is_sync_of schema d.front n ≡ false = not-sync schema d.front (what.DeliverReply n ∷ d.back) n r (ap (λ ws. request_of (sent schema ws) n) (sym is) ∙ asked) wants in
              let passed : passings schema (said_by end before) ≡ passings schema d.front ++ (arrives (seen.Reply n) ∷ made_of (passing schema) (d.front ++ what.DeliverReply n ∷ []) d.back) =
              ap (passings schema) is ∙ made-append (passing schema) [] d.front (what.DeliverReply n ∷ d.back)
              ∙ ap (λ (b : Bool). passings schema d.front ++ cons_option (if b then None else Some (arrives (seen.Reply n))) (made_of (passing schema) (d.front ++ what.DeliverReply n ∷ []) d.back)) async in
              let quiet = all-right (λ w. state_after w ≡ None) d.front (what.DeliverReply n ∷ d.back) (subst (AllByRecursion (λ w. state_after w ≡ None)) is (all-quiet (said_by end before) (open-said (said_by end before) opened))) in
              left d (made_of (passing schema) (d.front ++ what.DeliverReply n ∷ []) d.back) is passed (no-giving-up schema (d.front ++ what.DeliverReply n ∷ []) d.back quiet.1)
              (λ l. made-at (passing schema) (is_leaving (seen.Reply n)) (d.front ++ what.DeliverReply n ∷ []) d.back l)
            where
              left : (d : MadeAt (λ ws w. delivery w) (λ p. same_packet p (seen.Reply n)) [] (said_by end before)) (later : List Passing) → said_by end before ≡ d.front ++ what.DeliverReply n ∷ d.back
                  → passings schema (said_by end before) ≡ passings schema d.front ++ (arrives (seen.Reply n) ∷ later) → list_any is_giving_up later ≡ false
                  → (list_any (is_leaving (seen.Reply n)) later ≡ true → MadeAt (passing schema) (is_leaving (seen.Reply n)) (d.front ++ what.DeliverReply n ∷ []) d.back) → ⊥
              left d later is passed kept leaving = cases (list_any (is_leaving (seen.Reply n)) later) refl
                where
                  cases : (b : Bool) → list_any (is_leaving (seen.Reply n)) later ≡ b → ⊥
                  cases false gone =
                      let zero = count-none (is_leaving (seen.Reply n)) (arrives (seen.Reply n) ∷ later) gone in
                      let one = count-first (is_arrival (seen.Reply n)) (arrives (seen.Reply n)) later ((Decides-int_eq n n).1 refl) in
                      none (seen.Reply n) (record { before = passings schema d.front; following = arrives (seen.Reply n) ∷ later; split = passed; kept = kept; more = omega (arith, zero, one) })
                  cases true gone =
                      let l = leaving gone in
                      let take : l.w ≡ what.TakeReply n = leaving-line schema ((d.front ++ what.DeliverReply n ∷ []) ++ l.front) l.w n l.one l.makes l.passes in
                      taken-settles n (d.front ++ (what.DeliverReply n ∷ l.front)) l.back
                      (is ∙ ap (λ ws. d.front ++ (what.DeliverReply n ∷ ws)) (l.is ∙ ap (λ w. l.front ++ w ∷ l.back) take) ∙ sym (append_assoc d.front (what.DeliverReply n ∷ l.front) (what.TakeReply n ∷ l.back))) unsettled
