-- If lines show that only acts are possible, nothing else is possible.
use Rattle.std.proofs.Common.{◌≡◌, ℕ, ◌+◌, ◌<◌, nat_lt, ℤ, pos, Bool, true, false, not, ◌&&◌, ◌||◌, if◌then◌else◌, List, [], ◌∷◌, ◌++◌, cond, find, length, map, Option, Some, None, unwrap_or, refl, sym, ap, ◌∙◌, arith}
use Rattle.std.specs.List.{AllByRecursion}
use Rattle.std.proofs.lemmas.Bool.Decides.{Decides-ltb}
use Rattle.std.proofs.lemmas.List.{length-append, length-map}
use Rattle.ipdl_base.specs.declared.kinds.EndState.{EndState}
use Rattle.ipdl_base.specs.declared.kinds.EndState.TheVariants.{Open, Draining, Closed, Dead}
use Rattle.ipdl_base.specs.declared.kinds.Level.{Level}
use Rattle.ipdl_base.specs.declared.kinds.Level.TheVariants.{Not, InsideSync, InsideCpow}
use Rattle.ipdl_base.specs.declared.kinds.Side.{Side}
use Rattle.ipdl_base.specs.declared.kinds.Side.TheVariants.{Parent, Child}
use Rattle.ipdl_base.specs.declared.message.Body.{Body}
use Rattle.ipdl_base.specs.declared.message.Body.TheVariants.{Request, Reply, Fault, Goodbye}
use Rattle.ipdl_base.specs.declared.message.Message.{Message}
use Rattle.ipdl_base.specs.declared.schema.Schema.{Schema}
use Rattle.ipdl_base.specs.Deferral.{Arrival, request, reply, goodbye, mark as mark_arrival, defers_arrival, defers_request}
use Rattle.nesting_core.specs.declared.frame.Head.{Head}
use Rattle.pending_queue.specs.declared.item.Item.{Item}
use Rattle.pending_queue.specs.declared.item.Item.TheVariants as item
use Rattle.pending_queue.specs.DeferralContext.{arrival_of, arrival_of_body}
use Rattle.history_reading.specs.EndReading.{EndReading}
use Rattle.history_reading.specs.Still as lines
use Rattle.channel_model.specs.Ends.{End, Packet, message}
use Rattle.channel_model.specs.Outputs.{is_open}
use Rattle.channel_laws.specs.Arrivals.{item_kind}
use Rattle.channel_laws.specs.Delivered.{body_kind}
use Rattle.channel_laws.specs.Heads.{ItemHead, BodyHead}
use Rattle.channel_laws.specs.NotedArrivals.{ItemIsNoted}
use Rattle.channel_laws.specs.Notes.{Note, told_note, told_notes, packet_note, body_note, message_note, notes, note_kind, In}
use Rattle.channel_laws.specs.SentAccounts.{SentAccount}
use Rattle.channel_laws.specs.TwoEnds.{LinkAccount}
use Rattle.channel_laws.proofs.HeadsAlike.{request-head}

-- Tests

if-false : (b c : Bool) → (if b then false else c) ≡ true → (b ≡ false) × (c ≡ true)
if-false true c e = cc
if-false false c e = (refl, e)

if-true : (b c : Bool) → (if b then c else false) ≡ true → (b ≡ true) × (c ≡ true)
if-true true c e = (refl, e)
if-true false c e = cc

not-false : (b : Bool) → not b ≡ true → b ≡ false
not-false true e = cc
not-false false e = refl

-- What a still end has, by its lines.
pub record StillEnd (schema : Schema) (side : Side) (own others : EndReading) : Type 0 where
  pub delivers : lines.can_deliver own others ≡ false
  pub rests : lines.can_take_now own.stack ≡ true
  pub takes : lines.can_take schema side own others ≡ false

pub still-end : (schema : Schema) (side : Side) (own others : EndReading) → lines.is_still_at schema side own others ≡ true → StillEnd schema side own others
still-end schema side own others e =
    let a = if-false (lines.can_deliver own others) (if lines.can_take_now own.stack then not (lines.can_take schema side own others) else false) e in
    let b = if-true (lines.can_take_now own.stack) (not (lines.can_take schema side own others)) a.1 in
    record { delivers = a.0; rests = b.0; takes = not-false (lines.can_take schema side own others) b.1 }

-- Deliveries

open-read : (s : EndState) → is_open s ≡ true → lines.is_open s ≡ true
open-read Open e = refl
open-read Draining e = cc
open-read Closed e = cc
open-read Dead e = cc

-- more was sent than was delivered
more-sent : (schema : Schema) (sender : End) (others own : EndReading) (link : List Packet) (x : Note) (front back : List Note) → LinkAccount schema sender others own link → notes schema link ++ notes schema (map message sender.outbox) ≡ front ++ x ∷ back → length own.delivered < length others.sent
more-sent schema sender others own link x front back a is =
    let got : List Note = a.got in
    let whole : told_notes sender.side others.sent ≡ (got ++ notes schema link) ++ (notes schema (map message sender.outbox) ++ a.sent.lost) = a.sent.whole in
    let sent : length others.sent ≡ length ((got ++ notes schema link) ++ (notes schema (map message sender.outbox) ++ a.sent.lost)) = sym (length-map others.sent (told_note sender.side)) ∙ ap length whole in
    let delivered : length own.delivered ≡ length got = ap length (sym a.kinds) ∙ length-map got note_kind in
    let split : length ((got ++ notes schema link) ++ (notes schema (map message sender.outbox) ++ a.sent.lost)) ≡ length (got ++ notes schema link) + length (notes schema (map message sender.outbox) ++ a.sent.lost) = length-append (got ++ notes schema link) (notes schema (map message sender.outbox) ++ a.sent.lost) in
    let one : length (got ++ notes schema link) ≡ length got + length (notes schema link) = length-append got (notes schema link) in
    let two : length (notes schema (map message sender.outbox) ++ a.sent.lost) ≡ length (notes schema (map message sender.outbox)) + length a.sent.lost = length-append (notes schema (map message sender.outbox)) a.sent.lost in
    let both : length (notes schema link) + length (notes schema (map message sender.outbox)) ≡ length (front ++ x ∷ back) = sym (length-append (notes schema link) (notes schema (map message sender.outbox))) ∙ ap length is in
    let some : length (front ++ x ∷ back) ≡ length front + length (x ∷ back) = length-append front (x ∷ back) in
    let last : length (x ∷ back) ≡ length back + 1 = omega arith in
    omega arith

pub can-deliver : (schema : Schema) (mine sender : End) (others own : EndReading) (link : List Packet) (x : Note) (front back : List Note) → own.state ≡ mine.state → is_open mine.state ≡ true → LinkAccount schema sender others own link → notes schema link ++ notes schema (map message sender.outbox) ≡ front ++ x ∷ back → lines.can_deliver own others ≡ true
can-deliver schema mine sender others own link x front back state o a is =
    ap (λ (b : Bool). b && nat_lt (length own.delivered) (length others.sent)) (ap lines.is_open state ∙ open-read mine.state o)
    ∙ (Decides-ltb (length own.delivered) (length others.sent)).1 (more-sent schema sender others own link x front back a is)

-- so nothing is on the link toward an open end, or in the outbox of the other
pub none-comes : (schema : Schema) (mine sender : End) (others own : EndReading) (link : List Packet) → own.state ≡ mine.state → lines.can_deliver own others ≡ false → LinkAccount schema sender others own link → is_open mine.state ≡ true → (link ≡ []) × (sender.outbox ≡ [])
none-comes schema mine sender others own [] state nothing a o = (refl, by sender.outbox refl)
  where
    by : (ms : List Message) → sender.outbox ≡ ms → sender.outbox ≡ []
    by [] is = is
    by (m ∷ ms) is = let k : true ≡ false = sym (can-deliver schema mine sender others own [] (packet_note schema (message m)) [] (notes schema (map message ms)) state o a (ap (λ (l : List Message). notes schema (map message l)) is)) ∙ nothing in cc
none-comes schema mine sender others own (p ∷ rest) state nothing a o =
    let k : true ≡ false = sym (can-deliver schema mine sender others own (p ∷ rest) (packet_note schema p) [] (notes schema rest ++ notes schema (map message sender.outbox)) state o a refl) ∙ nothing in cc

-- Takes

-- the inner transaction makes no difference where an end awaits nothing, at a child, or where there is one
abbrev pub InnerIsClear : Side → Option Level → Option ℤ → Type 0
InnerIsClear Child level inner = Unit {0}
InnerIsClear Parent None inner = Unit {0}
InnerIsClear Parent (Some w) None = ⊥
InnerIsClear Parent (Some w) (Some t) = Unit {0}

child-request : (w : Level) (i j : Option ℤ) (sync : Bool) (l : Level) (t : ℤ) → defers_request Child w i sync l t ≡ defers_request Child w j sync l t
child-request w i j sync InsideCpow t = refl
child-request w i j false Not t = refl
child-request w i j false InsideSync t = refl
child-request w i j true Not t = refl
child-request w i j true InsideSync t = refl

inner-same : (side : Side) (level : Option Level) (inner : Option ℤ) (sync : Bool) (l : Level) (t : ℤ) → InnerIsClear side level inner → defers_arrival side level inner (request sync l t) ≡ defers_arrival side level (Some (unwrap_or inner (pos 0))) (request sync l t)
inner-same Child None inner sync l t c = refl
inner-same Child (Some w) inner sync l t c = child-request w inner (Some (unwrap_or inner (pos 0))) sync l t
inner-same Parent None inner sync l t c = refl
inner-same Parent (Some w) None sync l t c = absurd c
inner-same Parent (Some w) (Some i) sync l t c = refl

module _ (schema : Schema) (side their_side : Side) (open_end : Bool) (outbox : List Message) (count : ℕ) (left : List Note) (others : EndReading) (account : SentAccount schema their_side open_end outbox count others.sent left) (d : lines.DeferralState) (clear : InnerIsClear d.side d.level d.inner) where
  abbrev Deferred : Arrival → Bool
  Deferred arrival = defers_arrival d.side d.level (Some (unwrap_or d.inner (pos 0))) arrival

  reply-same : (sync : Bool) → sync ≡ false → (level : Option Level) → defers_arrival d.side level d.inner (reply false) ≡ defers_arrival d.side level (Some (unwrap_or d.inner (pos 0))) (reply sync)
  reply-same sync is None = refl
  reply-same sync is (Some w) = ap not (sym is)

  goodbye-same : (level : Option Level) → defers_arrival d.side level d.inner goodbye ≡ defers_arrival d.side level (Some (unwrap_or d.inner (pos 0))) goodbye
  goodbye-same None = refl
  goodbye-same (Some w) = refl

  mark-same : (level : Option Level) → defers_arrival d.side level d.inner mark_arrival ≡ defers_arrival d.side level (Some (unwrap_or d.inner (pos 0))) mark_arrival
  mark-same None = refl
  mark-same (Some w) = refl

  -- what has arrived is deferred alike
  item-same : (x : Item) → ItemHead schema x → ItemIsNoted schema (told_notes their_side others.sent) x → lines.defers_packet schema others d (item_kind x) ≡ Deferred (arrival_of x)
  item-same item.Broken h i = mark-same d.level
  item-same (item.Message m sync level) h i = by m.body h i
    where
      by : (b : Body) → BodyHead schema m sync level b → In (body_note schema m b) (told_notes their_side others.sent) → lines.defers_packet schema others d (body_kind m.seq b) ≡ Deferred (arrival_of_body sync level m.transaction b)
      by (Request vs) h i =
          let head : Head = record { sync = sync; level = level; seq = m.seq; transaction = m.transaction } in
          ap (lines.defers_request_head d) (request-head schema their_side open_end outbox count left others account m.number m.seq head refl h (record { request = message_note schema m vs; sent_it = i; seq_is = refl; transaction_is = refl; number_is = refl }))
          ∙ inner-same d.side d.level d.inner sync level m.transaction clear
      by (Reply vs) h i = reply-same sync h d.level
      by (Fault r) h i = reply-same sync h d.level
      by Goodbye h i = goodbye-same d.level

  -- so if an item is free at the end, one is free by the lines
  pub some-free : (items : List Item) (x : Item) → AllByRecursion (ItemHead schema) items → AllByRecursion (ItemIsNoted schema (told_notes their_side others.sent)) items → find (λ (y : Item). not (Deferred (arrival_of y))) items ≡ Some x → lines.some_is_free schema others d (map item_kind items) ≡ true
  some-free [] x h i e = cc
  some-free (y ∷ ys) x h i e = by (Deferred (arrival_of y)) (lines.defers_packet schema others d (item_kind y)) (item-same y h.0 i.0) e (some-free ys x h.1 i.1)
    where
      by : (a b : Bool) → b ≡ a → cond (not a) (Some y) (find (λ (z : Item). not (Deferred (arrival_of z))) ys) ≡ Some x → (find (λ (z : Item). not (Deferred (arrival_of z))) ys ≡ Some x → lines.some_is_free schema others d (map item_kind ys) ≡ true) → not b || lines.some_is_free schema others d (map item_kind ys) ≡ true
      by true true s e rec = rec e
      by true false s e rec = refl
      by false true s e rec = cc
      by false false s e rec = refl
