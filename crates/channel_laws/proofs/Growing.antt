-- What an end has sent grows, and what belongs to it still does.
use Rattle.std.proofs.Common.{◌≡◌, ◌≢◌, ℕ, zero, suc, ◌+◌, ℤ, pos, Bool, true, false, cond, if◌then◌else◌, int_eq, List, [], ◌∷◌, ◌++◌, find, map, Some, refl, sym, ap, subst, ◌∙◌, append_assoc, arith, inl, inr}
use Rattle.std.specs.List.{AllByRecursion}
use Rattle.std.proofs.lemmas.Bool.{cases_Bool}
use Rattle.std.proofs.lemmas.Bool.Decides.{Decides-int_eq}
use Rattle.std.proofs.lemmas.List.{append-nil}
use Rattle.ipdl_base.specs.declared.line.What.{What}
use Rattle.ipdl_base.specs.declared.line.What.TheVariants as what
use Rattle.history_reading.specs.declared.parts.PacketKind.{PacketKind}
use Rattle.history_reading.specs.declared.parts.PacketKind.TheVariants as seen
use Rattle.history_reading.specs.EndReading.{EndReading, is_sync_request}
use Rattle.history_reading.specs.Reading as reads
use Rattle.history_reading.specs.Reading.{after_what, request_after}
use Rattle.history_reading.specs.Rows as reading
use Rattle.history_reading.specs.SentPacket as told
use Rattle.history_reading.specs.SentPacket.{SentPacket, ReplyContent, requests_of, request_of}
use Rattle.ipdl_base.specs.declared.kinds.Side.{Side}
use Rattle.ipdl_base.specs.declared.message.Body.{Body}
use Rattle.ipdl_base.specs.declared.message.Body.TheVariants.{Request, Reply, Fault, Goodbye}
use Rattle.ipdl_base.specs.declared.message.Message.{Message}
use Rattle.ipdl_base.specs.declared.schema.Schema.{Schema}
use Rattle.pending_queue.specs.declared.item.Item.{Item}
use Rattle.pending_queue.specs.declared.item.Item.TheVariants as item
use Rattle.channel_model.specs.Ends.{End, Packet, message, mark, StackEntry, NameContent, actor, resolver}
use Rattle.channel_model.specs.Numbers.{seq_of}
use Rattle.channel_model.specs.Actors.{AreDistinct}
use Rattle.channel_model.specs.Requests.{IsSeqOf}
use Rattle.channel_model.proofs.Known.{all-map, all-append, distinct-last}
use Rattle.channel_model.proofs.Numbered.{same_seq}
use Rattle.channel_laws.specs.Tested.{after_whats}
use Rattle.channel_laws.specs.Notes
use Rattle.channel_laws.specs.Notes.{RequestNote, Note, asks, told_note, told_notes, request_note, In, here, there}
use Rattle.channel_laws.specs.Origins.{IsRequested, EntryOrigin, Origin, ContentOrigin, NamingOrigin, BodyOrigin, ItemOrigin, BodyReplies, PacketReplies, HasOrigins}
use Rattle.channel_laws.specs.SentAccounts.{seqs, request_seq, HasSyncOfRow, SentAccount}
use Rattle.channel_laws.specs.Delivered.{delivered_by, delivered_by_lines}

-- Lines, one part after another

pub whats-append : (schema : Schema) (place : ℕ) (ws vs : List What) (h : EndReading) → (at : ℕ) × (after_whats schema place (ws ++ vs) h ≡ after_whats schema at vs (after_whats schema place ws h))
whats-append schema place [] vs h = (place, refl)
whats-append schema place (w ∷ ws) vs h = whats-append schema (place + 1) ws vs (after_what schema place w h)

-- What was delivered is what the lines show

replying-delivered : (n : ℤ) (h : EndReading) → (reads.replying n h).delivered ≡ h.delivered ++ seen.Reply n ∷ []
replying-delivered n h = by (is_sync_request h n)
  where
    by : (b : Bool) → (if b then reads.answering n (reads.delivering (seen.Reply n) h) else reads.arriving (seen.Reply n) h).delivered ≡ h.delivered ++ seen.Reply n ∷ []
    by true = refl
    by false = refl

pub delivered-one : (schema : Schema) (place : ℕ) (w : What) (h : EndReading) → (after_what schema place w h).delivered ≡ h.delivered ++ delivered_by w
delivered-one schema place (what.DeliverRequest n) h = refl
delivered-one schema place (what.DeliverReply n) h = replying-delivered n h
delivered-one schema place what.DeliverGoodbye h = refl
delivered-one schema place what.DeliverBroken h = refl
delivered-one schema place _ h = sym (append-nil h.delivered)

pub delivered-are : (schema : Schema) (place : ℕ) (ws : List What) (h : EndReading) → (after_whats schema place ws h).delivered ≡ h.delivered ++ delivered_by_lines ws
delivered-are schema place [] h = sym (append-nil h.delivered)
delivered-are schema place (w ∷ ws) h =
    delivered-are schema (place + 1) ws (after_what schema place w h)
    ∙ (ap (λ (xs : List PacketKind). xs ++ delivered_by_lines ws) (delivered-one schema place w h) ∙ append_assoc h.delivered (delivered_by w) (delivered_by_lines ws))

-- What was sent grows

abbrev Grows : EndReading → EndReading → Type 0
Grows next h = (more : List SentPacket) × (next.sent ≡ h.sent ++ more)

replying-grows : (n : ℤ) (h : EndReading) → Grows (reads.quiet (reads.replying n h)) h
replying-grows n h = by (is_sync_request h n)
  where
    by : (b : Bool) → (more : List SentPacket) × ((if b then reads.answering n (reads.delivering (seen.Reply n) h) else reads.arriving (seen.Reply n) h).sent ≡ h.sent ++ more)
    by true = ([], sym (append-nil h.sent))
    by false = ([], sym (append-nil h.sent))

dying-grows : (h : EndReading) → Grows (reads.dying h) h
dying-grows h = by h.ended
  where
    by : (b : Bool) → (more : List SentPacket) × ((if b then h.sent else h.sent ++ told.broken ∷ []) ≡ h.sent ++ more)
    by true = ([], sym (append-nil h.sent))
    by false = (told.broken ∷ [], refl)

grows-one : (schema : Schema) (place : ℕ) (w : What) (h : EndReading) → Grows (after_what schema place w h) h
grows-one schema place (what.Send n route number vs) h = (told.request (request_after schema n (pos 0) route number vs h) ∷ [], refl)
grows-one schema place (what.Call n transaction route number vs) h = (told.request (request_after schema n transaction route number vs h) ∷ [], refl)
grows-one schema place (what.Resolve n vs) h = (told.said n (told.resolved vs) ∷ [], refl)
grows-one schema place (what.Reject n) h = (told.said n told.rejected ∷ [], refl)
grows-one schema place (what.AnswerOk n vs) h = (told.said n (told.ok vs) ∷ [], refl)
grows-one schema place (what.AnswerFault n r) h = (told.said n (told.fault r) ∷ [], refl)
grows-one schema place what.Close h = (told.goodbye ∷ [], refl)
grows-one schema place what.Die h = dying-grows h
grows-one schema place (what.DeliverReply n) h = replying-grows n h
grows-one schema place _ h = ([], sym (append-nil h.sent))

pub grows : (schema : Schema) (place : ℕ) (ws : List What) (h : EndReading) → Grows (after_whats schema place ws h) h
grows schema place [] h = ([], sym (append-nil h.sent))
grows schema place (w ∷ ws) h =
    let a = grows-one schema place w h in
    let b = grows schema (place + 1) ws (after_what schema place w h) in
    (a.0 ++ b.0, b.1 ∙ (ap (λ (xs : List SentPacket). xs ++ b.0) a.1 ∙ append_assoc h.sent a.0 b.0))

-- What belongs to what was sent still does

pub in-before : {A : Type 0} {x : A} {xs : List A} (ys : List A) → In x xs → In x (xs ++ ys)
in-before ys here = here
in-before ys (there i) = there (in-before ys i)

pub in-following : {A : Type 0} {x : A} (ys : List A) {xs : List A} → In x xs → In x (ys ++ xs)
in-following [] i = i
in-following (y ∷ ys) i = there (in-following ys i)

module _ (schema : Schema) (theirs more : List Note) where
  abbrev requested-grows : {seq route : ℤ} {number : ℕ} → IsRequested theirs seq route number → IsRequested (theirs ++ more) seq route number
  requested-grows a = record { request = a.request; sent_it = in-before more a.sent_it; seq_is = a.seq_is; route_is = a.route_is; number_is = a.number_is }

  abbrev origin-grows : {seq route : ℤ} {number : ℕ} → Origin schema theirs seq route number → Origin schema (theirs ++ more) seq route number
  origin-grows o = record { row = o.row; found = o.found; requested = requested-grows o.requested }

  entry-grows : (x : StackEntry) → EntryOrigin schema theirs x → EntryOrigin schema (theirs ++ more) x
  entry-grows x h = record { row = h.row; found = h.found; resolves = h.resolves; requested = λ d. requested-grows (h.requested d) }

  content-grows : (x : NameContent) → ContentOrigin schema theirs x → ContentOrigin schema (theirs ++ more) x
  content-grows (actor id) h = tt
  content-grows (resolver r) h = record { origin = origin-grows h.origin; promised = h.promised }

  body-grows : (m : Message) (b : Body) → BodyOrigin schema theirs m b → BodyOrigin schema (theirs ++ more) m b
  body-grows m (Request vs) h = origin-grows h
  body-grows m (Reply vs) h = h
  body-grows m (Fault r) h = h
  body-grows m Goodbye h = tt

  item-grows : (x : Item) → ItemOrigin schema theirs x → ItemOrigin schema (theirs ++ more) x
  item-grows (item.Message m sync level) h = body-grows m m.body h
  item-grows item.Broken h = tt

  pub origins-grow : (e : End) → HasOrigins schema theirs e → HasOrigins schema (theirs ++ more) e
  origins-grow e k = record {
    entries = all-map (EntryOrigin schema theirs) (EntryOrigin schema (theirs ++ more)) e.stack entry-grows k.entries;
    names = all-map (NamingOrigin schema theirs) (NamingOrigin schema (theirs ++ more)) e.names (λ n h. content-grows n.holds h) k.names;
    arrived = all-map (ItemOrigin schema theirs) (ItemOrigin schema (theirs ++ more)) e.arrived item-grows k.arrived;
    outbox = k.outbox;
  }

  reply-grows : (m : Message) (b : Body) → BodyReplies schema theirs m b → BodyReplies schema (theirs ++ more) m b
  reply-grows m (Request vs) h = h
  reply-grows m (Reply vs) h = record { number = h.number; is = h.is; origin = origin-grows h.origin; replied = h.replied }
  reply-grows m (Fault r) h = record { number = h.number; is = h.is; origin = origin-grows h.origin; replied = h.replied }
  reply-grows m Goodbye h = tt

  packet-grows : (p : Packet) → PacketReplies schema theirs p → PacketReplies schema (theirs ++ more) p
  packet-grows (message m) h = reply-grows m m.body h
  packet-grows mark h = tt

  pub replies-grow : (ps : List Packet) → AllByRecursion (PacketReplies schema theirs) ps → AllByRecursion (PacketReplies schema (theirs ++ more)) ps
  replies-grow ps h = all-map (PacketReplies schema theirs) (PacketReplies schema (theirs ++ more)) ps packet-grows h

-- The request of a number is the only one

more_seqs : (side : Side) (n : ℕ) (seq : ℤ) → IsSeqOf side n seq → IsSeqOf side (suc n) seq
more_seqs side n seq (k, one, low, e) = (k, one, omega arith, e)

next-is_free : (side : Side) (n : ℕ) (seq : ℤ) → IsSeqOf side n seq → seq ≢ seq_of side (suc n)
next-is_free side n seq (k, one, low, e) is = let f : k ≡ suc n = same_seq side k (suc n) one (omega arith) (sym e ∙ is) in absurd (omega arith)

seqs-are : (side : Side) (n : ℕ) → AllByRecursion (IsSeqOf side n) (seqs side n)
seqs-are side zero = tt
seqs-are side (suc n) = all-append (IsSeqOf side (suc n)) (seqs side n) (seq_of side (suc n) ∷ []) (all-map (IsSeqOf side n) (IsSeqOf side (suc n)) (seqs side n) (more_seqs side n) (seqs-are side n)) ((suc n, omega arith, omega arith, refl), tt)

pub seqs-distinct : (side : Side) (n : ℕ) → AreDistinct (seqs side n)
seqs-distinct side zero = tt
seqs-distinct side (suc n) = distinct-last (seqs side n) (seq_of side (suc n)) (seqs-distinct side n) (all-map (IsSeqOf side n) (λ seq. seq ≢ seq_of side (suc n)) (seqs side n) (next-is_free side n) (seqs-are side n))

other-number : (r : told.Request) (rs : List told.Request) (n : ℤ) → In r rs → AllByRecursion (λ later. n ≢ later) (map request_seq rs) → n ≢ r.seq
other-number r [] n i h = elim i [ ]
other-number r (x ∷ rs) n here h = h.0
other-number r (x ∷ rs) n (there i) h = other-number r rs n i h.1

apart : (m n : ℤ) → m ≢ n → int_eq m n ≡ false
apart m n h = elim (cases_Bool (int_eq m n)) [ inl t ↦ absurd (h ((Decides-int_eq m n).0 t)) | inr f ↦ f ]

found-only : (r : told.Request) (rs : List told.Request) → In r rs → AreDistinct (map request_seq rs) → find (λ (x : told.Request). int_eq x.seq r.seq) rs ≡ Some r
found-only r [] i d = elim i [ ]
found-only r (x ∷ rs) here d = ap (λ (b : Bool). cond b (Some r) (find (λ (y : told.Request). int_eq y.seq r.seq) rs)) ((Decides-int_eq r.seq r.seq).1 refl)
found-only r (x ∷ rs) (there i) d =
    ap (λ (b : Bool). cond b (Some x) (find (λ (y : told.Request). int_eq y.seq r.seq) rs)) (apart x.seq r.seq (other-number r rs x.seq i d.0)) ∙ found-only r rs i d.1

-- a note of a request is that of one that was sent
pub record IsSentAs (side : Side) (sent : List SentPacket) (a : RequestNote) : Type 0 where
  pub request : told.Request
  pub there : In request (requests_of sent)
  pub is : request_note side request ≡ a

sent-later : {side : Side} {sent : List SentPacket} {a : RequestNote} (t : SentPacket) → IsSentAs side sent a → IsSentAs side (t ∷ sent) a
sent-later (told.request r) s = record { request = s.request; there = Notes.there s.there; is = s.is }
sent-later (told.said n w) s = record { request = s.request; there = s.there; is = s.is }
sent-later told.goodbye s = record { request = s.request; there = s.there; is = s.is }
sent-later told.broken s = record { request = s.request; there = s.there; is = s.is }

sent-here : (side : Side) (sent : List SentPacket) (a : RequestNote) (t : SentPacket) → told_note side t ≡ asks a → IsSentAs side (t ∷ sent) a
sent-here side sent a (told.request r) e = record { request = r; there = Notes.here; is = let x : request_note side r ≡ a = cc in x }
sent-here side sent a (told.said n w) e = cc
sent-here side sent a told.goodbye e = cc
sent-here side sent a told.broken e = cc

pub sent-as : (side : Side) (sent : List SentPacket) (a : RequestNote) (notes : List Note) → notes ≡ told_notes side sent → In (asks a) notes → IsSentAs side sent a
sent-as side [] a _ e here = cc
sent-as side (t ∷ sent) a _ e here = sent-here side sent a t (let x : asks a ≡ told_note side t = cc in sym x)
sent-as side [] a _ e (there i) = cc
sent-as side (t ∷ sent) a _ e (there {xs = notes} i) = sent-later t (sent-as side sent a notes (let x : notes ≡ told_notes side sent = cc in x) i)

pub in-all : {A : Type 0} {x : A} {xs : List A} (P : A → Type 0) → In x xs → AllByRecursion P xs → P x
in-all P here h = h.0
in-all P (there i) h = in-all P i h.1

pub own-request : (schema : Schema) (side : Side) (open_end : Bool) (outbox : List Message) (count : ℕ) (sent : List SentPacket) (left : List Note) (a : RequestNote) → SentAccount schema side open_end outbox count sent left → In (asks a) (told_notes side sent)
    → (r : told.Request) × ((request_of sent a.seq ≡ Some r) × ((request_note side r ≡ a) × (r.sync ≡ reading.is_sync_number schema r.number)))
own-request schema side open_end outbox count sent left a k i =
    let s : IsSentAs side sent a = sent-as side sent a (told_notes side sent) refl i in
    let seq : s.request.seq ≡ a.seq = ap (λ (x : RequestNote). x.seq) s.is in
    let found : request_of sent s.request.seq ≡ Some s.request = found-only s.request (requests_of sent) s.there (subst AreDistinct (sym k.numbers) (seqs-distinct side count)) in
    (s.request, (ap (request_of sent) (sym seq) ∙ found, (s.is, in-all (HasSyncOfRow schema) s.there k.syncs)))
