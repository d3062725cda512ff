-- Each part of a step keeps that all belongs to what the other end has sent, and sends replies only to that.
use Rattle.std.proofs.Common.{◌≡◌, ◌==◌, ℕ, ◌+◌, ℤ, Bool, true, false, not, ◌&&◌, ◌||◌, cond, int_eq, List, [], ◌∷◌, ◌++◌, drop, find, map, Option, Some, None, is_some, option_map, option_and_then, refl, sym, ap, subst, ◌∙◌}
use Rattle.std.specs.List.{AllByRecursion}
use Rattle.std.proofs.lemmas.Option.{same_Some}
use Rattle.std.proofs.lemmas.Bool.{eqb-true}
use Rattle.ipdl_base.specs.declared.kinds.Reason.TheVariants.{ActorDestroyed, ResolverDestroyed}
use Rattle.ipdl_base.specs.declared.message.Body.{Body}
use Rattle.ipdl_base.specs.declared.message.Body.TheVariants.{Request, Reply, Fault, Goodbye}
use Rattle.ipdl_base.specs.declared.message.Message.{Message}
use Rattle.ipdl_base.specs.declared.schema.MessageRow.{MessageRow}
use Rattle.ipdl_base.specs.declared.schema.Schema.{Schema}
use Rattle.ipdl_base.specs.declared.value.Values.{Values}
use Rattle.ipdl_base.specs.Sound.{message_of, has_reply}
use Rattle.nesting_core.specs.declared.frame.Answer.{Answer}
use Rattle.nesting_core.specs.declared.frame.Answer.TheVariants as answer
use Rattle.nesting_core.specs.declared.frame.StackFrame.{StackFrame}
use Rattle.nesting_core.specs.declared.frame.StackFrame.TheVariants.{Dispatch, Wait}
use Rattle.nesting_core.specs.Answers.{with_answer}
use Rattle.nesting_core.specs.Frames.{head_of, is_dispatch}
use Rattle.pending_queue.specs.declared.item.Item.{Item}
use Rattle.pending_queue.specs.declared.item.Item.TheVariants as item
use Rattle.pending_queue.specs.Compression.{replaced, staying, is_request, is_request_of}
use Rattle.pending_queue.specs.DeferralContext.{is_free, without_first}
use Rattle.nesting_core.specs.Top.{top_of}
use Rattle.channel_model.specs.Acts.{goodbye}
use Rattle.channel_model.specs.Answers as answering
use Rattle.channel_model.specs.Deliveries as delivery
use Rattle.channel_model.specs.Ends.{End, Packet, message, mark, StackEntry, Naming, NameContent, actor, resolver, Resolver}
use Rattle.channel_model.specs.Events.{Answering, handled, kept}
use Rattle.channel_model.specs.Names.{has_name, held_by_name, is_actor}
use Rattle.channel_model.specs.Numbers.{makes_promise, counting, is_sync_row}
use Rattle.channel_model.specs.Outputs.{is_open, AnsweredRequest, request_answered, resolver_answered, reply_to}
use Rattle.channel_model.specs.Returns as return
use Rattle.channel_model.specs.Sends as send
use Rattle.channel_model.specs.Takes as take
use Rattle.channel_model.specs.States.{is_farewell, is_goodbye}
use Rattle.channel_model.proofs.Known.{all-append, all-filter}
use Rattle.channel_model.proofs.Sublists.{all-sublist, without_first-sublist, staying-sublist}
use Rattle.ipdl_base.specs.declared.line.What.{What}
use Rattle.channel_model.specs.Phases.{Phase}
use Rattle.channel_model.specs.Parts as parts
use Rattle.channel_model.specs.Parts.{FirstPart, LaterPart, DeliveryPart, HoldsActor, IsRefusal, IsRenaming, after_outbox, reply_packet, reply_packets, end_after, left_end, outbox_after, request_packets, farewell_item}
use Rattle.channel_model.proofs.FittingEnds.{all-drop}
use Rattle.channel_model.proofs.FittingRequests.{promise-reply}
use Rattle.channel_laws.proofs.Track.{all-found}
use Rattle.channel_laws.specs.Notes.{Note}
use Rattle.channel_laws.specs.Origins.{IsRequested, EntryOrigin, Origin, ResolverOrigin, ContentOrigin, NamingOrigin, BodyOrigin, ItemOrigin, PacketOrigin, BodyReplies, PacketReplies, IsRequestBody, IsRequestMessage, HasOrigins}
use Rattle.channel_laws.proofs.ListedItems.{all-messages, replaced-is}
use Rattle.channel_laws.proofs.Rows.{request-message}
use Rattle.channel_model.proofs.Tests.{and-left, and-right}

-- Lists

pub found-passes : {A : Type 0} (test : A → Bool) (xs : List A) (x : A) → find test xs ≡ Some x → test x ≡ true
found-passes test [] x e = cc
found-passes test (y ∷ ys) x e = by (test y) refl e (found-passes test ys x)
  where
    by : (b : Bool) → test y ≡ b → cond b (Some y) (find test ys) ≡ Some x → (find test ys ≡ Some x → test x ≡ true) → test x ≡ true
    by true is e rec = ap test (sym (same_Some y x e)) ∙ is
    by false is e rec = rec e

-- Rows that have replies

pub or-left : (a b : Bool) → a ≡ true → a || b ≡ true
or-left true b e = refl
or-left false b e = cc

answered-at : (s r : Bool) → s || (not s && r) ≡ true → s || r ≡ true
answered-at true r e = refl
answered-at false r e = e

pub answered-replied : (row : MessageRow) → parts.owes_reply row ≡ true → has_reply row ≡ true
answered-replied row e = answered-at (is_sync_row row) (is_some row.returns) e

pub promise-async : (row : MessageRow) → makes_promise row ≡ true → is_sync_row row ≡ false
promise-async row e = by (is_sync_row row) (is_some row.returns) e
  where
    by : (b c : Bool) → not b && c ≡ true → b ≡ false
    by true c e = cc
    by false c e = refl

module _ (schema : Schema) (theirs : List Note) where
  asks-replies : (m : Message) (body : Body) → IsRequestBody schema body m.number → BodyReplies schema theirs m body
  asks-replies m (Request vs) h = h
  asks-replies m (Reply vs) h = absurd h
  asks-replies m (Fault r) h = absurd h
  asks-replies m Goodbye h = tt

  outbox-replies : (e : End) → HasOrigins schema theirs e → AllByRecursion (PacketReplies schema theirs) (map message e.outbox)
  outbox-replies e k = all-messages (PacketReplies schema theirs) (IsRequestMessage schema) e.outbox (λ m h. asks-replies m m.body h) k.outbox

  after_outbox-replies : (e : End) (p : Packet) → HasOrigins schema theirs e → PacketReplies schema theirs p → AllByRecursion (PacketReplies schema theirs) (after_outbox e p)
  after_outbox-replies e p k h = all-append (PacketReplies schema theirs) (map message e.outbox) (p ∷ []) (outbox-replies e k) (h, tt)

  reply-replies : (q : AnsweredRequest) (a : Answer) (o : Origin schema theirs q.seq q.route q.number) → has_reply o.row ≡ true → PacketReplies schema theirs (reply_packet q a)
  reply-replies q (answer.Ok vs) o r = record { number = q.number; is = refl; origin = o; replied = r }
  reply-replies q (answer.Fault reason) o r = record { number = q.number; is = refl; origin = o; replied = r }

  reply-packets : (b : Bool) (e : End) (q : AnsweredRequest) (a : Answer) → HasOrigins schema theirs e → (o : Origin schema theirs q.seq q.route q.number) → (b ≡ true → has_reply o.row ≡ true) → AllByRecursion (PacketReplies schema theirs) (reply_packets b e q a)
  reply-packets true e q a k o r = after_outbox-replies e (reply_packet q a) k (reply-replies q a o (r refl))
  reply-packets false e q a k o r = tt

  end_after-origins : (b : Bool) (e : End) → HasOrigins schema theirs e → HasOrigins schema theirs (end_after b e)
  end_after-origins true e k = record { entries = k.entries; names = k.names; arrived = k.arrived; outbox = tt }
  end_after-origins false e k = k

  -- stacks

  released-one : (b : Bool) (entry : StackEntry) → EntryOrigin schema theirs entry → EntryOrigin schema theirs (cond b (record entry { resolves = false }) entry)
  released-one true entry h = record { row = h.row; found = h.found; resolves = λ r. cc; requested = h.requested }
  released-one false entry h = h

  released-origin : (seq : ℤ) (es : List StackEntry) → AllByRecursion (EntryOrigin schema theirs) es → AllByRecursion (EntryOrigin schema theirs) (answering.released seq es)
  released-origin seq [] h = tt
  released-origin seq (x ∷ xs) h = (released-one (answering.has_resolver seq x) x h.0, released-origin seq xs h.1)

  failed-one : (x : StackEntry) (f : StackFrame) → x.frame ≡ f → EntryOrigin schema theirs x → EntryOrigin schema theirs (record x { frame = delivery.failed f })
  failed-one x (Dispatch head) is h = record { row = h.row; found = h.found; resolves = h.resolves; requested = λ d. subst (λ (g : StackFrame). IsRequested theirs (head_of g).seq x.route x.number) is (h.requested (ap is_dispatch is)) }
  failed-one x (Wait head None) is h = record { row = h.row; found = h.found; resolves = h.resolves; requested = λ d. cc }
  failed-one x (Wait head (Some a)) is h = record { row = h.row; found = h.found; resolves = h.resolves; requested = λ d. cc }

  failed-origin : (es : List StackEntry) → AllByRecursion (EntryOrigin schema theirs) es → AllByRecursion (EntryOrigin schema theirs) (map delivery.with_failed_wait es)
  failed-origin [] h = tt
  failed-origin (x ∷ xs) h = (failed-one x x.frame refl h.0, failed-origin xs h.1)

  same-origin : (es : List StackEntry) → AllByRecursion (EntryOrigin schema theirs) es → AllByRecursion (EntryOrigin schema theirs) (delivery.with_frames (map (λ (x : StackEntry). x.frame) es) es)
  same-origin [] h = tt
  same-origin (x ∷ xs) h = (h.0, same-origin xs h.1)

  answered-origin : (a : Answer) (es : List StackEntry) → AllByRecursion (EntryOrigin schema theirs) es → AllByRecursion (EntryOrigin schema theirs) (delivery.with_frames (with_answer a (map (λ (x : StackEntry). x.frame) es)) es)
  answered-origin a [] h = tt
  answered-origin a (x ∷ xs) h = by x.frame refl (answered-origin a xs h.1)
    where
      frames : List StackFrame
      frames = map (λ (x : StackEntry). x.frame) xs

      by : (f : StackFrame) → x.frame ≡ f → AllByRecursion (EntryOrigin schema theirs) (delivery.with_frames (with_answer a frames) xs) → AllByRecursion (EntryOrigin schema theirs) (delivery.with_frames (with_answer a (f ∷ frames)) (x ∷ xs))
      by (Dispatch head) is rec = (subst (λ (g : StackFrame). EntryOrigin schema theirs (record x { frame = g })) is h.0, rec)
      by (Wait head None) is rec = (record { row = h.0.row; found = h.0.found; resolves = h.0.resolves; requested = λ d. cc }, same-origin xs h.1)
      by (Wait head (Some b)) is rec = (subst (λ (g : StackFrame). EntryOrigin schema theirs (record x { frame = g })) is h.0, rec)

  -- resolvers

  entry-resolver : (seq : ℤ) (entry : StackEntry) → answering.has_resolver seq entry ≡ true → EntryOrigin schema theirs entry → ResolverOrigin schema theirs (answering.resolver_in entry)
  entry-resolver seq entry passes h =
      let d : is_dispatch entry.frame ≡ true = and-left (is_dispatch entry.frame) (entry.resolves && int_eq (head_of entry.frame).seq seq) passes in
      let r : entry.resolves ≡ true = and-left entry.resolves (int_eq (head_of entry.frame).seq seq) (and-right (is_dispatch entry.frame) (entry.resolves && int_eq (head_of entry.frame).seq seq) passes) in
      record { origin = record { row = h.row; found = h.found; requested = h.requested d }; promised = h.resolves r }

  handled-origin : (e : End) (seq : ℤ) (r : Resolver) → HasOrigins schema theirs e → answering.handled_resolver e seq ≡ Some r → ResolverOrigin schema theirs r
  handled-origin e seq r k is = by (find (answering.has_resolver seq) e.stack) refl is
    where
      by : (found : Option StackEntry) → find (answering.has_resolver seq) e.stack ≡ found → option_map answering.resolver_in found ≡ Some r → ResolverOrigin schema theirs r
      by None f e = cc
      by (Some entry) f x =
          subst (ResolverOrigin schema theirs) (same_Some (answering.resolver_in entry) r x)
          (entry-resolver seq entry (found-passes (answering.has_resolver seq) e.stack entry f) (all-found (EntryOrigin schema theirs) (answering.has_resolver seq) e.stack entry k.entries f))

  pub held-origin : (name : List ℕ) (names : List Naming) (r : Resolver) → AllByRecursion (NamingOrigin schema theirs) names → held_by_name name names ≡ Some (resolver r) → ResolverOrigin schema theirs r
  held-origin name names r k is = by (find (has_name name) names) refl is
    where
      by : (found : Option Naming) → find (has_name name) names ≡ found → option_map (λ (n : Naming). n.holds) found ≡ Some (resolver r) → ResolverOrigin schema theirs r
      by None f e = cc
      by (Some n) f x = subst (ContentOrigin schema theirs) (same_Some n.holds (resolver r) x) (all-found (NamingOrigin schema theirs) (has_name name) names n k f)

  pub used-origin : (e : End) (by : Answering) (r : Resolver) → HasOrigins schema theirs e → answering.resolver_used e by ≡ Some r → ResolverOrigin schema theirs r
  used-origin e (handled seq) r k is = handled-origin e seq r k is
  used-origin e (kept name number) r k is = at (held_by_name name e.names) refl is
    where
      number-is : (b : Bool) (s : Resolver) → cond b (Some s) None ≡ Some r → s ≡ r
      number-is true s e = same_Some s r e
      number-is false s e = cc

      at : (holds : Option NameContent) → held_by_name name e.names ≡ holds → option_and_then (answering.resolver_of number) holds ≡ Some r → ResolverOrigin schema theirs r
      at None f e = cc
      at (Some (actor id)) f e = cc
      at (Some (resolver s)) f x = held-origin name e.names r k.names (f ∙ ap (λ (t : Resolver). Some (resolver t)) (number-is (s.number == number) s x))

  without-origins : (by : Answering) (e : End) → HasOrigins schema theirs e → HasOrigins schema theirs (record (answering.without_resolver by e) { outbox = [] })
  without-origins (handled seq) e k = record { entries = released-origin seq e.stack k.entries; names = k.names; arrived = k.arrived; outbox = tt }
  without-origins (kept name number) e k = record { entries = k.entries; names = all-filter (NamingOrigin schema theirs) (λ naming. not (has_name name naming)) e.names k.names; arrived = k.arrived; outbox = tt }

  actors-origin : (more : List Naming) → AllByRecursion HoldsActor more → AllByRecursion (NamingOrigin schema theirs) more
  actors-origin [] h = tt
  actors-origin (n ∷ ns) h = (by n.holds h.0, actors-origin ns h.1)
    where
      by : (x : NameContent) → elim x as (λ y. Type 0) [ actor id ↦ Unit {0} | resolver r ↦ ⊥ ] → ContentOrigin schema theirs x
      by (actor id) h = tt
      by (resolver r) h = absurd h

  -- an item that is replaced or taken

  pub request-origin : (m : Message) (body : Body) → is_request body ≡ true → BodyOrigin schema theirs m body → Origin schema theirs m.seq m.route m.number
  request-origin m (Request vs) is h = h
  request-origin m (Reply vs) is h = cc
  request-origin m (Fault r) is h = cc
  request-origin m Goodbye is h = cc

  pub old-origin : (e : End) (row : MessageRow) (m old : Message) (sync : Bool) (level : _) → HasOrigins schema theirs e → replaced row.compress (delivery.item_of row m) e.arrived ≡ Some (item.Message old sync level) → Origin schema theirs old.seq old.route old.number
  old-origin e row m old sync level k is =
      let r = replaced-is (ItemOrigin schema theirs) row.compress (delivery.item_of row m) e.arrived (item.Message old sync level) k.arrived is in
      request-origin old old.body (and-left (is_request old.body) (old.number == m.number) (and-left (is_request old.body && old.number == m.number) (int_eq old.route m.route) (and-right (is_request m.body) (is_request_of m.number m.route (item.Message old sync level)) r.1))) r.0

  -- the row of a request that is replaced
  old-row : (e : End) (row : MessageRow) (m old : Message) (sync : Bool) (level : _) (k : HasOrigins schema theirs e) → message_of schema m.number ≡ Some row → (rep : replaced row.compress (delivery.item_of row m) e.arrived ≡ Some (item.Message old sync level)) → (old-origin e row m old sync level k rep).row ≡ row
  old-row e row m old sync level k found rep =
      let r = replaced-is (ItemOrigin schema theirs) row.compress (delivery.item_of row m) e.arrived (item.Message old sync level) k.arrived rep in
      let o : Origin schema theirs old.seq old.route old.number = old-origin e row m old sync level k rep in
      let alike : is_request old.body && old.number == m.number ≡ true = and-left (is_request old.body && old.number == m.number) (int_eq old.route m.route) (and-right (is_request m.body) (is_request_of m.number m.route (item.Message old sync level)) r.1) in
      let number : old.number ≡ m.number = eqb-true old.number m.number (and-right (is_request old.body) (old.number == m.number) alike) in
      same_Some o.row row (sym (request-message schema old.number o.row o.found) ∙ (ap (message_of schema) number ∙ found))

  pub taken-origin : (e : End) (x : Item) → HasOrigins schema theirs e → take.taken_next e ≡ Some x → ItemOrigin schema theirs x
  taken-origin e x k next = by (take.takes_in_state e.state && take.takes_under (top_of (send.frames_of e))) next
    where
      by : (b : Bool) → cond b (take.first_free e) None ≡ Some x → ItemOrigin schema theirs x
      by true is = all-found (ItemOrigin schema theirs) (is_free (take.deferral_context_of e)) e.arrived x k.arrived is
      by false is = cc

  pub body-asks : (m : Message) (vs : Values) → m.body ≡ Request vs → is_request m.body ≡ true
  body-asks m vs body = ap is_request body

  left-origins : (e : End) → HasOrigins schema theirs e → HasOrigins schema theirs (left_end e)
  left-origins e k = record { entries = k.entries; names = k.names; arrived = all-sublist (ItemOrigin schema theirs) (without_first (is_free (take.deferral_context_of e)) e.arrived) e.arrived (without_first-sublist (is_free (take.deferral_context_of e)) e.arrived) k.arrived; outbox = k.outbox }

  counted-origins : (e : End) (row : MessageRow) (m : Message) → ItemOrigin schema theirs (delivery.item_of row m) → HasOrigins schema theirs e → HasOrigins schema theirs (delivery.counted row (delivery.item_of row m) e)
  counted-origins e row m new k = record {
    entries = k.entries;
    names = k.names;
    arrived = all-append (ItemOrigin schema theirs) (staying row.compress (delivery.item_of row m) e.arrived) (delivery.item_of row m ∷ []) (all-sublist (ItemOrigin schema theirs) (staying row.compress (delivery.item_of row m) e.arrived) e.arrived (staying-sublist row.compress (delivery.item_of row m) e.arrived) k.arrived) (new, tt);
    outbox = k.outbox;
  }

  pub top-origin : (es : List StackEntry) (entry : StackEntry) → return.dispatch_on_top es ≡ Some entry → AllByRecursion (EntryOrigin schema theirs) es → EntryOrigin schema theirs entry × (is_dispatch entry.frame ≡ true)
  top-origin [] entry is h = cc
  top-origin (x ∷ xs) entry is h = by x.frame refl is
    where
      by : (f : StackFrame) → x.frame ≡ f → elim f as (λ y. Option StackEntry) [ Dispatch head ↦ Some x | Wait head a ↦ None ] ≡ Some entry → EntryOrigin schema theirs entry × (is_dispatch entry.frame ≡ true)
      by (Dispatch head) f e = (subst (EntryOrigin schema theirs) (same_Some x entry e) h.0, ap (λ (z : StackEntry). is_dispatch z.frame) (sym (same_Some x entry e)) ∙ ap is_dispatch f)
      by (Wait head a) f e = cc

  -- Every part

  -- all that the end has belongs to what the other end has sent, and its replies are to that
  abbrev pub Both : End → List Packet → Type 0
  Both f ps = HasOrigins schema theirs f × AllByRecursion (PacketReplies schema theirs) ps

  pub first-origins : {q : Phase} {e f : End} {ws : List What} {ps : List Packet} → FirstPart schema e ws ps f q → HasOrigins schema theirs e → Both f ps
  first-origins {e} (parts.refuses w q) k = (k, tt)
  first-origins {e} (parts.renames w q) k = (k, tt)
  first-origins {e} (parts.flushes o) k = (record { entries = k.entries; names = k.names; arrived = k.arrived; outbox = tt }, outbox-replies e k)
  first-origins {e} (parts.sends row route vs name sent) k = sends-origins row.lazy (is_sync_row row) (makes_promise row)
    where
      m : Message
      m = send.request_of e row route vs

      waiting : EntryOrigin schema theirs (send.wait_for row (send.request_of e row route vs))
      waiting = record { row = row; found = sent.found; resolves = λ r. cc; requested = λ d. cc }

      sends-origins : (lazy sync wants : Bool) → Both (record e { sent = e.sent + 1; constructors_sent = counting row.kind e.constructors_sent; outbox = outbox_after lazy (send.request_of e row route vs) e.outbox; stack = cond sync (send.wait_for row (send.request_of e row route vs) ∷ e.stack) e.stack; promises = cond wants (e.promises ++ parts.promise_for (send.request_of e row route vs) ∷ []) e.promises }) (request_packets lazy e (send.request_of e row route vs))
      sends-origins true true wants = (record { entries = (waiting, k.entries); names = k.names; arrived = k.arrived; outbox = all-append (IsRequestMessage schema) e.outbox (send.request_of e row route vs ∷ []) k.outbox ((row, sent.found), tt) }, tt)
      sends-origins true false wants = (record { entries = k.entries; names = k.names; arrived = k.arrived; outbox = all-append (IsRequestMessage schema) e.outbox (send.request_of e row route vs ∷ []) k.outbox ((row, sent.found), tt) }, tt)
      sends-origins false true wants = (record { entries = (waiting, k.entries); names = k.names; arrived = k.arrived; outbox = tt }, after_outbox-replies e (message (send.request_of e row route vs)) k (row, sent.found))
      sends-origins false false wants = (record { entries = k.entries; names = k.names; arrived = k.arrived; outbox = tt }, after_outbox-replies e (message (send.request_of e row route vs)) k (row, sent.found))
  first-origins {e} (parts.answers by vs r row found may ok used) k =
      (without-origins by e k, after_outbox-replies e (message (reply_to (resolver_answered r) (answering.answer_body vs))) k (answer-replies vs))
    where
      answer-replies : (vs : Option Values) → PacketReplies schema theirs (message (reply_to (resolver_answered r) (answering.answer_body vs)))
      answer-replies None = record { number = r.number; is = refl; origin = (used-origin e by r k used).origin; replied = promise-reply (used-origin e by r k used).origin.row (used-origin e by r k used).promised }
      answer-replies (Some us) = record { number = r.number; is = refl; origin = (used-origin e by r k used).origin; replied = promise-reply (used-origin e by r k used).origin.row (used-origin e by r k used).promised }
  first-origins {e} (parts.closes o waits) k =
      (record { entries = k.entries; names = all-filter (NamingOrigin schema theirs) is_actor e.names k.names; arrived = tt; outbox = tt }, after_outbox-replies e (message goodbye) k tt)
  first-origins {e} (parts.dies o) k = (record { entries = tt; names = k.names; arrived = tt; outbox = tt }, after_outbox-replies e mark k tt)
  first-origins {e} (parts.dies_silent o alive) k = (record { entries = tt; names = k.names; arrived = tt; outbox = k.outbox }, tt)
  first-origins {e} (parts.takes m sync level row vs next body found stays) k =
      let l : HasOrigins schema theirs (left_end e) = left-origins e k in
      let o : Origin schema theirs m.seq m.route m.number = request-origin m m.body (body-asks m vs body) (taken-origin e (item.Message m sync level) k next) in
      let same_row : row ≡ o.row = same_Some row o.row (sym found ∙ request-message schema m.number o.row o.found) in
      (record { entries = (record { row = o.row; found = o.found; resolves = λ r. ap makes_promise (sym same_row) ∙ r; requested = λ d. o.requested }, k.entries); names = l.names; arrived = l.arrived; outbox = l.outbox }, tt)
  first-origins {e} (parts.drops m sync level row vs id replies next body found gone is) k =
      let o : Origin schema theirs m.seq m.route m.number = request-origin m m.body (body-asks m vs body) (taken-origin e (item.Message m sync level) k next) in
      let same_row : row ≡ o.row = same_Some row o.row (sym found ∙ request-message schema m.number o.row o.found) in (
        end_after-origins replies (left_end e) (left-origins e k),
        reply-packets replies e (request_answered m) (answer.Fault ActorDestroyed) k o (λ w. answered-replied o.row (ap parts.owes_reply (sym same_row) ∙ and-right (is_open e.state) (parts.owes_reply row) (sym is ∙ w))),
      )
  first-origins {e} (parts.drops_unknown m sync level vs next body none) k = (left-origins e k, tt)
  first-origins {e} (parts.takes_reply m sync level a next body late) k = (left-origins e k, tt)
  first-origins {e} (parts.settles m sync level row a next body found is) k = let l : HasOrigins schema theirs (left_end e) = left-origins e k in (record { entries = l.entries; names = l.names; arrived = l.arrived; outbox = l.outbox }, tt)
  first-origins {e} (parts.shuts last next is) k = (record { entries = k.entries; names = all-filter (NamingOrigin schema theirs) is_actor e.names k.names; arrived = tt; outbox = k.outbox }, tt)
  first-origins {e} (parts.returns entry row vs told lost on_top t l) k =
      let top = top-origin e.stack entry on_top.on_top k.entries in
      let o : Origin schema theirs (head_of entry.frame).seq entry.route entry.number = record { row = top.0.row; found = top.0.found; requested = top.0.requested top.1 } in
      let popped : HasOrigins schema theirs (record e { stack = drop 1 e.stack }) = record { entries = all-drop (EntryOrigin schema theirs) e.stack k.entries; names = k.names; arrived = k.arrived; outbox = k.outbox } in (
        end_after-origins lost (end_after told (record e { stack = drop 1 e.stack })) (end_after-origins told (record e { stack = drop 1 e.stack }) popped),
        all-append (PacketReplies schema theirs) (reply_packets told e (return.dispatch_answered entry) (return.return_answer schema e row entry vs)) (reply_packets lost (end_after told e) (resolver_answered (answering.resolver_in entry)) (answer.Fault ResolverDestroyed))
            (reply-packets told e (return.dispatch_answered entry) (return.return_answer schema e row entry vs) k o (λ w. answered-replied top.0.row (or-left (is_sync_row top.0.row) (makes_promise top.0.row) (ap is_sync_row (sym (same_Some row top.0.row (sym on_top.found ∙ top.0.found))) ∙ and-right (is_open e.state) (is_sync_row row) (sym t ∙ w)))))
            (reply-packets lost (end_after told e) (resolver_answered (answering.resolver_in entry)) (answer.Fault ResolverDestroyed) (end_after-origins told e k) o (λ w. promise-reply top.0.row (top.0.resolves (and-right (is_open e.state) entry.resolves (sym l ∙ w))))),
      )
  first-origins {e} (parts.resumes wait row on_top found) k = (record { entries = all-drop (EntryOrigin schema theirs) e.stack k.entries; names = k.names; arrived = k.arrived; outbox = k.outbox }, tt)

  pub later-origins : {p q : Phase} {e f : End} {ws : List What} {ps : List Packet} → LaterPart p e ws ps f q → HasOrigins schema theirs e → Both f ps
  later-origins {e} (parts.unnames name now silent) k = (record { entries = k.entries; names = all-filter (NamingOrigin schema theirs) (λ naming. not (has_name name naming)) e.names k.names; arrived = k.arrived; outbox = k.outbox }, tt)
  later-origins {e} (parts.lets_go name r now is o) k =
      let h : ResolverOrigin schema theirs r = held-origin name e.names r k.names is in (
        record { entries = k.entries; names = all-filter (NamingOrigin schema theirs) (λ naming. not (has_name name naming)) e.names k.names; arrived = k.arrived; outbox = tt },
        after_outbox-replies e (reply_packet (resolver_answered r) (answer.Fault ResolverDestroyed)) k (reply-replies (resolver_answered r) (answer.Fault ResolverDestroyed) h.origin (promise-reply h.origin.row h.promised)),
      )
  later-origins {e} (parts.names more a) k = (record { entries = k.entries; names = all-append (NamingOrigin schema theirs) e.names more k.names (actors-origin more a); arrived = k.arrived; outbox = k.outbox }, tt)
  later-origins {e} (parts.releases seq closed) k = (record { entries = released-origin seq e.stack k.entries; names = k.names; arrived = k.arrived; outbox = k.outbox }, tt)
  later-origins {e} (parts.keeps seq name r is open_end) k =
      (record { entries = released-origin seq e.stack k.entries; names = all-append (NamingOrigin schema theirs) e.names (record { name = name; holds = resolver r } ∷ []) k.names (handled-origin e seq r k is, tt); arrived = k.arrived; outbox = k.outbox }, tt)
  later-origins {e} (parts.builds id protocol rest fresh alive) k = (record { entries = k.entries; names = k.names; arrived = k.arrived; outbox = k.outbox }, tt)
  later-origins {e} (parts.deletes id cause) k = (record { entries = k.entries; names = k.names; arrived = k.arrived; outbox = k.outbox }, tt)
  later-origins {e} (parts.falls why cause) k = (record { entries = k.entries; names = k.names; arrived = k.arrived; outbox = k.outbox }, tt)

  farewell-origin : (packet : Packet) → is_farewell (farewell_item packet) ≡ true → ItemOrigin schema theirs (farewell_item packet)
  farewell-origin mark is = tt
  farewell-origin (message m) is = by m.body is
    where
      by : (b : Body) → is_goodbye b ≡ true → BodyOrigin schema theirs m b
      by (Request vs) is = cc
      by (Reply vs) is = cc
      by (Fault r) is = cc
      by Goodbye is = tt

  pub delivery-origins : {packet : Packet} {q : Phase} {e f : End} {ws : List What} {ps : List Packet} → DeliveryPart schema packet e ws ps f q → PacketOrigin schema theirs packet → HasOrigins schema theirs e → Both f ps
  delivery-origins {e} (parts.gets_request m row vs body found none) new k = (counted-origins e row m new k, tt)
  delivery-origins {e} (parts.replaces m row vs old sync level replies body found rep is) new k = (
    end_after-origins replies (delivery.counted row (delivery.item_of row m) e) (counted-origins e row m new k),
    reply-packets replies e (request_answered old) (answer.Fault ResolverDestroyed) k (old-origin e row m old sync level k rep) (λ w. promise-reply (old-origin e row m old sync level k rep).row (ap makes_promise (old-row e row m old sync level k found rep) ∙ (sym is ∙ w))),
  )
  delivery-origins {e} (parts.gets_answer m row a body found is) new k = (record { entries = answered-origin a e.stack k.entries; names = k.names; arrived = k.arrived; outbox = k.outbox }, tt)
  delivery-origins {e} (parts.gets_reply m row a body found is) new k = (record { entries = k.entries; names = k.names; arrived = all-append (ItemOrigin schema theirs) e.arrived (delivery.item_of row m ∷ []) k.arrived (new, tt); outbox = k.outbox }, tt)
  delivery-origins {e} (parts.drains packet is) new k =
      (record { entries = failed-origin e.stack k.entries; names = k.names; arrived = all-append (ItemOrigin schema theirs) e.arrived (farewell_item packet ∷ []) k.arrived (farewell-origin packet is, tt); outbox = tt }, tt)
  delivery-origins (parts.passes_by m ordinary none) new k = (k, tt)
