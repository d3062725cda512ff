-- All requests whose numbers an end keeps are noted: each part of a step keeps that, and prints the values of answers
-- only to such requests.
use Rattle.std.proofs.Common.{◌≡◌, ◌==◌, ℕ, suc, ℤ, Bool, true, false, not, ◌&&◌, cond, if◌then◌else◌, List, [], ◌∷◌, ◌++◌, drop, find, map, filter, flat_map, Option, Some, None, is_some, option_map, option_and_then, refl, ap, subst}
use Rattle.std.specs.List.{AllByRecursion, slice_get}
use Rattle.std.specs.Option.{option_map_or, IsSomeAnd}
use Rattle.std.proofs.lemmas.Bool.Decides.{Decides-int_eq}
use Rattle.std.proofs.lemmas.Option.{same_Some}
use Rattle.ipdl_base.specs.declared.kinds.Destroy.{Destroy}
use Rattle.ipdl_base.specs.declared.kinds.Reason.{Reason}
use Rattle.ipdl_base.specs.declared.kinds.Reason.TheVariants.{ActorDestroyed, ChannelClosed, ResolverDestroyed}
use Rattle.ipdl_base.specs.declared.line.What.{What}
use Rattle.ipdl_base.specs.declared.line.What.TheVariants as what
use Rattle.ipdl_base.specs.declared.message.Body.{Body}
use Rattle.ipdl_base.specs.declared.message.Body.TheVariants.{Request, Reply, Fault, Goodbye}
use Rattle.ipdl_base.specs.declared.schema.Kind.{Kind}
use Rattle.ipdl_base.specs.declared.schema.Kind.TheVariants.{Constructor}
use Rattle.ipdl_base.specs.declared.schema.MessageRow.{MessageRow}
use Rattle.ipdl_base.specs.declared.schema.ProtocolRow.{ProtocolRow}
use Rattle.ipdl_base.specs.declared.schema.Schema.{Schema}
use Rattle.ipdl_base.specs.declared.value.Values.{Values}
use Rattle.ipdl_base.specs.Sound.{IsSound, IsSoundMessage, IsKindOf, has_number, message_of}
use Rattle.nesting_core.specs.declared.frame.Answer.{Answer}
use Rattle.nesting_core.specs.declared.frame.Answer.TheVariants as answer
use Rattle.nesting_core.specs.declared.frame.StackFrame.{StackFrame}
use Rattle.nesting_core.specs.declared.frame.StackFrame.TheVariants.{Dispatch, Wait}
use Rattle.nesting_core.specs.Answers.{with_answer}
use Rattle.nesting_core.specs.Frames.{head_of}
use Rattle.pending_queue.specs.declared.item.Item.{Item}
use Rattle.pending_queue.specs.declared.item.Item.TheVariants as item
use Rattle.promise_table.specs.declared.promise.Outcome.{Outcome}
use Rattle.promise_table.specs.declared.promise.Outcome.TheVariants.{Resolved, Rejected}
use Rattle.promise_table.specs.declared.promise.Promise.{Promise}
use Rattle.promise_table.specs.Promises as promises
use Rattle.channel_model.specs.Answers as answering
use Rattle.channel_model.specs.Deliveries as delivery
use Rattle.channel_model.specs.Ends.{End, Packet, message, mark, StackEntry, PromiseEntry, Naming, NameContent, actor, resolver, Resolver}
use Rattle.channel_model.specs.Events.{Answering, handled, kept}
use Rattle.channel_model.specs.Falls as fall
use Rattle.channel_model.specs.Names.{has_name, is_actor}
use Rattle.ipdl_base.specs.Sides.{top_id}
use Rattle.channel_model.specs.Numbers.{is_sync_row, makes_promise}
use Rattle.channel_model.specs.Outputs.{AnsweredRequest, request_answered, resolver_answered}
use Rattle.channel_model.specs.Parts as parts
use Rattle.channel_model.specs.Parts.{FirstPart, LaterPart, LaterParts, DeliveryPart, HoldsActor, IsRefusal, IsRenaming, reply_lines, fall_lines, farewell_line, end_after}
use Rattle.channel_model.specs.Phases.{Phase}
use Rattle.channel_model.specs.Returns as return
use Rattle.channel_model.specs.Sends as send
use Rattle.channel_model.specs.Takes as take
use Rattle.channel_model.specs.ValueActors.{received}
use Rattle.channel_model.proofs.FittingEnds.{all-drop}
use Rattle.channel_model.proofs.Known.{all-append, all-filter, all-map}
use Rattle.channel_laws.proofs.Origins.{found-passes}
use Rattle.channel_laws.proofs.PartLines.{mapped-lines, flat-lines}
use Rattle.channel_laws.proofs.Rows.{request-message}
use Rattle.channel_laws.proofs.Track.{all-found}

-- The protocol that a constructor makes exists

abbrev pub MakesProtocol : Schema → Kind → Type 0
MakesProtocol schema kind = (protocol : ℕ) → kind ≡ Constructor protocol → is_some (slice_get schema.protocols protocol) ≡ true

some-and : {A : Type 0} (Q : A → Type 0) (o : Option A) → IsSomeAnd o Q → is_some o ≡ true
some-and Q None h = absurd h
some-and Q (Some x) h = refl

all-places : {A : Type 0} (Q : A → Type 0) (xs : List A) → ((i : ℕ) (x : A) → slice_get xs i ≡ Some x → Q x) → AllByRecursion Q xs
all-places Q [] h = tt
all-places Q (x ∷ xs) h = (h 0 x refl, all-places Q xs (λ i y e. h (suc i) y e))

all-joined : {A B : Type 0} (Q : B → Type 0) (f : A → List B) (xs : List A) → AllByRecursion (λ x. AllByRecursion Q (f x)) xs → AllByRecursion Q (flat_map f xs)
all-joined Q f [] h = tt
all-joined Q f (x ∷ xs) h = all-append Q (f x) (flat_map f xs) h.0 (all-joined Q f xs h.1)

kind-makes : (schema : Schema) (p i : ℕ) (protocol : ProtocolRow) (row : MessageRow) → IsSoundMessage schema p protocol i row → MakesProtocol schema row.kind
kind-makes schema p i protocol row s made is =
    let k : IsKindOf schema.protocols protocol row.name (Constructor made) = subst (IsKindOf schema.protocols protocol row.name) is s.kind in
    some-and _ (slice_get schema.protocols made) k.2

pub row-makes : (schema : Schema) → IsSound schema → (n : ℕ) (row : MessageRow) → message_of schema n ≡ Some row → MakesProtocol schema row.kind
row-makes schema sound n row found =
    let all : AllByRecursion (λ (r : MessageRow). MakesProtocol schema r.kind) (flat_map (λ (p : ProtocolRow). p.messages) schema.protocols) =
    all-joined (λ (r : MessageRow). MakesProtocol schema r.kind) (λ (p : ProtocolRow). p.messages) schema.protocols
    (all-places (λ (p : ProtocolRow). AllByRecursion (λ (r : MessageRow). MakesProtocol schema r.kind) p.messages) schema.protocols
    (λ p protocol at. all-places (λ (r : MessageRow). MakesProtocol schema r.kind) protocol.messages (λ i r here. kind-makes schema p i protocol r ((sound.protocols p protocol at).messages i r here)))) in
    all-found (λ (r : MessageRow). MakesProtocol schema r.kind) (has_number n) (flat_map (λ (p : ProtocolRow). p.messages) schema.protocols) row all found

-- What lines look up and give

-- a line prints values of an answer only to a request that has a property, and builds only actors of protocols that
-- exist
abbrev pub Asks : Schema → (ℤ → Type 0) → What → Type 0
Asks schema P (what.Resolve n vs) = P n
Asks schema P (what.ResumeOk n vs) = P n
Asks schema P (what.AnswerOk n vs) = P n
Asks schema P (what.Resolved n vs) = P n
Asks schema P (what.Built id protocol) = is_some (slice_get schema.protocols protocol) ≡ true
Asks schema P _ = Unit {0}

-- a request that a line gives has the property
abbrev pub Gives : (ℤ → Type 0) → What → Type 0
Gives P (what.Send n route number vs) = P n
Gives P (what.Call n transaction route number vs) = P n
Gives P (what.Take n route number vs) = P n
Gives P _ = Unit {0}

abbrev ContentHas : (ℤ → Type 0) → NameContent → Type 0
ContentHas P (actor id) = Unit {0}
ContentHas P (resolver r) = P r.seq

-- all numbers of requests that an end keeps have the property: those of frames, of resolvers and of promises
pub record KeepsNumbers (P : ℤ → Type 0) (e : End) : Type 0 where
  pub stack : AllByRecursion (λ entry. P (head_of entry.frame).seq) e.stack
  pub names : AllByRecursion (λ naming. ContentHas P naming.holds) e.names
  pub promised : AllByRecursion (λ entry. P entry.promise.seq) e.promises

pub asks-grow : (schema : Schema) (P Q : ℤ → Type 0) → ((n : ℤ) → P n → Q n) → (w : What) → Asks schema P w → Asks schema Q w
asks-grow schema P Q g (what.Resolve n vs) h = g n h
asks-grow schema P Q g (what.ResumeOk n vs) h = g n h
asks-grow schema P Q g (what.AnswerOk n vs) h = g n h
asks-grow schema P Q g (what.Resolved n vs) h = g n h
asks-grow schema P Q g (what.Built id protocol) h = h
asks-grow schema P Q g _ h = tt

pub gives-grow : (P Q : ℤ → Type 0) → ((n : ℤ) → P n → Q n) → (w : What) → Gives P w → Gives Q w
gives-grow P Q g (what.Send n route number vs) h = g n h
gives-grow P Q g (what.Call n transaction route number vs) h = g n h
gives-grow P Q g (what.Take n route number vs) h = g n h
gives-grow P Q g _ h = tt

content-grow : (P Q : ℤ → Type 0) → ((n : ℤ) → P n → Q n) → (c : NameContent) → ContentHas P c → ContentHas Q c
content-grow P Q g (actor id) h = tt
content-grow P Q g (resolver r) h = g r.seq h

pub keeps-grow : (P Q : ℤ → Type 0) → ((n : ℤ) → P n → Q n) → (e : End) → KeepsNumbers P e → KeepsNumbers Q e
keeps-grow P Q g e k = record {
  stack = all-map (λ (x : StackEntry). P (head_of x.frame).seq) (λ (x : StackEntry). Q (head_of x.frame).seq) e.stack (λ x h. g (head_of x.frame).seq h) k.stack;
  names = all-map (λ (x : Naming). ContentHas P x.holds) (λ (x : Naming). ContentHas Q x.holds) e.names (λ x h. content-grow P Q g x.holds h) k.names;
  promised = all-map (λ (x : PromiseEntry). P x.promise.seq) (λ (x : PromiseEntry). Q x.promise.seq) e.promises (λ x h. g x.promise.seq h) k.promised;
}

module _ (schema : Schema) (P : ℤ → Type 0) where
  abbrev FrameHas : StackEntry → Type 0
  FrameHas entry = P (head_of entry.frame).seq

  abbrev NamingHas : Naming → Type 0
  NamingHas naming = ContentHas P naming.holds

  abbrev PromiseHas : PromiseEntry → Type 0
  PromiseHas entry = P entry.promise.seq

  -- Stacks

  released-has : (seq : ℤ) (es : List StackEntry) → AllByRecursion FrameHas es → AllByRecursion FrameHas (answering.released seq es)
  released-has seq [] h = tt
  released-has seq (x ∷ xs) h = (one (answering.has_resolver seq x), released-has seq xs h.1)
    where
      one : (b : Bool) → FrameHas (if b then record x { resolves = false } else x)
      one true = h.0
      one false = h.0

  failed-head : (f : StackFrame) → head_of f ≡ head_of (delivery.failed f)
  failed-head (Dispatch head) = refl
  failed-head (Wait head None) = refl
  failed-head (Wait head (Some a)) = refl

  failed-has : (es : List StackEntry) → AllByRecursion FrameHas es → AllByRecursion FrameHas (map delivery.with_failed_wait es)
  failed-has [] h = tt
  failed-has (x ∷ xs) h = (subst (λ (head : _). P head.seq) (failed-head x.frame) h.0, failed-has xs h.1)

  same-has : (es : List StackEntry) → AllByRecursion FrameHas es → AllByRecursion FrameHas (delivery.with_frames (map (λ (x : StackEntry). x.frame) es) es)
  same-has [] h = tt
  same-has (x ∷ xs) h = (h.0, same-has xs h.1)

  answered-has : (a : Answer) (es : List StackEntry) → AllByRecursion FrameHas es → AllByRecursion FrameHas (delivery.with_frames (with_answer a (map (λ (x : StackEntry). x.frame) es)) es)
  answered-has a [] h = tt
  answered-has a (x ∷ xs) h = by x.frame h.0 (answered-has a xs h.1)
    where
      frames : List StackFrame
      frames = map (λ (x : StackEntry). x.frame) xs

      by : (f : StackFrame) → P (head_of f).seq → AllByRecursion FrameHas (delivery.with_frames (with_answer a frames) xs) → AllByRecursion FrameHas (delivery.with_frames (with_answer a (f ∷ frames)) (x ∷ xs))
      by (Dispatch head) p rec = (p, rec)
      by (Wait head None) p rec = (p, same-has xs h.1)
      by (Wait head (Some b)) p rec = (p, rec)

  -- Resolvers

  handled-has : (e : End) (seq : ℤ) (r : Resolver) → KeepsNumbers P e → answering.handled_resolver e seq ≡ Some r → P r.seq
  handled-has e seq r k is = by (find (answering.has_resolver seq) e.stack) refl is
    where
      by : (found : Option StackEntry) → find (answering.has_resolver seq) e.stack ≡ found → option_map answering.resolver_in found ≡ Some r → P r.seq
      by None f e = cc
      by (Some entry) f x = subst (λ (s : Resolver). P s.seq) (same_Some (answering.resolver_in entry) r x) (all-found FrameHas (answering.has_resolver seq) e.stack entry k.stack f)

  used-has : (e : End) (by : Answering) (r : Resolver) → KeepsNumbers P e → answering.resolver_used e by ≡ Some r → P r.seq
  used-has e (handled seq) r k is = handled-has e seq r k is
  used-has e (kept name number) r k is = at (find (has_name name) e.names) refl is
    where
      number-is : (b : Bool) (s : Resolver) → cond b (Some s) None ≡ Some r → s ≡ r
      number-is true s e = same_Some s r e
      number-is false s e = cc

      held : (x : NameContent) → ContentHas P x → answering.resolver_of number x ≡ Some r → P r.seq
      held (actor id) h x = cc
      held (resolver s) h x = subst (λ (t : Resolver). P t.seq) (number-is (s.number == number) s x) h

      at : (found : Option Naming) → find (has_name name) e.names ≡ found → option_and_then (answering.resolver_of number) (option_map (λ (n : Naming). n.holds) found) ≡ Some r → P r.seq
      at None f x = cc
      at (Some n) f x = held n.holds (all-found NamingHas (has_name name) e.names n k.names f) x

  without-has : (by : Answering) (e : End) → KeepsNumbers P e → KeepsNumbers P (record (answering.without_resolver by e) { outbox = [] })
  without-has (handled seq) e k = record { stack = released-has seq e.stack k.stack; names = k.names; promised = k.promised }
  without-has (kept name number) e k = record { stack = k.stack; names = all-filter NamingHas (λ naming. not (has_name name naming)) e.names k.names; promised = k.promised }

  actors-have : (more : List Naming) → AllByRecursion HoldsActor more → AllByRecursion NamingHas more
  actors-have [] h = tt
  actors-have (n ∷ ns) h = (by n.holds h.0, actors-have ns h.1)
    where
      by : (x : NameContent) → elim x as (λ y. Type 0) [ actor id ↦ Unit {0} | resolver r ↦ ⊥ ] → ContentHas P x
      by (actor id) h = tt
      by (resolver r) h = absurd h

  -- Promises

  awaited-has : (seq : ℤ) (ps : List PromiseEntry) → AllByRecursion PromiseHas ps → take.is_awaited seq ps ≡ true → P seq
  awaited-has seq ps k is = by (find (λ (entry : PromiseEntry). promises.has_number seq entry.promise) ps) refl is
    where
      by : (found : Option PromiseEntry) → find (λ (entry : PromiseEntry). promises.has_number seq entry.promise) ps ≡ found → option_map_or (λ (entry : PromiseEntry). promises.is_pending entry.promise) found false ≡ true → P seq
      by None f e = cc
      by (Some entry) f e =
          let same : entry.promise.seq ≡ seq = (Decides-int_eq entry.promise.seq seq).0 (found-passes (λ (x : PromiseEntry). promises.has_number seq x.promise) ps entry f) in
          subst P same (all-found PromiseHas (λ (x : PromiseEntry). promises.has_number seq x.promise) ps entry k f)

  settled-have : (seq : ℤ) (o : Outcome) (ps : List PromiseEntry) → AllByRecursion PromiseHas ps → AllByRecursion PromiseHas (map (take.settled_entry seq o) ps)
  settled-have seq o [] h = tt
  settled-have seq o (x ∷ xs) h = (one (promises.has_number seq x.promise && promises.is_pending x.promise), settled-have seq o xs h.1)
    where
      one : (b : Bool) → P (if b then record x.promise { outcome = Some o } else x.promise).seq
      one true = h.0
      one false = h.0

  rejected-have : (test : Promise → Bool) (why : Reason) (ps : List PromiseEntry) → AllByRecursion PromiseHas ps → AllByRecursion PromiseHas (fall.rejected test why ps)
  rejected-have test why [] h = tt
  rejected-have test why (x ∷ xs) h = (one (fall.passes test x), rejected-have test why xs h.1)
    where
      one : (b : Bool) → PromiseHas (if b then fall.rejected_entry why x else x)
      one true = h.0
      one false = h.0

  -- Lines

  reply-asks : (b : Bool) (q : AnsweredRequest) (a : Answer) → P q.seq → AllByRecursion (Asks schema P) (reply_lines b q a)
  reply-asks true q (answer.Ok vs) h = (h, tt)
  reply-asks true q (answer.Fault r) h = (tt, tt)
  reply-asks false q a h = tt

  fault-asks : (b : Bool) (q : AnsweredRequest) (r : Reason) → AllByRecursion (Asks schema P) (reply_lines b q (answer.Fault r))
  fault-asks true q r = (tt, tt)
  fault-asks false q r = tt

  rejections-ask : (test : Promise → Bool) (why : Reason) (ps : List PromiseEntry) → AllByRecursion (Asks schema P) (fall.rejections test why ps)
  rejections-ask test why ps = mapped-lines (Asks schema P) (λ (entry : PromiseEntry). what.Rejected entry.promise.seq why) (filter (fall.passes test) ps) (λ entry. tt)

  falls-ask : (id : ℤ) (why : ℤ → Destroy) (e : End) → AllByRecursion (Asks schema P) (fall_lines id why e)
  falls-ask id why e =
      flat-lines (Asks schema P) (fall.fall_lines why e.promises) (parts.falling id e)
      (λ a. all-append (Asks schema P) (fall.rejections (promises.is_pending_of a.id) ActorDestroyed e.promises) (what.Fall a.id (why a.id) ∷ []) (rejections-ask (promises.is_pending_of a.id) ActorDestroyed e.promises) (tt, tt))

  refusal-asks : (w : What) → IsRefusal schema w → Asks schema P w
  refusal-asks (what.RefusedSend c n) q = tt
  refusal-asks (what.RefusedClose c) q = tt
  refusal-asks (what.RefusedResolve c) q = tt
  refusal-asks (what.RefusedReject c) q = tt
  refusal-asks _ q = absurd q

  renaming-asks : (w : What) → IsRenaming w → Asks schema P w
  renaming-asks (what.Keep n name) q = tt
  renaming-asks (what.Let name id) q = tt
  renaming-asks _ q = absurd q

  send-asks : (sync : Bool) (seq transaction route : ℤ) (number : ℕ) (vs : Values) → Asks schema P (if sync then what.Call seq transaction route number vs else what.Send seq route number vs)
  send-asks true seq transaction route number vs = tt
  send-asks false seq transaction route number vs = tt

  send-gives : (sync : Bool) (seq transaction route : ℤ) (number : ℕ) (vs : Values) → Gives P (if sync then what.Call seq transaction route number vs else what.Send seq route number vs) → P seq
  send-gives true seq transaction route number vs h = h
  send-gives false seq transaction route number vs h = h

  answering-asks : (seq : ℤ) (vs : Option Values) → P seq → Asks schema P (answering.answering_line seq vs)
  answering-asks seq None h = tt
  answering-asks seq (Some vs) h = h

  settle-asks : (seq : ℤ) (o : Outcome) → P seq → Asks schema P (take.settle_line seq o)
  settle-asks seq (Resolved vs) h = h
  settle-asks seq (Rejected r) h = tt

  resume-asks : (seq : ℤ) (a : Answer) → P seq → Asks schema P (return.resume_line seq a)
  resume-asks seq (answer.Ok vs) h = h
  resume-asks seq (answer.Fault r) h = tt

  shut-asks : (last : Item) → Asks schema P (parts.shut_line last)
  shut-asks (item.Message m sync level) = tt
  shut-asks item.Broken = tt

  farewell-asks : (packet : Packet) → Asks schema P (farewell_line packet)
  farewell-asks (message m) = tt
  farewell-asks mark = tt

  unknown-asks : (seq : ℤ) (b : Body) → Asks schema P (parts.unknown_line seq b)
  unknown-asks seq (Request vs) = tt
  unknown-asks seq (Reply vs) = tt
  unknown-asks seq (Fault r) = tt
  unknown-asks seq Goodbye = tt

  dispatch-has : (es : List StackEntry) (entry : StackEntry) → AllByRecursion FrameHas es → return.dispatch_on_top es ≡ Some entry → FrameHas entry
  dispatch-has [] entry k e = cc
  dispatch-has (y ∷ es) entry k e = by y.frame e
    where
      by : (f : StackFrame) → elim f as (λ z. Option StackEntry) [ Dispatch head ↦ Some y | Wait head a ↦ None ] ≡ Some entry → FrameHas entry
      by (Dispatch head) e = subst FrameHas (same_Some y entry e) k.0
      by (Wait head a) e = cc

  wait-has : (es : List StackEntry) (wait : return.AnsweredWait) → AllByRecursion FrameHas es → return.answered_wait_on_top es ≡ Some wait → P wait.seq
  wait-has [] wait k e = cc
  wait-has (y ∷ es) wait k e = by y.frame k.0 e
    where
      by : (f : StackFrame) → P (head_of f).seq → return.answered_wait_of y.number f ≡ Some wait → P wait.seq
      by (Dispatch head) h e = cc
      by (Wait head None) h e = cc
      by (Wait head (Some a)) h e = subst P (ap (λ (w : return.AnsweredWait). w.seq) (same_Some (record { seq = head.seq; number = y.number; given = a }) wait e)) h

  -- What each part looks up

  pub delivery-asks : {packet : Packet} {q : Phase} {e f : End} {ws : List What} {ps : List Packet} → DeliveryPart schema packet e ws ps f q → AllByRecursion (Asks schema P) ws
  delivery-asks (parts.gets_request m row vs body found none) = (tt, tt)
  delivery-asks (parts.replaces m row vs old sync level replies body found rep is) = (tt, (tt, fault-asks replies (request_answered old) ResolverDestroyed))
  delivery-asks (parts.gets_answer m row a body found is) = (tt, tt)
  delivery-asks (parts.gets_reply m row a body found is) = (tt, tt)
  delivery-asks {e} (parts.drains packet is) = (farewell-asks packet, mapped-lines (Asks schema P) what.Fails (delivery.unanswered e) (λ n. tt))
  delivery-asks (parts.passes_by m ordinary none) = (unknown-asks m.seq m.body, tt)

  pub first-asks : {q : Phase} {e f : End} {ws : List What} {ps : List Packet} → FirstPart schema e ws ps f q → KeepsNumbers P e → AllByRecursion (Asks schema P) ws
  first-asks (parts.refuses w q) k = (refusal-asks w q, tt)
  first-asks (parts.renames w q) k = (renaming-asks w q, tt)
  first-asks (parts.flushes o) k = (tt, tt)
  first-asks {e} (parts.sends row route vs name sent) k = (send-asks (is_sync_row row) (send.request_of e row route vs).seq (send.request_of e row route vs).transaction route row.number vs, tt)
  first-asks {e} (parts.answers by vs r row found may ok used) k = (answering-asks r.seq vs (used-has e by r k used), tt)
  first-asks (parts.closes o waits) k = (tt, tt)
  first-asks (parts.dies o) k = (tt, tt)
  first-asks (parts.dies_silent o alive) k = (tt, tt)
  first-asks (parts.takes m sync level row vs next body found stays) k = (tt, tt)
  first-asks (parts.drops m sync level row vs id replies next body found gone is) k = (tt, fault-asks replies (request_answered m) ActorDestroyed)
  first-asks (parts.drops_unknown m sync level vs next body none) k = (tt, tt)
  first-asks (parts.takes_reply m sync level a next body late) k = (tt, tt)
  first-asks {e} (parts.settles m sync level row a next body found is) k = (tt, (settle-asks m.seq (parts.reply_outcome schema e row a) (awaited-has m.seq e.promises k.promised is), tt))
  first-asks (parts.shuts last next is) k = (shut-asks last, tt)
  first-asks {e} (parts.returns entry row vs told lost on_top t l) k = (
    tt,
    all-append (Asks schema P) (reply_lines told (return.dispatch_answered entry) (return.return_answer schema e row entry vs)) (reply_lines lost (resolver_answered (answering.resolver_in entry)) (answer.Fault ResolverDestroyed))
        (reply-asks told (return.dispatch_answered entry) (return.return_answer schema e row entry vs) (dispatch-has e.stack entry k.stack on_top.on_top)) (fault-asks lost (resolver_answered (answering.resolver_in entry)) ResolverDestroyed),
  )
  first-asks {e} (parts.resumes wait row on_top found) k = (resume-asks wait.seq (received schema e.actors row wait.given) (wait-has e.stack wait k.stack on_top), tt)

  later-asks : {p q : Phase} {e f : End} {ws : List What} {ps : List Packet} → LaterPart p e ws ps f q → MakesProtocol schema p.kind → AllByRecursion (Asks schema P) ws
  later-asks (parts.unnames name now silent) k = tt
  later-asks (parts.lets_go name r now is o) k = (tt, tt)
  later-asks (parts.names more a) k = tt
  later-asks (parts.releases seq closed) k = tt
  later-asks (parts.keeps seq name r is open_end) k = tt
  later-asks (parts.builds id protocol rest fresh built) k = (k protocol built.made, tt)
  later-asks {e} (parts.deletes id cause) k = falls-ask id (fall.why_deleted id) e
  later-asks {e} (parts.falls why cause) k =
      all-append (Asks schema P) (parts.abandoned_lines e) (fall_lines top_id (λ id. why) (parts.abandoned_end e)) (rejections-ask (λ p. true) ChannelClosed e.promises) (falls-ask top_id (λ id. why) (parts.abandoned_end e))

  later-kind : {p q : Phase} {e f : End} {ws : List What} {ps : List Packet} → LaterPart p e ws ps f q → p.kind ≡ q.kind
  later-kind (parts.unnames name now silent) = refl
  later-kind (parts.lets_go name r now is o) = refl
  later-kind (parts.names more a) = refl
  later-kind (parts.releases seq closed) = refl
  later-kind (parts.keeps seq name r is open_end) = refl
  later-kind (parts.builds id protocol rest fresh built) = refl
  later-kind (parts.deletes id cause) = refl
  later-kind (parts.falls why cause) = refl

  pub laters-ask : {p q : Phase} {e f : End} {ws : List What} {ps : List Packet} → LaterParts p e ws ps f q → MakesProtocol schema p.kind → AllByRecursion (Asks schema P) ws
  laters-ask parts.done k = tt
  laters-ask (parts.then {ws} {vs} part rest) k = all-append (Asks schema P) ws vs (later-asks part k) (laters-ask rest (subst (MakesProtocol schema) (later-kind part) k))

  pub first-makes : IsSound schema → {q : Phase} {e f : End} {ws : List What} {ps : List Packet} → FirstPart schema e ws ps f q → MakesProtocol schema q.kind
  first-makes sound (parts.sends row route vs name sent) = row-makes schema sound row.number row (request-message schema row.number row sent.found)
  first-makes sound (parts.takes m sync level row vs next body found stays) = row-makes schema sound m.number row found
  first-makes sound _ = λ p e. cc

  -- What each part keeps

  following-has : (b : Bool) (e : End) → KeepsNumbers P e → KeepsNumbers P (end_after b e)
  following-has true e k = record { stack = k.stack; names = k.names; promised = k.promised }
  following-has false e k = k

  pub delivery-keeps : {packet : Packet} {q : Phase} {e f : End} {ws : List What} {ps : List Packet} → DeliveryPart schema packet e ws ps f q → KeepsNumbers P e → KeepsNumbers P f
  delivery-keeps (parts.gets_request m row vs body found none) k = record { stack = k.stack; names = k.names; promised = k.promised }
  delivery-keeps {e} (parts.replaces m row vs old sync level replies body found rep is) k = following-has replies (delivery.counted row (delivery.item_of row m) e) (record { stack = k.stack; names = k.names; promised = k.promised })
  delivery-keeps {e} (parts.gets_answer m row a body found is) k = record { stack = answered-has a e.stack k.stack; names = k.names; promised = k.promised }
  delivery-keeps (parts.gets_reply m row a body found is) k = record { stack = k.stack; names = k.names; promised = k.promised }
  delivery-keeps {e} (parts.drains packet is) k = record { stack = failed-has e.stack k.stack; names = k.names; promised = k.promised }
  delivery-keeps (parts.passes_by m ordinary none) k = k

  sent-stack : (sync : Bool) (x : StackEntry) (es : List StackEntry) → FrameHas x → AllByRecursion FrameHas es → AllByRecursion FrameHas (cond sync (x ∷ es) es)
  sent-stack true x es h k = (h, k)
  sent-stack false x es h k = k

  sent-promises : (wants : Bool) (x : PromiseEntry) (ps : List PromiseEntry) → PromiseHas x → AllByRecursion PromiseHas ps → AllByRecursion PromiseHas (cond wants (ps ++ x ∷ []) ps)
  sent-promises true x ps h k = all-append PromiseHas ps (x ∷ []) k (h, tt)
  sent-promises false x ps h k = k

  pub first-keeps : {q : Phase} {e f : End} {ws : List What} {ps : List Packet} → FirstPart schema e ws ps f q → AllByRecursion (Gives P) ws → KeepsNumbers P e → KeepsNumbers P f
  first-keeps (parts.refuses w q) g k = k
  first-keeps (parts.renames w q) g k = k
  first-keeps (parts.flushes o) g k = record { stack = k.stack; names = k.names; promised = k.promised }
  first-keeps {e} (parts.sends row route vs name sent) g k =
      let has : P (send.request_of e row route vs).seq = send-gives (is_sync_row row) (send.request_of e row route vs).seq (send.request_of e row route vs).transaction route row.number vs g.0 in
      record {
        stack = sent-stack (is_sync_row row) (send.wait_for row (send.request_of e row route vs)) e.stack has k.stack;
        names = k.names;
        promised = sent-promises (makes_promise row) (parts.promise_for (send.request_of e row route vs)) e.promises has k.promised;
      }
  first-keeps {e} (parts.answers by vs r row found may ok used) g k = without-has by e k
  first-keeps {e} (parts.closes o waits) g k = record { stack = k.stack; names = all-filter NamingHas is_actor e.names k.names; promised = k.promised }
  first-keeps (parts.dies o) g k = record { stack = tt; names = k.names; promised = k.promised }
  first-keeps (parts.dies_silent o alive) g k = record { stack = tt; names = k.names; promised = k.promised }
  first-keeps (parts.takes m sync level row vs next body found stays) g k = record { stack = (g.0, k.stack); names = k.names; promised = k.promised }
  first-keeps {e} (parts.drops m sync level row vs id replies next body found gone is) g k = following-has replies (parts.left_end e) (record { stack = k.stack; names = k.names; promised = k.promised })
  first-keeps (parts.drops_unknown m sync level vs next body none) g k = record { stack = k.stack; names = k.names; promised = k.promised }
  first-keeps (parts.takes_reply m sync level a next body late) g k = record { stack = k.stack; names = k.names; promised = k.promised }
  first-keeps {e} (parts.settles m sync level row a next body found is) g k = record { stack = k.stack; names = k.names; promised = settled-have m.seq (parts.reply_outcome schema e row a) e.promises k.promised }
  first-keeps {e} (parts.shuts last next is) g k = record { stack = k.stack; names = all-filter NamingHas is_actor e.names k.names; promised = k.promised }
  first-keeps {e} (parts.returns entry row vs told lost on_top t l) g k =
      following-has lost (end_after told (record e { stack = drop 1 e.stack })) (following-has told (record e { stack = drop 1 e.stack }) (record { stack = all-drop FrameHas e.stack k.stack; names = k.names; promised = k.promised }))
  first-keeps {e} (parts.resumes wait row on_top found) g k = record { stack = all-drop FrameHas e.stack k.stack; names = k.names; promised = k.promised }

  later-keeps : {p q : Phase} {e f : End} {ws : List What} {ps : List Packet} → LaterPart p e ws ps f q → KeepsNumbers P e → KeepsNumbers P f
  later-keeps {e} (parts.unnames name now silent) k = record { stack = k.stack; names = all-filter NamingHas (λ naming. not (has_name name naming)) e.names k.names; promised = k.promised }
  later-keeps {e} (parts.lets_go name r now is o) k = record { stack = k.stack; names = all-filter NamingHas (λ naming. not (has_name name naming)) e.names k.names; promised = k.promised }
  later-keeps {e} (parts.names more a) k = record { stack = k.stack; names = all-append NamingHas e.names more k.names (actors-have more a); promised = k.promised }
  later-keeps {e} (parts.releases seq closed) k = record { stack = released-has seq e.stack k.stack; names = k.names; promised = k.promised }
  later-keeps {e} (parts.keeps seq name r is open_end) k = record { stack = released-has seq e.stack k.stack; names = all-append NamingHas e.names (record { name = name; holds = resolver r } ∷ []) k.names (handled-has e seq r k is, tt); promised = k.promised }
  later-keeps (parts.builds id protocol rest fresh built) k = record { stack = k.stack; names = k.names; promised = k.promised }
  later-keeps {e} (parts.deletes id cause) k = record { stack = k.stack; names = k.names; promised = rejected-have _ ActorDestroyed e.promises k.promised }
  later-keeps {e} (parts.falls why cause) k = record { stack = k.stack; names = k.names; promised = rejected-have _ ActorDestroyed (parts.abandoned_end e).promises (rejected-have (λ p. true) ChannelClosed e.promises k.promised) }

  pub laters-keep : {p q : Phase} {e f : End} {ws : List What} {ps : List Packet} → LaterParts p e ws ps f q → KeepsNumbers P e → KeepsNumbers P f
  laters-keep parts.done k = k
  laters-keep (parts.then part rest) k = laters-keep rest (later-keeps part k)
