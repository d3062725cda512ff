-- Each part sends requests in order, and delivers them in order.
use Rattle.std.proofs.Common.{◌≡◌, ℕ, ◌+◌, ℤ, Bool, true, false, ◌&&◌, ◌||◌, is_none, pos, cond, if◌then◌else◌, List, [], ◌∷◌, ◌++◌, drop, map, Option, Some, None, refl, sym, ap, subst, ◌∙◌, append_assoc}
use Rattle.std.proofs.lemmas.List.{append-nil, map-append}
use Rattle.ipdl_base.specs.declared.kinds.EndState.TheVariants.{Dead}
use Rattle.ipdl_base.specs.declared.kinds.Reason.TheVariants.{ActorDestroyed, ResolverDestroyed}
use Rattle.ipdl_base.specs.declared.kinds.Side.{Side}
use Rattle.ipdl_base.specs.declared.line.What.{What}
use Rattle.ipdl_base.specs.declared.message.Body.{Body}
use Rattle.ipdl_base.specs.declared.message.Body.TheVariants.{Request, Reply, Fault, Goodbye}
use Rattle.ipdl_base.specs.declared.message.Message.{Message}
use Rattle.ipdl_base.specs.declared.schema.Schema.{Schema}
use Rattle.ipdl_base.specs.declared.value.Values.{Values}
use Rattle.nesting_core.specs.declared.frame.Answer.{Answer}
use Rattle.nesting_core.specs.declared.frame.Answer.TheVariants as answer
use Rattle.channel_model.specs.Acts.{goodbye}
use Rattle.channel_model.specs.Answers as answering
use Rattle.channel_model.specs.Deliveries as delivery
use Rattle.channel_model.specs.Ends.{End, Packet, message, mark, resolver}
use Rattle.channel_model.specs.Events.{Answering, handled, kept}
use Rattle.ipdl_base.specs.Sides.{top_id, sends}
use Rattle.channel_model.specs.Numbers.{id_of, is_constructor, counting, is_sync_row, makes_promise}
use Rattle.channel_model.specs.Outputs.{is_open, AnsweredRequest, request_answered, resolver_answered, reply_to, body_of}
use Rattle.channel_model.specs.Parts
use Rattle.channel_model.specs.Parts.{FirstPart, LaterPart, LaterParts, OwnParts, DeliveryPart, after_outbox, reply_packet, reply_packets, end_after, left_end, outbox_after, request_packets}
use Rattle.channel_model.specs.Names.{without_name}
use Rattle.channel_model.specs.Phases.{Phase, manager_of}
use Rattle.channel_model.specs.Returns as return
use Rattle.channel_model.specs.Sends as send
use Rattle.channel_model.specs.States.{is_farewell}
use Rattle.channel_model.specs.Takes as take
use Rattle.channel_model.specs.Typed.{have_types}
use Rattle.channel_laws.specs.NestedWorlds.{is_last_packet}
use Rattle.channel_laws.specs.RequestOrder.{IsNextRequest, BodyInOrder, InOrder}
use Rattle.channel_laws.proofs.Rows.{request-message}
use Rattle.channel_model.proofs.Tests.{and-left, and-right}

-- Packets that have no request

abbrev pub NoRequest : Body → Type 0
NoRequest (Request vs) = ⊥
NoRequest (Reply vs) = Unit {0}
NoRequest (Fault reason) = Unit {0}
NoRequest Goodbye = Unit {0}

module _ (schema : Schema) (side : Side) where
  body-on : (m : Message) (b : Body) (here there : ℕ → ℕ → Type 0) (n c : ℕ) → ((a b : ℕ) → here a b → there a b) → BodyInOrder schema side m b here n c → BodyInOrder schema side m b there n c
  body-on m (Request vs) here there n c f h = (h.0, f (n + 1) (counting h.0.row.kind c) h.1)
  body-on m (Reply vs) here there n c f h = f n c h
  body-on m (Fault reason) here there n c f h = f n c h
  body-on m Goodbye here there n c f h = f n c h

  -- packets in order, and others that continue them
  pub order-append : (ps qs : List Packet) (last constructors final built n c : ℕ) → InOrder schema side qs final built last constructors → InOrder schema side ps last constructors n c → InOrder schema side (ps ++ qs) final built n c
  order-append [] qs last constructors final built n c k h = subst (λ (x : ℕ). InOrder schema side qs final built x c) (sym h.0) (subst (λ (y : ℕ). InOrder schema side qs final built last y) (sym h.1) k)
  order-append (message m ∷ ps) qs last constructors final built n c k h =
      body-on m m.body (InOrder schema side ps last constructors) (InOrder schema side (ps ++ qs) final built) n c (λ x y rest. order-append ps qs last constructors final built x y k rest) h
  order-append (mark ∷ ps) qs last constructors final built n c k h = order-append ps qs last constructors final built n c k h

  no-request : (m : Message) (b : Body) (goes_on : ℕ → ℕ → Type 0) (n c : ℕ) → NoRequest b → goes_on n c → BodyInOrder schema side m b goes_on n c
  no-request m (Request vs) goes_on n c none h = absurd none
  no-request m (Reply vs) goes_on n c none h = h
  no-request m (Fault reason) goes_on n c none h = h
  no-request m Goodbye goes_on n c none h = h

reply-no_request : (a : Answer) → NoRequest (body_of a)
reply-no_request (answer.Ok vs) = tt
reply-no_request (answer.Fault reason) = tt

-- What a part adds after all that is on the way, with the counts after it; an end that is not open does not open.
pub record Posts (schema : Schema) (e : End) (ps : List Packet) (f : End) : Type 0 where
  pub news : List Packet
  pub posted : ps ++ map message f.outbox ≡ map message e.outbox ++ news
  pub order : InOrder schema e.side news f.sent f.constructors_sent e.sent e.constructors_sent
  pub side_is : f.side ≡ e.side
  pub delivered_is : f.delivered ≡ e.delivered
  pub constructors_is : f.constructors_delivered ≡ e.constructors_delivered
  pub opened : is_open f.state ≡ true → is_open e.state ≡ true

module _ (schema : Schema) where
  -- a part after another
  posts-then : (e f g : End) (ps qs : List Packet) → Posts schema e ps f → Posts schema f qs g → Posts schema e (ps ++ qs) g
  posts-then e f g ps qs a b = record {
    news = a.news ++ b.news;
    posted = append_assoc ps qs (map message g.outbox) ∙ (ap (λ (l : List Packet). ps ++ l) b.posted ∙ (sym (append_assoc ps (map message f.outbox) b.news) ∙ (ap (λ (l : List Packet). l ++ b.news) a.posted ∙ append_assoc (map message e.outbox) a.news b.news)));
    order = order-append schema e.side a.news b.news f.sent f.constructors_sent g.sent g.constructors_sent e.sent e.constructors_sent (subst (λ (s : Side). InOrder schema s b.news g.sent g.constructors_sent f.sent f.constructors_sent) a.side_is b.order) a.order;
    side_is = b.side_is ∙ a.side_is;
    delivered_is = b.delivered_is ∙ a.delivered_is;
    constructors_is = b.constructors_is ∙ a.constructors_is;
    opened = λ o. a.opened (b.opened o);
  }

  -- the counts of an end, with its outbox
  record Same (e f : End) : Type 0 where
    side_is : f.side ≡ e.side
    sent_is : f.sent ≡ e.sent
    made_is : f.constructors_sent ≡ e.constructors_sent
    delivered_is : f.delivered ≡ e.delivered
    constructors_is : f.constructors_delivered ≡ e.constructors_delivered
    opened : is_open f.state ≡ true → is_open e.state ≡ true

  -- nothing is put
  posts-none : (e f : End) → f.outbox ≡ e.outbox → Same e f → Posts schema e [] f
  posts-none e f out s = record {
    news = [];
    posted = ap (map message) out ∙ sym (append-nil (map message e.outbox));
    order = (sym s.sent_is, sym s.made_is);
    side_is = s.side_is;
    delivered_is = s.delivered_is;
    constructors_is = s.constructors_is;
    opened = s.opened;
  }

  -- a packet without a request is put
  posts-message : (e f : End) (m : Message) → NoRequest m.body → f.outbox ≡ [] → Same e f → Posts schema e (after_outbox e (message m)) f
  posts-message e f m none out s = record {
    news = message m ∷ [];
    posted = ap (λ (l : List Message). after_outbox e (message m) ++ map message l) out ∙ append-nil (after_outbox e (message m));
    order = no-request schema e.side m m.body (InOrder schema e.side [] f.sent f.constructors_sent) e.sent e.constructors_sent none (sym s.sent_is, sym s.made_is);
    side_is = s.side_is;
    delivered_is = s.delivered_is;
    constructors_is = s.constructors_is;
    opened = s.opened;
  }

  posts-mark : (e f : End) → f.outbox ≡ [] → Same e f → Posts schema e (after_outbox e mark) f
  posts-mark e f out s = record {
    news = mark ∷ [];
    posted = ap (λ (l : List Message). after_outbox e mark ++ map message l) out ∙ append-nil (after_outbox e mark);
    order = (sym s.sent_is, sym s.made_is);
    side_is = s.side_is;
    delivered_is = s.delivered_is;
    constructors_is = s.constructors_is;
    opened = s.opened;
  }

  -- an answer, if there is one
  posts-reply : (b : Bool) (e : End) (q : AnsweredRequest) (a : Answer) → Posts schema e (reply_packets b e q a) (end_after b e)
  posts-reply true e q a = posts-message e (end_after true e) (reply_to q (body_of a)) (reply-no_request a) refl (record { side_is = refl; sent_is = refl; made_is = refl; delivered_is = refl; constructors_is = refl; opened = λ o. o })
  posts-reply false e q a = posts-none e e refl (record { side_is = refl; sent_is = refl; made_is = refl; delivered_is = refl; constructors_is = refl; opened = λ o. o })

  -- a part that changes none of this, followed by an answer
  posts-following : (b : Bool) (e f : End) (q : AnsweredRequest) (a : Answer) → f.outbox ≡ e.outbox → Same e f → Posts schema e (reply_packets b e q a) (end_after b f)
  posts-following true e f q a out s = posts-message e (end_after true f) (reply_to q (body_of a)) (reply-no_request a) refl (record { side_is = s.side_is; sent_is = s.sent_is; made_is = s.made_is; delivered_is = s.delivered_is; constructors_is = s.constructors_is; opened = s.opened })
  posts-following false e f q a out s = posts-none e f out s

  answer-no_request : (vs : Option Values) → NoRequest (answering.answer_body vs)
  answer-no_request None = tt
  answer-no_request (Some us) = tt

  without-same : (by : Answering) (e : End) → Same e (record (answering.without_resolver by e) { outbox = [] })
  without-same (handled seq) e = record { side_is = refl; sent_is = refl; made_is = refl; delivered_is = refl; constructors_is = refl; opened = λ o. o }
  without-same (kept name number) e = record { side_is = refl; sent_is = refl; made_is = refl; delivered_is = refl; constructors_is = refl; opened = λ o. o }

  made-next : (b : Bool) (id : ℤ) → b ≡ true → (if b then id else pos 0) ≡ id
  made-next true id e = refl
  made-next false id e = cc

  pub first-posts : {p : Phase} {e f : End} {ws : List What} {ps : List Packet} → FirstPart schema e ws ps f p → Posts schema e ps f
  first-posts {e} (Parts.refuses w is) = posts-none e e refl (record { side_is = refl; sent_is = refl; made_is = refl; delivered_is = refl; constructors_is = refl; opened = λ o. o })
  first-posts {e} (Parts.renames w is) = posts-none e e refl (record { side_is = refl; sent_is = refl; made_is = refl; delivered_is = refl; constructors_is = refl; opened = λ o. o })
  first-posts {e} (Parts.flushes o) = record { news = []; posted = refl; order = (refl, refl); side_is = refl; delivered_is = refl; constructors_is = refl; opened = λ o. o }
  first-posts {e} (Parts.sends row route vs name sent) = by row.lazy (is_sync_row row) (makes_promise row)
    where
      m : Message
      m = send.request_of e row route vs

      next : IsNextRequest schema e.side (send.request_of e row route vs) e.sent e.constructors_sent
      next = record {
        row = row;
        found = request-message schema row.number row sent.found;
        direction = and-left (sends e.side row.direction) (have_types schema row.params vs && (is_none name || is_constructor row.kind)) (and-right row.carried (sends e.side row.direction && (have_types schema row.params vs && (is_none name || is_constructor row.kind))) (and-right (send.may_act e) (row.carried && (sends e.side row.direction && (have_types schema row.params vs && (is_none name || is_constructor row.kind)))) sent.may));
        seq_is = refl;
        made_is = made-next (is_constructor row.kind) (id_of e.side (e.constructors_sent + 1));
      }

      by : (lazy sync wants : Bool) → Posts schema e (request_packets lazy e (send.request_of e row route vs)) (record e { sent = e.sent + 1; constructors_sent = counting row.kind e.constructors_sent; outbox = outbox_after lazy (send.request_of e row route vs) e.outbox; stack = cond sync (send.wait_for row (send.request_of e row route vs) ∷ e.stack) e.stack; promises = cond wants (e.promises ++ Parts.promise_for (send.request_of e row route vs) ∷ []) e.promises })
      by true sync wants = record { news = message (send.request_of e row route vs) ∷ []; posted = map-append message e.outbox (send.request_of e row route vs ∷ []); order = (next, (refl, refl)); side_is = refl; delivered_is = refl; constructors_is = refl; opened = λ o. o }
      by false sync wants = record { news = message (send.request_of e row route vs) ∷ []; posted = append-nil (after_outbox e (message (send.request_of e row route vs))); order = (next, (refl, refl)); side_is = refl; delivered_is = refl; constructors_is = refl; opened = λ o. o }
  first-posts {e} (Parts.answers by vs r row found may accepted used) = posts-message e (record (answering.without_resolver by e) { outbox = [] }) (reply_to (resolver_answered r) (answering.answer_body vs)) (answer-no_request vs) refl (without-same by e)
  first-posts {e} (Parts.closes o waits) = posts-message e (Parts.shut_end (record e { outbox = [] })) goodbye tt refl (record { side_is = refl; sent_is = refl; made_is = refl; delivered_is = refl; constructors_is = refl; opened = λ o. cc })
  first-posts {e} (Parts.dies o) = posts-mark e (record e { state = Dead; stack = []; arrived = []; outbox = [] }) refl (record { side_is = refl; sent_is = refl; made_is = refl; delivered_is = refl; constructors_is = refl; opened = λ o. cc })
  first-posts {e} (Parts.dies_silent o alive) = posts-none e (record e { state = Dead; stack = []; arrived = [] }) refl (record { side_is = refl; sent_is = refl; made_is = refl; delivered_is = refl; constructors_is = refl; opened = λ o. cc })
  first-posts {e} (Parts.takes m sync level row vs next body found stays) = posts-none e (record (left_end e) { stack = take.dispatch_of row m ∷ e.stack }) refl (record { side_is = refl; sent_is = refl; made_is = refl; delivered_is = refl; constructors_is = refl; opened = λ o. o })
  first-posts {e} (Parts.drops m sync level row vs id replies next body found gone is) = posts-following replies e (left_end e) (request_answered m) (answer.Fault ActorDestroyed) refl (record { side_is = refl; sent_is = refl; made_is = refl; delivered_is = refl; constructors_is = refl; opened = λ o. o })
  first-posts {e} (Parts.drops_unknown m sync level vs next body found) = posts-none e (left_end e) refl (record { side_is = refl; sent_is = refl; made_is = refl; delivered_is = refl; constructors_is = refl; opened = λ o. o })
  first-posts {e} (Parts.takes_reply m sync level a next body settles) = posts-none e (left_end e) refl (record { side_is = refl; sent_is = refl; made_is = refl; delivered_is = refl; constructors_is = refl; opened = λ o. o })
  first-posts {e} (Parts.settles m sync level row a next body found is) =
      posts-none e (record (left_end e) { promises = map (take.settled_entry m.seq (Parts.reply_outcome schema e row a)) e.promises }) refl (record { side_is = refl; sent_is = refl; made_is = refl; delivered_is = refl; constructors_is = refl; opened = λ o. o })
  first-posts {e} (Parts.shuts last next is) = posts-none e (Parts.shut_end e) refl (record { side_is = refl; sent_is = refl; made_is = refl; delivered_is = refl; constructors_is = refl; opened = λ o. cc })
  first-posts {e} (Parts.returns entry row vs told lost is t l) =
      posts-then e (end_after told (record e { stack = drop 1 e.stack })) (end_after lost (end_after told (record e { stack = drop 1 e.stack }))) (reply_packets told e (return.dispatch_answered entry) (return.return_answer schema e row entry vs)) (reply_packets lost (end_after told e) (resolver_answered (answering.resolver_in entry)) (answer.Fault ResolverDestroyed))
      (posts-following told e (record e { stack = drop 1 e.stack }) (return.dispatch_answered entry) (return.return_answer schema e row entry vs) refl (record { side_is = refl; sent_is = refl; made_is = refl; delivered_is = refl; constructors_is = refl; opened = λ o. o }))
      (lost-posts told)
    where
      lost-posts : (told : Bool) → Posts schema (end_after told (record e { stack = drop 1 e.stack })) (reply_packets lost (end_after told e) (resolver_answered (answering.resolver_in entry)) (answer.Fault ResolverDestroyed)) (end_after lost (end_after told (record e { stack = drop 1 e.stack })))
      lost-posts true = posts-lost lost
        where
          posts-lost : (lost : Bool) → Posts schema (end_after true (record e { stack = drop 1 e.stack })) (reply_packets lost (end_after true e) (resolver_answered (answering.resolver_in entry)) (answer.Fault ResolverDestroyed)) (end_after lost (end_after true (record e { stack = drop 1 e.stack })))
          posts-lost true = posts-reply true (end_after true (record e { stack = drop 1 e.stack })) (resolver_answered (answering.resolver_in entry)) (answer.Fault ResolverDestroyed)
          posts-lost false = posts-reply false (end_after true (record e { stack = drop 1 e.stack })) (resolver_answered (answering.resolver_in entry)) (answer.Fault ResolverDestroyed)
      lost-posts false = posts-lost lost
        where
          posts-lost : (lost : Bool) → Posts schema (end_after false (record e { stack = drop 1 e.stack })) (reply_packets lost (end_after false e) (resolver_answered (answering.resolver_in entry)) (answer.Fault ResolverDestroyed)) (end_after lost (end_after false (record e { stack = drop 1 e.stack })))
          posts-lost true = posts-reply true (end_after false (record e { stack = drop 1 e.stack })) (resolver_answered (answering.resolver_in entry)) (answer.Fault ResolverDestroyed)
          posts-lost false = posts-reply false (end_after false (record e { stack = drop 1 e.stack })) (resolver_answered (answering.resolver_in entry)) (answer.Fault ResolverDestroyed)
  first-posts {e} (Parts.resumes wait row on_top found) = posts-none e (record e { stack = drop 1 e.stack }) refl (record { side_is = refl; sent_is = refl; made_is = refl; delivered_is = refl; constructors_is = refl; opened = λ o. o })

  later-posts : {p q : Phase} {e f : End} {ws : List What} {ps : List Packet} → LaterPart p e ws ps f q → Posts schema e ps f
  later-posts {e} (Parts.unnames name may silent) = posts-none e (record e { names = without_name name e.names }) refl (record { side_is = refl; sent_is = refl; made_is = refl; delivered_is = refl; constructors_is = refl; opened = λ o. o })
  later-posts {e} (Parts.lets_go name r may is o) = posts-message e (record e { outbox = []; names = without_name name e.names }) (reply_to (resolver_answered r) (body_of (answer.Fault ResolverDestroyed))) tt refl (record { side_is = refl; sent_is = refl; made_is = refl; delivered_is = refl; constructors_is = refl; opened = λ o. o })
  later-posts {e} (Parts.names more a) = posts-none e (record e { names = e.names ++ more }) refl (record { side_is = refl; sent_is = refl; made_is = refl; delivered_is = refl; constructors_is = refl; opened = λ o. o })
  later-posts {e} (Parts.releases seq closed) = posts-none e (record e { stack = answering.released seq e.stack }) refl (record { side_is = refl; sent_is = refl; made_is = refl; delivered_is = refl; constructors_is = refl; opened = λ o. o })
  later-posts {e} (Parts.keeps seq name r is goes) = posts-none e (record e { stack = answering.released seq e.stack; names = e.names ++ record { name = name; holds = resolver r } ∷ [] }) refl (record { side_is = refl; sent_is = refl; made_is = refl; delivered_is = refl; constructors_is = refl; opened = λ o. o })
  later-posts {p} {e} (Parts.builds id protocol rest fresh built) = posts-none e (record e { actors = e.actors ++ record { id = id; protocol = protocol; manager = manager_of p.start } ∷ [] }) refl (record { side_is = refl; sent_is = refl; made_is = refl; delivered_is = refl; constructors_is = refl; opened = λ o. o })
  later-posts {e} (Parts.deletes id cause) = posts-none e (Parts.fallen_end id e) refl (record { side_is = refl; sent_is = refl; made_is = refl; delivered_is = refl; constructors_is = refl; opened = λ o. o })
  later-posts {e} (Parts.falls why cause) = posts-none e (Parts.fallen_end top_id (Parts.abandoned_end e)) refl (record { side_is = refl; sent_is = refl; made_is = refl; delivered_is = refl; constructors_is = refl; opened = λ o. o })

  laters-post : {p q : Phase} {e f : End} {ws : List What} {ps : List Packet} → LaterParts p e ws ps f q → Posts schema e ps f
  laters-post {e} Parts.done = posts-none e e refl (record { side_is = refl; sent_is = refl; made_is = refl; delivered_is = refl; constructors_is = refl; opened = λ o. o })
  laters-post {e} {f} (Parts.then {f = g} {ps} {qs} part rest) = posts-then e g f ps qs (later-posts part) (laters-post rest)

  -- an end's own step
  pub own-posts : {q : Phase} {e f : End} {ws : List What} {ps : List Packet} → OwnParts schema e ws ps f q → Posts schema e ps f
  own-posts {e} {f} (Parts.begun {f = g} {ps} {qs} part rest ended) = posts-then e g f ps qs (first-posts part) (laters-post rest)

  -- What a delivery sends, for the end with the counts after it
  abbrev pub counted_end : End → End → End
  counted_end e f = record e { delivered = f.delivered; constructors_delivered = f.constructors_delivered }

  pub delivery-posts : {packet : Packet} {q : Phase} {e f : End} {ws : List What} {ps : List Packet} → DeliveryPart schema packet e ws ps f q → (is_last_packet packet ≡ false) → Posts schema (counted_end e f) ps f
  delivery-posts {e} (Parts.gets_request m row vs body found none) l = posts-none (counted_end e (delivery.counted row (delivery.item_of row m) e)) (delivery.counted row (delivery.item_of row m) e) refl (record { side_is = refl; sent_is = refl; made_is = refl; delivered_is = refl; constructors_is = refl; opened = λ o. o })
  delivery-posts {e} (Parts.replaces m row vs old sync level replies body found rep is) l = by replies
    where
      next : End
      next = delivery.counted row (delivery.item_of row m) e

      by : (b : Bool) → Posts schema (counted_end e (end_after b (delivery.counted row (delivery.item_of row m) e))) (reply_packets b e (request_answered old) (answer.Fault ResolverDestroyed)) (end_after b (delivery.counted row (delivery.item_of row m) e))
      by true = posts-following true (counted_end e next) next (request_answered old) (answer.Fault ResolverDestroyed) refl (record { side_is = refl; sent_is = refl; made_is = refl; delivered_is = refl; constructors_is = refl; opened = λ o. o })
      by false = posts-following false (counted_end e next) next (request_answered old) (answer.Fault ResolverDestroyed) refl (record { side_is = refl; sent_is = refl; made_is = refl; delivered_is = refl; constructors_is = refl; opened = λ o. o })
  delivery-posts {e} (Parts.gets_answer m row a body found sync) l = posts-none e (delivery.answers_wait a e) refl (record { side_is = refl; sent_is = refl; made_is = refl; delivered_is = refl; constructors_is = refl; opened = λ o. o })
  delivery-posts {e} (Parts.gets_reply m row a body found sync) l = posts-none e (delivery.arrives (delivery.item_of row m) e) refl (record { side_is = refl; sent_is = refl; made_is = refl; delivered_is = refl; constructors_is = refl; opened = λ o. o })
  delivery-posts {packet} (Parts.drains _ is) l = absurd-last packet is l
    where
      absurd-last : {A : Type 0} (packet : Packet) → is_farewell (Parts.farewell_item packet) ≡ true → is_last_packet packet ≡ false → A
      absurd-last (message m) is l = let k : true ≡ false = sym is ∙ l in cc
      absurd-last mark is l = cc
  delivery-posts {e} (Parts.passes_by m other found) l = posts-none e e refl (record { side_is = refl; sent_is = refl; made_is = refl; delivered_is = refl; constructors_is = refl; opened = λ o. o })
