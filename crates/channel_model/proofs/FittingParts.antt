-- What an end keeps and sends fits: part by part, and so in every step.
use Rattle.std.proofs.Common.{◌≡◌, ℕ, ◌+◌, ◌<◌, ◌≤◌, ◌==◌, ℤ, Bool, true, false, not, ◌&&◌, ◌||◌, cond, if◌then◌else◌, List, [], ◌∷◌, ◌++◌, drop, map, is_some, is_none, unwrap_or, option_and_then, Option, Some, None, refl, sym, ap, subst, ◌∙◌, int_eq, arith}
use Rattle.std.specs.List.{AllByRecursion}
use Rattle.std.specs.Option.{option_map_or}
use Rattle.std.proofs.lemmas.Bool.{eqb-true}
use Rattle.std.proofs.lemmas.List.Elements.{All-nil}
use Rattle.std.proofs.lemmas.Option.{same_Some}
use Rattle.actor_tree.specs.declared.actor.Actor.{Actor}
use Rattle.actor_tree.specs.Fall.{others}
use Rattle.actor_tree.specs.Tree.{lives}
use Rattle.ipdl_base.specs.declared.kinds.EndState.TheVariants.{Draining, Closed, Dead}
use Rattle.ipdl_base.specs.declared.kinds.Level.{Level}
use Rattle.ipdl_base.specs.declared.kinds.Reason.TheVariants as reason
use Rattle.ipdl_base.specs.declared.kinds.SendRefusal.TheVariants as refusal
use Rattle.ipdl_base.specs.declared.line.What.{What}
use Rattle.ipdl_base.specs.declared.message.Body.{Body}
use Rattle.ipdl_base.specs.declared.message.Body.TheVariants.{Request, Reply, Fault, Goodbye}
use Rattle.ipdl_base.specs.declared.message.Message.{Message}
use Rattle.ipdl_base.specs.declared.schema.MessageRow.{MessageRow}
use Rattle.ipdl_base.specs.declared.schema.ParamRow.{ParamRow}
use Rattle.ipdl_base.specs.declared.schema.Schema.{Schema}
use Rattle.ipdl_base.specs.declared.value.Values.{Values}
use Rattle.ipdl_base.specs.declared.value.Values.TheVariants.{Nothing}
use Rattle.ipdl_base.specs.Signatures.{returns_of_row}
use Rattle.ipdl_base.specs.Sound.{IsSound, has_reply, message_of}
use Rattle.nesting_core.specs.declared.frame.Answer.{Answer}
use Rattle.nesting_core.specs.declared.frame.Answer.TheVariants as answer
use Rattle.nesting_core.specs.declared.frame.StackFrame.{StackFrame}
use Rattle.nesting_core.specs.declared.frame.StackFrame.TheVariants.{Dispatch, Wait}
use Rattle.nesting_core.specs.Frames.{head_of}
use Rattle.pending_queue.specs.declared.item.Item.{Item}
use Rattle.pending_queue.specs.declared.item.Item.TheVariants as item
use Rattle.pending_queue.specs.Compression.{is_request, is_request_of, are_alike, staying}
use Rattle.value_types.specs.Fits.{IsLivingId, IsRequestOf, GivesReturns, Fits}
use Rattle.value_types.specs.HasType.{HaveTypes}
use Rattle.channel_model.specs.Acts.{goodbye}
use Rattle.channel_model.specs.Answers as answering
use Rattle.channel_model.specs.Bounds.{IsCounted}
use Rattle.channel_model.specs.Deliveries as delivery
use Rattle.channel_model.specs.Ends.{End, Packet, message, mark, Resolver, NameContent, actor, resolver, StackEntry}
use Rattle.channel_model.specs.Events.{Event, Answering}
use Rattle.channel_model.specs.Events as event
use Rattle.channel_model.specs.Falls as fall
use Rattle.channel_model.specs.Fitting.{IsRequestKept, FitsItem, FitsAnswer, FitsEntry, FitsResolver, HasLivingId, IsFitting, FitsPacket, IsFittingDelivery}
use Rattle.channel_model.specs.Names.{held_by_name, without_name}
use Rattle.channel_model.specs.Numbers.{is_sync_row, makes_promise, request_row, counting}
use Rattle.channel_model.specs.Outputs.{Output, AnsweredRequest, request_answered, resolver_answered, reply_to, body_of, is_open}
use Rattle.channel_model.specs.Parts
use Rattle.channel_model.specs.Parts.{FirstPart, LaterPart, LaterParts, OwnParts, DeliveryPart, IsReturn, reply_packets, end_after, left_end, falling, owes_reply, farewell_item}
use Rattle.channel_model.specs.Phases.{Phase}
use Rattle.channel_model.specs.Refusals.{packet_refusal, is_replied_to, is_waited_for, is_promised, actor_refusal, reply_refusal, body_refusal, stray}
use Rattle.channel_model.specs.Returns as return
use Rattle.channel_model.specs.Sends as send
use Rattle.channel_model.specs.States.{is_farewell}
use Rattle.channel_model.specs.StepLaws.{IsMadeOf, IsDeliveryOfOnePart, FitsOutput, FittingEndsStay, FirstEndsFit}
use Rattle.channel_model.specs.Takes as take
use Rattle.channel_model.specs.Typed.{have_types}
use Rattle.channel_model.specs.ValueActors.{has_dead}
use Rattle.channel_model.proofs.CountedParts.{laters-keep}
use Rattle.channel_model.proofs.FittingEnds.{fits-outbox, fits-state, fits-actors, fits-arrived, fits-stack, fits-promises, fits-names, fits-delivered, fits-following, outbox-packets, following-packets, released-stack, failed-stack, AnswerFits, answered-stack, entry-resolver, handled-resolver, without-names, actor-names, held-fits, more-names, rejected-promises, settled-promises, taken-fits, left-items, staying-items, last-item, replaced-in, all-drop}
use Rattle.channel_model.proofs.FittingRequests.{promise-reply, sync-reply, same-row, request-kept, request-of, values-fit, fault-fits, rejected-fault, destroyed-fault, resolver-fault, promised-fault, gives-returns, reply-of}
use Rattle.channel_model.proofs.FittingSends.{accepted-values, sent-fresh, sent-packets, sent-end, request-fresh}
use Rattle.channel_model.proofs.FittingValues.{top-lives, values-carried, values-typed}
use Rattle.channel_model.proofs.Known.{all-append, all-filter}
use Rattle.channel_model.proofs.SendParts.{passed-first, request-number}
use Rattle.channel_model.proofs.SoundRows.{reply-row}
use Rattle.channel_model.proofs.StepParts.{by-parts}
use Rattle.channel_model.proofs.Tests.{and-left, and-right}

-- What a part makes fits: the end after it, its packets, and the ids that may be built.
record PartFits (schema : Schema) (ps : List Packet) (e : End) (p : Phase) : Type 0 where
  end : IsFitting schema e
  packets : AllByRecursion (FitsPacket schema) ps
  fresh : AllByRecursion IsLivingId p.fresh

module _ (schema : Schema) (sound : IsSound schema) where
  -- Replies

  -- the packets of an answer, if there is one
  replies-fit : (b : Bool) (e : End) (q : AnsweredRequest) (a : Answer) → IsFitting schema e → (b ≡ true → Fits schema (reply_to q (body_of a))) → AllByRecursion (FitsPacket schema) (reply_packets b e q a)
  replies-fit true e q a h k = following-packets schema e (message (reply_to q (body_of a))) (k refl) h
  replies-fit false e q a h k = tt

  owed-reply : (row : MessageRow) → owes_reply row ≡ true → has_reply row ≡ true
  owed-reply row e = by (is_sync_row row) refl e
    where
      by : (b : Bool) → is_sync_row row ≡ b → b || makes_promise row ≡ true → has_reply row ≡ true
      by true is e = sync-reply row is
      by false is e = promise-reply row e

  -- the row that is found for the number of a kept request is that request's row
  kept-row : (row other : MessageRow) (q : AnsweredRequest) → IsRequestKept schema row q → request_row schema q.number ≡ Some other → row ≡ other
  kept-row row other q kept found = same_Some row other (sym kept.found ∙ found)

  -- Answers

  not-dead : (row : MessageRow) (e : End) (vs : Values) (r : Resolver) → answering.resolver_refusal schema e row (Some vs) (Some r) ≡ None → has_dead schema e.actors (returns_of_row row) vs ≡ false
  not-dead row e vs r ok = accepted-values (answering.is_reply_too_large schema r vs) (has_dead schema e.actors (returns_of_row row) vs) ok

  -- the resolver that is used, with the row for its answer
  abbrev pub Used : MessageRow → Resolver → Type 0
  Used row r = (FitsResolver schema r) × (request_row schema r.number ≡ Some row)

  used-handled : (e : End) (seq : ℤ) (r : Resolver) (row : MessageRow) (found : Option Resolver) → answering.handled_resolver e seq ≡ found → found ≡ Some r → option_and_then (λ (r : Resolver). request_row schema r.number) found ≡ Some row → IsFitting schema e → Used row r
  used-handled e seq r row None is used answered h = cc
  used-handled e seq r row (Some x) is used answered h =
      let same : x ≡ r = same_Some x r used in
      (handled-resolver schema seq e.stack r h.stack (is ∙ used), ap (λ (y : Resolver). request_row schema y.number) (sym same) ∙ answered)

  used-row : (number : ℕ) (row : MessageRow) (found : Option MessageRow) → request_row schema number ≡ found → option_and_then (λ (row : MessageRow). cond (makes_promise row) (Some row) None) found ≡ Some row → request_row schema number ≡ Some row
  used-row number row None is e = cc
  used-row number row (Some x) is e = by (makes_promise x) e
    where
      by : (b : Bool) → cond b (Some x) None ≡ Some row → request_row schema number ≡ Some row
      by true e = is ∙ e
      by false e = cc

  used-kept : (e : End) (name : List ℕ) (number : ℕ) (r : Resolver) (row : MessageRow) (content : Option NameContent) → held_by_name name e.names ≡ content → option_and_then (answering.resolver_of number) content ≡ Some r → request_row schema number ≡ Some row → IsFitting schema e → Used row r
  used-kept e name number r row None is used found h = cc
  used-kept e name number r row (Some (actor id)) is used found h = cc
  used-kept e name number r row (Some (resolver x)) is used found h = by (x.number == number) refl used
    where
      by : (b : Bool) → (x.number == number) ≡ b → cond b (Some x) None ≡ Some r → Used row r
      by true numbers k =
          let same : x ≡ r = same_Some x r k in
          let number_is : x.number ≡ number = eqb-true x.number number numbers in
          (subst (FitsResolver schema) same (held-fits schema name e.names (resolver x) h.names is), ap (λ (y : Resolver). request_row schema y.number) (sym same) ∙ ap (request_row schema) number_is ∙ found)
      by false numbers k = cc

  pub used : (e : End) (by : Answering) (r : Resolver) (row : MessageRow) → answering.answered_row schema e by ≡ Some row → answering.resolver_used e by ≡ Some r → IsFitting schema e → Used row r
  used e (event.handled seq) r row answered is h = used-handled e seq r row (answering.handled_resolver e seq) refl is answered h
  used e (event.kept name number) r row answered is h = used-kept e name number r row (held_by_name name e.names) refl is (used-row number row (request_row schema number) refl answered) h

  -- what an answer sends
  pub answer-fits : (e : End) (vs : Option Values) (r : Resolver) (row : MessageRow) → Used row r → answering.may_answer schema e row vs ≡ true → answering.resolver_refusal schema e row vs (Some r) ≡ None → IsFitting schema e → Fits schema (reply_to (resolver_answered r) (answering.answer_body vs))
  answer-fits e None r row (f, found) may ok h = fault-fits schema sound f.0 (resolver_answered r) f.1 reason.HandlerRejected (promise-reply f.0 f.2) (rejected-fault f.0.semantics)
  answer-fits e (Some vs) r row (f, found) may ok h =
      let typed : have_types schema (returns_of_row row) vs ≡ true = and-right (send.may_act e) (have_types schema (returns_of_row row) vs) may in
      let gives : GivesReturns schema row vs = gives-returns schema row vs (values-typed schema (returns_of_row row) vs typed) (values-carried e.actors h.actors schema (returns_of_row row) vs typed (not-dead row e vs r ok)) in
      values-fit schema sound f.0 (resolver_answered r) f.1 vs (promise-reply f.0 f.2) (subst (λ (x : MessageRow). GivesReturns schema x vs) (sym (kept-row f.0 row (resolver_answered r) f.1 found)) gives)

  answered-end : (e : End) (by : Answering) → IsFitting schema e → IsFitting schema (answering.without_resolver by e)
  answered-end e (event.handled seq) h = fits-stack schema e (answering.released seq e.stack) (released-stack schema seq e.stack h.stack) h
  answered-end e (event.kept name number) h = fits-names schema e (without_name name e.names) (without-names schema name e.names h.names) h

  -- Returns

  top-entry : (stack : List StackEntry) (entry : StackEntry) → return.dispatch_on_top stack ≡ Some entry → AllByRecursion (FitsEntry schema) stack → FitsEntry schema entry
  top-entry [] entry e h = cc
  top-entry (x ∷ stack) entry e h = by x.frame e h.0
    where
      by : (f : StackFrame) → elim f as (λ f. Option StackEntry) [ Dispatch head ↦ Some (record x { frame = f }) | Wait head a ↦ None ] ≡ Some entry → FitsEntry schema (record x { frame = f }) → FitsEntry schema entry
      by (Dispatch head) e k = subst (FitsEntry schema) (same_Some (record x { frame = Dispatch head }) entry e) k
      by (Wait head a) e k = cc

  given-fits : (e : End) (row : MessageRow) (entry : StackEntry) (q : AnsweredRequest) (vs : Option Values) → IsRequestKept schema row q → has_reply row ≡ true → return.may_return schema row vs ≡ true → IsFitting schema e → Fits schema (reply_to q (body_of (return.given_answer schema e row entry vs)))
  given-fits e row entry q None kept replies may h = fault-fits schema sound row q kept reason.HandlerRejected replies (rejected-fault row.semantics)
  given-fits e row entry q (Some vs) kept replies may h = by (send.is_too_large schema (reply_to (return.dispatch_answered entry) (Reply vs))) (has_dead schema e.actors (returns_of_row row) vs) refl
    where
      typed : have_types schema (returns_of_row row) vs ≡ true
      typed = and-right (is_some row.returns) (have_types schema (returns_of_row row) vs) (and-right (is_sync_row row) (is_some row.returns && have_types schema (returns_of_row row) vs) may)

      by : (large dead : Bool) → has_dead schema e.actors (returns_of_row row) vs ≡ dead → Fits schema (reply_to q (body_of (if large || dead then answer.Fault reason.HandlerRejected else answer.Ok vs)))
      by true dead is = fault-fits schema sound row q kept reason.HandlerRejected replies (rejected-fault row.semantics)
      by false true is = fault-fits schema sound row q kept reason.HandlerRejected replies (rejected-fault row.semantics)
      by false false is = values-fit schema sound row q kept vs replies (gives-returns schema row vs (values-typed schema (returns_of_row row) vs typed) (values-carried e.actors h.actors schema (returns_of_row row) vs typed is))

  pub return-fits : (e : End) (row : MessageRow) (entry : StackEntry) (q : AnsweredRequest) (vs : Option Values) → IsRequestKept schema row q → has_reply row ≡ true → return.may_return schema row vs ≡ true → IsFitting schema e → Fits schema (reply_to q (body_of (return.return_answer schema e row entry vs)))
  return-fits e row entry q vs kept replies may h = by row.returns refl
    where
      given : Fits schema (reply_to q (body_of (return.given_answer schema e row entry vs)))
      given = given-fits e row entry q vs kept replies may h

      by : (returns : Option (List ParamRow)) → row.returns ≡ returns → Fits schema (reply_to q (body_of (if is_none returns then answer.Ok Nothing else return.given_answer schema e row entry vs)))
      by None is = values-fit schema sound row q kept Nothing replies (record { types = subst (λ (r : Option (List ParamRow)). HaveTypes schema (unwrap_or r []) Nothing) (sym is) tt; ids = All-nil _ })
      by (Some types) is = given

  -- Later parts

  fallen-fits : (id : ℤ) (e : End) → IsFitting schema e → IsFitting schema (Parts.fallen_end id e)
  fallen-fits id e h =
      let actors : List Actor = others (falling id e) e.actors in
      let promises = fall.rejected (λ p. lives p.actor (falling id e)) reason.ActorDestroyed e.promises in
      fits-promises schema (record e { actors = actors }) promises (rejected-promises schema (λ p. lives p.actor (falling id e)) reason.ActorDestroyed e.promises h.promises)
      (fits-actors schema e actors (all-filter HasLivingId (λ (a : Actor). not (lives a.id (falling id e))) e.actors h.actors) h)

  later-fits : {p q : Phase} {e f : End} {ws : List What} {ps : List Packet} → LaterPart p e ws ps f q → AllByRecursion IsLivingId p.fresh → IsFitting schema e → PartFits schema ps f q
  later-fits {e} (Parts.unnames name may silent) fresh h = record { end = fits-names schema e (without_name name e.names) (without-names schema name e.names h.names) h; packets = tt; fresh = fresh }
  later-fits {e} (Parts.lets_go name r may is open_is) fresh h = record {
    end = fits-outbox schema (record e { names = without_name name e.names }) (fits-names schema e (without_name name e.names) (without-names schema name e.names h.names) h);
    packets = following-packets schema e (message (reply_to (resolver_answered r) (Fault reason.ResolverDestroyed))) (promised-fault schema sound (resolver_answered r) (held-fits schema name e.names (resolver r) h.names is)) h;
    fresh = fresh;
  }
  later-fits {e} (Parts.names more actors) fresh h = record { end = fits-names schema e (e.names ++ more) (all-append _ e.names more h.names (more-names schema more actors)) h; packets = tt; fresh = fresh }
  later-fits {e} (Parts.releases seq closed) fresh h = record { end = fits-stack schema e (answering.released seq e.stack) (released-stack schema seq e.stack h.stack) h; packets = tt; fresh = fresh }
  later-fits {e} (Parts.keeps seq name r is closed) fresh h = record {
    end = fits-names schema (record e { stack = answering.released seq e.stack }) (e.names ++ record { name = name; holds = resolver r } ∷ [])
        (all-append _ e.names (record { name = name; holds = resolver r } ∷ []) h.names (handled-resolver schema seq e.stack r h.stack is, tt)) (fits-stack schema e (answering.released seq e.stack) (released-stack schema seq e.stack h.stack) h);
    packets = tt;
    fresh = fresh;
  }
  later-fits {p} {e} (Parts.builds id protocol rest is built) fresh h =
      let ids : AllByRecursion IsLivingId (id ∷ rest) = subst (AllByRecursion IsLivingId) is fresh in
      record { end = fits-actors schema e _ (all-append HasLivingId e.actors (_ ∷ []) h.actors (ids.0, tt)) h; packets = tt; fresh = ids.1 }
  later-fits {e} (Parts.deletes id cause) fresh h = record { end = fallen-fits id e h; packets = tt; fresh = fresh }
  later-fits {e} (Parts.falls why cause) fresh h = record { end = fallen-fits _ (Parts.abandoned_end e) (fits-promises schema e _ (rejected-promises schema (λ p. true) reason.ChannelClosed e.promises h.promises) h); packets = tt; fresh = fresh }

  laters-fit : {p q : Phase} {e f : End} {ws : List What} {ps : List Packet} → LaterParts p e ws ps f q → AllByRecursion IsLivingId p.fresh → IsFitting schema e → PartFits schema ps f q
  laters-fit Parts.done fresh h = record { end = h; packets = tt; fresh = fresh }
  laters-fit (Parts.then {ps} {qs} part rest) fresh h =
      let a = later-fits part fresh h in
      let b = laters-fit rest a.fresh a.end in
      record { end = b.end; packets = all-append (FitsPacket schema) ps qs a.packets b.packets; fresh = b.fresh }

  -- First parts

  closing-fits : (e : End) → IsFitting schema e → IsFitting schema (Parts.shut_end e)
  closing-fits e h = fits-names schema (record e { state = Closed; arrived = [] }) _ (actor-names schema e.names h.names) (fits-arrived schema (record e { state = Closed }) [] tt (fits-state schema e Closed h))

  dying-fits : (e : End) → IsFitting schema e → IsFitting schema (record e { state = Dead; stack = []; arrived = [] })
  dying-fits e h = fits-arrived schema (record e { state = Dead; stack = [] }) [] tt (fits-stack schema (record e { state = Dead }) [] tt (fits-state schema e Dead h))

  leaving-fits : (e : End) → IsFitting schema e → IsFitting schema (left_end e)
  leaving-fits e h = fits-arrived schema e _ (left-items schema e h) h

  first-fits : {p : Phase} {e f : End} {ws : List What} {ps : List Packet} → FirstPart schema e ws ps f p → IsCounted e → f.sent ≤ 268435456 → IsFitting schema e → PartFits schema ps f p
  first-fits (Parts.refuses w is) counted few h = record { end = h; packets = tt; fresh = tt }
  first-fits (Parts.renames w is) counted few h = record { end = h; packets = tt; fresh = tt }
  first-fits {e} (Parts.flushes open_is) counted few h = record { end = fits-outbox schema e h; packets = outbox-packets schema e.outbox h.outbox; fresh = tt }
  first-fits {e} (Parts.sends row route vs name sent) counted few h =
      let low : e.sent < 268435456 = omega arith in
      record { end = sent-end schema e row route vs name sent counted low h; packets = sent-packets schema e row route vs name sent counted low h; fresh = sent-fresh schema e row route vs name sent counted low h }
  first-fits {e} (Parts.answers by vs r row found may ok is) counted few h = record {
    end = fits-outbox schema (answering.without_resolver by e) (answered-end e by h);
    packets = following-packets schema e (message (reply_to (resolver_answered r) (answering.answer_body vs))) (answer-fits e vs r row (used e by r row found is h) may (ap (answering.resolver_refusal schema e row vs) (sym is) ∙ (passed-first (is_open e.state) refusal.Closed (answering.resolver_refusal schema e row vs (answering.resolver_used e by)) ok).1) h) h;
    fresh = tt;
  }
  first-fits {e} (Parts.closes open_is waits) counted few h = record { end = closing-fits (record e { outbox = [] }) (fits-outbox schema e h); packets = following-packets schema e (message goodbye) (record { number = refl; route = refl; seq = refl; transaction = refl; made = refl }) h; fresh = tt }
  first-fits {e} (Parts.dies open_is) counted few h = record { end = fits-outbox schema (record e { state = Dead; stack = []; arrived = [] }) (dying-fits e h); packets = following-packets schema e mark tt h; fresh = tt }
  first-fits {e} (Parts.dies_silent open_is alive) counted few h = record { end = dying-fits e h; packets = tt; fresh = tt }
  first-fits {e} (Parts.takes m sync level row vs next body found stays) counted few h =
      let r : IsRequestOf schema row m vs = request-of schema row m vs (taken-fits schema e (item.Message m sync level) h next).0 body found in
      record {
        end = fits-stack schema (left_end e) (take.dispatch_of row m ∷ e.stack) (record { row = row; request = request-kept schema row m vs r; sync = refl; level = refl; resolves = λ e. e; frame = tt }, h.stack) (leaving-fits e h);
        packets = tt;
        fresh = request-fresh row m r.made;
      }
  first-fits {e} (Parts.drops m sync level row vs id replies next body found gone is) counted few h =
      let r : IsRequestOf schema row m vs = request-of schema row m vs (taken-fits schema e (item.Message m sync level) h next).0 body found in
      record {
        end = fits-following schema replies (left_end e) (leaving-fits e h);
        packets = replies-fit replies e (request_answered m) (answer.Fault reason.ActorDestroyed) h
            (λ b. fault-fits schema sound row (request_answered m) (request-kept schema row m vs r) reason.ActorDestroyed (owed-reply row (and-right (is_open e.state) (owes_reply row) (sym is ∙ b))) (destroyed-fault row.semantics));
        fresh = tt;
      }
  first-fits {e} (Parts.drops_unknown m sync level vs next body none) counted few h = record { end = leaving-fits e h; packets = tt; fresh = tt }
  first-fits {e} (Parts.takes_reply m sync level a next body late) counted few h = record { end = leaving-fits e h; packets = tt; fresh = tt }
  first-fits {e} (Parts.settles m sync level row a next body found is) counted few h = record { end = fits-promises schema (left_end e) _ (settled-promises schema m.seq _ e.promises h.promises) (leaving-fits e h); packets = tt; fresh = tt }
  first-fits {e} (Parts.shuts last next is) counted few h = record { end = closing-fits e h; packets = tt; fresh = tt }
  first-fits {e} (Parts.returns entry row vs told lost returns t l) counted few h =
      let k : FitsEntry schema entry = top-entry e.stack entry returns.on_top h.stack in
      let q : AnsweredRequest = return.dispatch_answered entry in
      let kept : IsRequestKept schema row q = subst (λ (r : MessageRow). IsRequestKept schema r q) (kept-row k.row row q k.request returns.found) k.request in
      let off : IsFitting schema (record e { stack = drop 1 e.stack }) = fits-stack schema e (drop 1 e.stack) (all-drop (FitsEntry schema) e.stack h.stack) h in
      record {
        end = fits-following schema lost (end_after told (record e { stack = drop 1 e.stack })) (fits-following schema told (record e { stack = drop 1 e.stack }) off);
        packets = all-append (FitsPacket schema) (reply_packets told e q (return.return_answer schema e row entry vs)) (reply_packets lost (end_after told e) (resolver_answered (answering.resolver_in entry)) (answer.Fault reason.ResolverDestroyed))
            (replies-fit told e q (return.return_answer schema e row entry vs) h (λ b. return-fits e row entry q vs kept (sync-reply row (and-right (is_open e.state) (is_sync_row row) (sym t ∙ b))) returns.may h))
            (replies-fit lost (end_after told e) (resolver_answered (answering.resolver_in entry)) (answer.Fault reason.ResolverDestroyed) (fits-following schema told e h)
            (λ b. promised-fault schema sound (resolver_answered (answering.resolver_in entry)) (entry-resolver schema entry k (and-right (is_open e.state) entry.resolves (sym l ∙ b)))));
        fresh = tt;
      }
  first-fits {e} (Parts.resumes wait row on_top found) counted few h = record { end = fits-stack schema e (drop 1 e.stack) (all-drop (FitsEntry schema) e.stack h.stack) h; packets = tt; fresh = tt }

  own-fits : {p : Phase} {e f : End} {ws : List What} {ps : List Packet} → OwnParts schema e ws ps f p → IsCounted e → f.sent ≤ 268435456 → IsFitting schema e → PartFits schema ps f p
  own-fits (Parts.begun {ps} {qs} first rest over) counted few h =
      let k = laters-keep rest in
      let a = first-fits first counted (omega (arith, k.sent)) h in
      let b = laters-fit rest a.fresh a.end in
      record { end = b.end; packets = all-append (FitsPacket schema) ps qs a.packets b.packets; fresh = b.fresh }

  -- Deliveries

  -- a request, a reply or a farewell as it arrives
  arriving : (row : MessageRow) (m : Message) → Fits schema m → message_of schema m.number ≡ Some row → FitsItem schema (delivery.item_of row m)
  arriving row m fits found = (fits, λ ordinary. (row, found, refl, refl))

  farewell-fits : (packet : Packet) → FitsPacket schema packet → is_farewell (farewell_item packet) ≡ true → FitsItem schema (farewell_item packet)
  farewell-fits (message m) fits is = (fits, λ ordinary. cc)
  farewell-fits mark fits is = tt

  counted-fits : (row : MessageRow) (m : Message) (e : End) → Fits schema m → message_of schema m.number ≡ Some row → IsFitting schema e → IsFitting schema (delivery.counted row (delivery.item_of row m) e)
  counted-fits row m e fits found h =
      let items : List Item = staying row.compress (delivery.item_of row m) e.arrived ++ delivery.item_of row m ∷ [] in
      fits-delivered schema (record e { arrived = items }) (e.delivered + 1) (counting row.kind e.constructors_delivered) (fits-arrived schema e items (staying-items schema e row.compress (delivery.item_of row m) (arriving row m fits found) h) h)

  -- a request that is replaced is of the same message
  pub record Alike (m old : Message) : Type 0 where
    pub values : Values
    pub body : old.body ≡ Request values
    pub number : old.number ≡ m.number

  pub alike : (m old : Message) (sync was : Bool) (level before : Level) → are_alike (item.Message m sync level) (item.Message old was before) ≡ true → Alike m old
  alike m old sync was level before e =
      let numbers : Bool = old.number == m.number in
      let routes : Bool = int_eq old.route m.route in
      let same : (is_request old.body && numbers) && routes ≡ true = and-right (is_request m.body) (is_request_of m.number m.route (item.Message old was before)) e in
      let first : is_request old.body && numbers ≡ true = and-left (is_request old.body && numbers) routes same in
      let b = request-body old.body (and-left (is_request old.body) numbers first) in
      record { values = b.0; body = b.1; number = eqb-true old.number m.number (and-right (is_request old.body) numbers first) }
    where
      request-body : (body : Body) → is_request body ≡ true → (vs : Values) × (body ≡ Request vs)
      request-body (Request vs) e = (vs, refl)
      request-body (Reply vs) e = cc
      request-body (Fault r) e = cc
      request-body Goodbye e = cc

  pub replaced-fits : (e : End) (m old : Message) (sync : Bool) (level : Level) (row : MessageRow) → FitsItem schema (item.Message old sync level) × (are_alike (delivery.item_of row m) (item.Message old sync level) ≡ true) → message_of schema m.number ≡ Some row → makes_promise row ≡ true → Fits schema (reply_to (request_answered old) (Fault reason.ResolverDestroyed))
  replaced-fits e m old sync level row h found promise =
      let a : Alike m old = alike m old (is_sync_row row) sync row.level level h.1 in
      let r : IsRequestOf schema row old a.values = request-of schema row old a.values h.0.0 a.body (ap (message_of schema) a.number ∙ found) in
      fault-fits schema sound row (request_answered old) (request-kept schema row old a.values r) reason.ResolverDestroyed (promise-reply row promise) (resolver-fault row promise)

  -- a reply to a sync request that is not refused is waited for
  pub waited : (e : End) (m : Message) (row : MessageRow) (a : Answer) → m.body ≡ body_of a → message_of schema m.number ≡ Some row → is_sync_row row ≡ true → packet_refusal schema e (message m) ≡ None → is_waited_for e m ≡ true
  waited e m row a body found sync accepted =
      expected (is_sync_row row) (is_waited_for e m) (is_promised e m) sync
      (by_answer a (sym (ap (λ (b : Body). body_refusal schema e m b row) body) ∙ (sym (ap (λ (r : Option MessageRow). option_map_or (body_refusal schema e m m.body) r None) found) ∙ accepted)))
    where
      by_answer : (a : Answer) → body_refusal schema e m (body_of a) row ≡ None → reply_refusal schema e m row ≡ None
      by_answer (answer.Ok vs) e = e
      by_answer (answer.Fault r) e = e

      expected : (b w p : Bool) → b ≡ true → (if (if b then w else p) then actor_refusal schema e row m else Some (stray m.seq)) ≡ None → w ≡ true
      expected true true p is e = refl
      expected true false p is e = cc
      expected false w p is e = cc

  waiting-answer : (m : Message) (row : MessageRow) (a : Answer) → Fits schema m → m.body ≡ body_of a → message_of schema m.number ≡ Some row → AnswerFits schema a (λ (entry : StackEntry). is_replied_to m (head_of entry.frame).seq entry.number entry.route)
  waiting-answer m row a fits body found entry h sync passes =
      let seq : ℤ = (head_of entry.frame).seq in
      let number : m.number ≡ entry.number + 1 = eqb-true m.number (entry.number + 1) (and-left (m.number == entry.number + 1) (int_eq m.route entry.route) (and-right (int_eq m.seq seq) ((m.number == entry.number + 1) && int_eq m.route entry.route) passes)) in
      let n = request-number schema entry.number h.row h.request.found in
      let reply : message_of schema (entry.number + 1) ≡ Some h.row = reply-row schema sound entry.number h.row n.1 n.0 (sync-reply h.row sync) in
      subst (λ (r : MessageRow). FitsAnswer schema r a) (same-row schema m.number row h.row found (ap (message_of schema) number ∙ reply)) (reply-of schema row m a fits body found).1

  delivery-fits : {packet : Packet} {p : Phase} {e f : End} {ws : List What} {ps : List Packet} → DeliveryPart schema packet e ws ps f p → FitsPacket schema packet → packet_refusal schema e packet ≡ None → IsFitting schema e → PartFits schema ps f p
  delivery-fits {e} (Parts.gets_request m row vs body found none) fits accepted h = record { end = counted-fits row m e fits found h; packets = tt; fresh = tt }
  delivery-fits {e} (Parts.replaces m row vs old sync level replies body found rep is) fits accepted h =
      let new : Item = delivery.item_of row m in
      record {
        end = fits-following schema replies (delivery.counted row new e) (counted-fits row m e fits found h);
        packets = replies-fit replies e (request_answered old) (answer.Fault reason.ResolverDestroyed) h
            (λ b. replaced-fits e m old sync level row (replaced-in (FitsItem schema) row.compress new e.arrived (item.Message old sync level) h.arrived rep) found (sym is ∙ b));
        fresh = tt;
      }
  delivery-fits {e} (Parts.gets_answer m row a body found sync) fits accepted h = record {
    end = fits-stack schema e _ (answered-stack schema a (λ (entry : StackEntry). is_replied_to m (head_of entry.frame).seq entry.number entry.route) e.stack (waiting-answer m row a fits body found) h.stack (waited e m row a body found sync accepted)) h;
    packets = tt;
    fresh = tt;
  }
  delivery-fits {e} (Parts.gets_reply m row a body found async) fits accepted h = record { end = fits-arrived schema e _ (last-item schema e (delivery.item_of row m) (arriving row m fits found) h) h; packets = tt; fresh = tt }
  delivery-fits {e} (Parts.drains packet is) fits accepted h =
      let last : Item = farewell_item packet in
      record {
        end = fits-stack schema (record (delivery.arrives last e) { state = Draining; outbox = [] }) (map delivery.with_failed_wait e.stack) (failed-stack schema e.stack h.stack)
            (fits-outbox schema (record (delivery.arrives last e) { state = Draining }) (fits-state schema (delivery.arrives last e) Draining (fits-arrived schema e _ (last-item schema e last (farewell-fits packet fits is) h) h)));
        packets = tt;
        fresh = tt;
      }
  delivery-fits {e} (Parts.passes_by m ordinary none) fits accepted h = record { end = h; packets = tt; fresh = tt }

-- Steps

own-output : (schema : Schema) → IsSound schema → (e : End) (output : Output) → IsCounted e → output.end.sent ≤ 268435456 → IsFitting schema e → IsMadeOf (OwnParts schema e) e.side output → FitsOutput schema output
own-output schema sound e output counted few h made = let r = own-fits schema sound made.parts counted few h in record { end = r.end; packets = r.packets }

delivered-output : (schema : Schema) → IsSound schema → (e : End) (link : List Packet) (output : Output) → IsFittingDelivery schema e link event.deliver → IsFitting schema e → IsDeliveryOfOnePart schema e link output → FitsOutput schema output
delivered-output schema sound e [] output fits h (packet, is, open_is, made) = cc
delivered-output schema sound e (first ∷ rest) output fits h (packet, is, open_is, made) =
    let same : first ≡ packet = same_Some first packet is in
    let r = delivery-fits schema sound made.parts (subst (FitsPacket schema) same fits.0) (ap (packet_refusal schema e) (sym same) ∙ fits.1) h in
    record { end = r.end; packets = r.packets }

pub fitting_ends_stay : FittingEndsStay
fitting_ends_stay schema e link happened output is sound counted few fits h =
    by-parts schema e link happened output (FitsOutput schema output) is (own-output schema sound e output counted few h) (λ same made. delivered-output schema sound e link output (subst (IsFittingDelivery schema e link) same fits) h made)

pub first_ends_fit : FirstEndsFit
first_ends_fit schema protocol side = (record { actors = (top-lives, tt); arrived = tt; stack = tt; promises = tt; names = tt; outbox = tt }, record { outbox = omega arith; constructors = omega arith })
