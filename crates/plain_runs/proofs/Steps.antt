-- What every step keeps plain.
use Rattle.std.proofs.Common.{◌≡◌, ℕ, ◌+◌, ℤ, pos, Bool, true, false, ◌&&◌, ◌||◌, if◌then◌else◌, List, [], ◌∷◌, ◌++◌, drop, length, map, is_none, Option, Some, None, option_map, option_and_then, refl, sym, ap, subst, ◌∙◌}
use Rattle.std.specs.List.{AllByRecursion}
use Rattle.std.proofs.lemmas.Option.{same_Some}
use Rattle.actor_tree.specs.declared.actor.Actor.{Actor}
use Rattle.ipdl_base.specs.declared.kinds.Destroy.TheVariants.{NormalShutdown, AbnormalShutdown}
use Rattle.ipdl_base.specs.declared.kinds.EndState.TheVariants.{Dead, Draining}
use Rattle.ipdl_base.specs.declared.kinds.Level.TheVariants.{Not}
use Rattle.ipdl_base.specs.declared.kinds.Reason.TheVariants as reason
use Rattle.ipdl_base.specs.declared.kinds.SendRefusal.{SendRefusal}
use Rattle.ipdl_base.specs.declared.kinds.SendRefusal.TheVariants as refusal
use Rattle.ipdl_base.specs.declared.line.What.TheVariants as what
use Rattle.ipdl_base.specs.declared.message.Body.{Body}
use Rattle.ipdl_base.specs.declared.message.Body.TheVariants.{Request, Reply, Fault, Goodbye}
use Rattle.ipdl_base.specs.declared.message.Message.{Message}
use Rattle.ipdl_base.specs.declared.schema.MessageRow.{MessageRow}
use Rattle.ipdl_base.specs.declared.schema.ParamRow.{ParamRow}
use Rattle.ipdl_base.specs.declared.schema.Schema.{Schema}
use Rattle.ipdl_base.specs.declared.value.Values.{Values}
use Rattle.ipdl_base.specs.declared.value.Values.TheVariants.{Nothing}
use Rattle.ipdl_base.specs.Plain.{plain_body, plain_message, plain_values}
use Rattle.ipdl_base.specs.Sound.{message_of}
use Rattle.nesting_core.specs.declared.frame.Answer.{Answer}
use Rattle.nesting_core.specs.declared.frame.Answer.TheVariants as answer
use Rattle.nesting_core.specs.declared.frame.StackFrame.{StackFrame}
use Rattle.nesting_core.specs.declared.frame.StackFrame.TheVariants.{Dispatch, Wait}
use Rattle.nesting_core.specs.Answers.{with_answer}
use Rattle.nesting_core.specs.Frames.{head_of}
use Rattle.nesting_core.specs.Plain.{plain_answer, plain_frame}
use Rattle.pending_queue.specs.declared.item.Item.{Item}
use Rattle.pending_queue.specs.declared.item.Item.TheVariants as item
use Rattle.pending_queue.specs.Compression.{replaced, staying}
use Rattle.pending_queue.specs.DeferralContext.{is_free, without_first}
use Rattle.promise_table.specs.declared.promise.Outcome.{Outcome}
use Rattle.promise_table.specs.declared.promise.Outcome.TheVariants.{Resolved, Rejected}
use Rattle.promise_table.specs.Plain.{plain_outcome}
use Rattle.promise_table.specs.Promises.{has_number, is_pending}
use Rattle.channel_model.specs.Acts.{close, close_refusal, close_unless, die, goodbye, is_positive, may_die, name_actor}
use Rattle.channel_model.specs.Answers as answering
use Rattle.channel_model.specs.Deliveries as delivery
use Rattle.channel_model.specs.Ends.{End, Packet, PromiseEntry, Resolver, StackEntry, actor, mark, message}
use Rattle.channel_model.specs.Events.{Answering, Event, handled, kept}
use Rattle.channel_model.specs.Events as event
use Rattle.channel_model.specs.Numbers.{counting, is_sync_row, makes_promise, request_row}
use Rattle.channel_model.specs.Outputs.{Change, Output, answered, beginning, destroyed, is_open, line, put, reply_to, request_answered, resolver_answered, unchanged}
use Rattle.channel_model.specs.Returns as return
use Rattle.channel_model.specs.Sends as send
use Rattle.channel_model.specs.Steps.{first_packet, provided}
use Rattle.channel_model.specs.Takes as take
use Rattle.channel_model.specs.ValueActors.{nulled, received}
use Rattle.channel_model.proofs.Counted.{kept-frames}
use Rattle.channel_model.proofs.FittingEnds.{all-drop, taken-first}
use Rattle.channel_model.proofs.FittingValues.{found-in}
use Rattle.channel_model.proofs.Known.{all-append}
use Rattle.channel_model.proofs.PlainValues.{plain_forms_commute}
use Rattle.channel_model.proofs.Provided.{found-gives, provided-gives}
use Rattle.channel_model.proofs.Sublists.{all-sublist, staying-sublist, without_first-sublist}
use Rattle.end_parts.specs.PlainLines.{plain_what}
use Rattle.plain_runs.specs.Laws.{StepsStayPlain}
use Rattle.plain_runs.specs.PlainEnds.{IsPlainEnd, IsPlainEntry, IsPlainItem, IsPlainMessage, IsPlainOutput, IsPlainPacket, IsPlainPromise}
use Rattle.plain_runs.proofs.Parts.{IsPlainWhat, StaysPlain, all-made, all-mapped, answers, at_end, begins, builds_actor, by_row, closes, deletes_actor, if_open, lets_resolver_go, more_lines, one_line, one_packet, released-stack, renames, sent-packets, stays, under, with-promises, with-stack, without-a-name}

-- What is inside

abbrev values-in : Body → Values
values-in (Request vs) = vs
values-in (Reply vs) = vs
values-in (Fault why) = Nothing
values-in Goodbye = Nothing

abbrev message-in : Item → Message
message-in (item.Message m sync level) = m
message-in item.Broken = goodbye

abbrev given-values : Option Values → Values
given-values None = Nothing
given-values (Some vs) = vs

abbrev answer-in : StackFrame → Answer
answer-in (Dispatch head) = answer.Ok Nothing
answer-in (Wait head None) = answer.Ok Nothing
answer-in (Wait head (Some a)) = a

plain-inside : (m : Message) → IsPlainMessage m → plain_body m.body ≡ m.body
plain-inside m h = ap (λ (x : Message). x.body) h

given-inside : (vs : Values) → plain_body (Reply vs) ≡ Reply vs → plain_answer (answer.Ok vs) ≡ answer.Ok vs
given-inside vs h = ap (λ (b : Body). answer.Ok (values-in b)) h

-- Sends

module _ (row : MessageRow) (m : Message) (vs : Values) (name : Option (List ℕ)) (plain_m : IsPlainMessage m) (plain_vs : plain_values vs ≡ vs) where
  send-line : (b : Bool) → IsPlainWhat (if b then what.Call m.seq m.transaction m.route m.number vs else what.Send m.seq m.route m.number vs)
  send-line true = ap (what.Call m.seq m.transaction m.route m.number) plain_vs
  send-line false = ap (what.Send m.seq m.route m.number) plain_vs

  posts : (b : Bool) → StaysPlain (send.posted_by b m)
  posts true = at_end (λ e. record e { outbox = e.outbox ++ m ∷ [] }) (λ e h. record { arrived = h.arrived; stack = h.stack; promises = h.promises; outbox = all-append IsPlainMessage e.outbox (m ∷ []) h.outbox (plain_m, tt) })
  posts false = one_packet (message m) plain_m

  awaits : StaysPlain (send.awaits_reply row m)
  awaits output h =
      under (makes_promise row) _ (at_end _ (λ e k. with-promises e _ (all-append IsPlainPromise e.promises (_ ∷ []) k.promises (refl, tt)) k)) _
      (under (is_sync_row row) _ (at_end _ (λ e k. with-stack e (send.wait_for row m ∷ e.stack) (refl, k.stack) k)) output h)

  names-actor : (id : ℤ) (name : Option (List ℕ)) → StaysPlain (send.names_actor id name)
  names-actor id None = stays
  names-actor id (Some n) = renames n (Some (actor id))

  pub sends : StaysPlain (send.sent row m vs name)
  sends output h =
      deletes_actor m.route row.kind _
      (builds_actor m.made m.route row.kind _
      (names-actor m.made name _
      (awaits _
      (posts row.lazy _
      (at_end (λ e. record e { sent = e.sent + 1; constructors_sent = counting row.kind e.constructors_sent }) (λ e k. record { arrived = k.arrived; stack = k.stack; promises = k.promises; outbox = k.outbox }) _
      (one_line (send.send_line row m vs) (send-line (is_sync_row row)) output h))))))

  pub sends-unless : (refused : Option SendRefusal) → StaysPlain (send.sent_unless refused row m vs name)
  sends-unless None = sends
  sends-unless (Some cause) = one_line (what.RefusedSend cause row.number) refl

-- Answers

refused-line : (cause : SendRefusal) (vs : Option Values) → IsPlainWhat (answering.refused_line cause vs)
refused-line cause None = refl
refused-line cause (Some vs) = refl

answering-line : (seq : ℤ) (vs : Option Values) → plain_what (answering.answering_line seq vs) ≡ answering.answering_line seq (option_map plain_values vs)
answering-line seq None = refl
answering-line seq (Some vs) = refl

answering-message : (r : Resolver) (vs : Option Values) → plain_message (reply_to (resolver_answered r) (answering.answer_body vs)) ≡ reply_to (resolver_answered r) (answering.answer_body (option_map plain_values vs))
answering-message r None = refl
answering-message r (Some vs) = refl

uses-resolver : (by : Answering) (e : End) → IsPlainEnd e → IsPlainEnd (answering.without_resolver by e)
uses-resolver (handled seq) e h = with-stack e (answering.released seq e.stack) (released-stack seq e.stack h.stack) h
uses-resolver (kept name number) e h = without-a-name name e h

module _ (by : Answering) (vs : Option Values) (plain_vs : option_map plain_values vs ≡ vs) where
  resolves : (r : Resolver) → StaysPlain (answering.resolved by vs r)
  resolves r output h =
      one_packet (message (reply_to (resolver_answered r) (answering.answer_body vs))) (answering-message r vs ∙ ap (λ (x : Option Values). reply_to (resolver_answered r) (answering.answer_body x)) plain_vs) _
      (at_end (answering.without_resolver by) (uses-resolver by) _ (one_line (answering.answering_line r.seq vs) (answering-line r.seq vs ∙ ap (answering.answering_line r.seq) plain_vs) output h))

  pub resolves-unless : (refused : Option SendRefusal) (r : Option Resolver) → StaysPlain (answering.answered_unless refused by vs r)
  resolves-unless (Some cause) r = one_line (answering.refused_line cause vs) (refused-line cause vs)
  resolves-unless None None = one_line (answering.refused_line refusal.DeadActor vs) (refused-line refusal.DeadActor vs)
  resolves-unless None (Some r) = resolves r

keeps : (e : End) (seq : ℤ) (name : List ℕ) → StaysPlain (answering.keep e seq name)
keeps e seq name output h =
    renames name (option_and_then (answering.kept_by e) (answering.handled_resolver e seq)) _
    (at_end (λ e. record e { stack = answering.released seq e.stack }) (λ e k. with-stack e (answering.released seq e.stack) (released-stack seq e.stack k.stack) k) _
    (one_line (what.Keep seq name) refl output h))

-- Names, closes and deaths

lets : (name : List ℕ) (id : ℤ) → StaysPlain (name_actor name id)
lets name id output h =
    renames name (if is_positive id then Some (actor id) else None) _ (one_line (what.Let name (if is_positive id then id else pos 0)) refl output h)

closes-unless : (refused : Option SendRefusal) → StaysPlain (close_unless refused)
closes-unless None output h = closes NormalShutdown _ (one_packet (message goodbye) refl _ (one_line what.Close refl output h))
closes-unless (Some cause) output h = one_line (what.RefusedClose cause) refl output h

dies : StaysPlain die
dies output h =
    at_end (λ e. record e { state = Dead; stack = []; arrived = [] }) (λ e k. record { arrived = tt; stack = tt; promises = k.promises; outbox = k.outbox }) _
    (if_open (put mark) (one_packet mark tt) _ (one_line what.Die refl output h))

-- Deliveries

arrives : (new : Item) → IsPlainItem new → (e : End) → IsPlainEnd e → IsPlainEnd (delivery.arrives new e)
arrives new p e h = record { arrived = all-append IsPlainItem e.arrived (new ∷ []) h.arrived (p, tt); stack = h.stack; promises = h.promises; outbox = h.outbox }

answered-stack : (a : Answer) → plain_answer a ≡ a → (stack : List StackEntry) → AllByRecursion IsPlainEntry stack
    → AllByRecursion IsPlainEntry (delivery.with_frames (with_answer a (map (λ (entry : StackEntry). entry.frame) stack)) stack)
answered-stack a p [] h = tt
answered-stack a p (entry ∷ stack) h = by entry.frame h.0 (answered-stack a p stack h.1)
  where
    by : (f : StackFrame) → plain_frame f ≡ f → AllByRecursion IsPlainEntry (delivery.with_frames (with_answer a (map (λ (entry : StackEntry). entry.frame) stack)) stack)
        → AllByRecursion IsPlainEntry (delivery.with_frames (with_answer a (f ∷ map (λ (entry : StackEntry). entry.frame) stack)) (record entry { frame = f } ∷ stack))
    by (Dispatch head) k rest = (k, rest)
    by (Wait head (Some b)) k rest = (k, rest)
    by (Wait head None) k rest = (ap (λ (x : Answer). Wait head (Some x)) p, subst (AllByRecursion IsPlainEntry) (sym (kept-frames stack)) h.1)

failed-entry : (entry : StackEntry) → IsPlainEntry entry → IsPlainEntry (delivery.with_failed_wait entry)
failed-entry entry h = by entry.frame h
  where
    by : (f : StackFrame) → plain_frame f ≡ f → plain_frame (delivery.failed f) ≡ delivery.failed f
    by (Dispatch head) k = refl
    by (Wait head None) k = refl
    by (Wait head (Some a)) k = k

ends : (last : Item) → IsPlainItem last → StaysPlain (delivery.ended last)
ends last p output h =
    at_end (λ e. record (delivery.arrives last e) { state = Draining; outbox = []; stack = map delivery.with_failed_wait e.stack })
    (λ e k. record { arrived = (arrives last p e k).arrived; stack = all-mapped IsPlainEntry IsPlainEntry delivery.with_failed_wait failed-entry e.stack k.stack; promises = k.promises; outbox = tt }) _
    (more_lines (map what.Fails (delivery.unanswered output.end)) (all-made IsPlainWhat what.Fails (λ seq. refl) (delivery.unanswered output.end)) output h)

replaces : (row : MessageRow) (old : Option Item) → StaysPlain (delivery.replacing row old)
replaces row None output h = h
replaces row (Some item.Broken) output h = h
replaces row (Some (item.Message old sync level)) output h =
    under (makes_promise row) (answered (request_answered old) (answer.Fault reason.ResolverDestroyed)) (answers (request_answered old) (answer.Fault reason.ResolverDestroyed) refl) _
    (one_line (what.Replaced old.seq) refl output h)

item-plain : (row : MessageRow) (m : Message) → IsPlainMessage m → IsPlainItem (delivery.item_of row m)
item-plain row m h = ap (delivery.item_of row) h

request-arrives : (m : Message) → IsPlainMessage m → (row : MessageRow) → StaysPlain (delivery.request_arrives m row)
request-arrives m p row output h =
    let new : Item = delivery.item_of row m in
    replaces row (replaced row.compress new output.end.arrived) _
    (at_end (delivery.counted row new)
    (λ e k. record {
      arrived = all-append IsPlainItem (staying row.compress new e.arrived) (new ∷ []) (all-sublist IsPlainItem (staying row.compress new e.arrived) e.arrived (staying-sublist row.compress new e.arrived) k.arrived) (item-plain row m p, tt);
      stack = k.stack;
      promises = k.promises;
      outbox = k.outbox;
    })
    output h)

reply-arrives : (m : Message) (a : Answer) → IsPlainMessage m → plain_answer a ≡ a → (row : MessageRow) → StaysPlain (delivery.reply_arrives m a row)
reply-arrives m a p q row = at_end (λ e. if is_sync_row row then delivery.answers_wait a e else delivery.arrives (delivery.item_of row m) e) (λ e k. by e k (is_sync_row row))
  where
    by : (e : End) → IsPlainEnd e → (b : Bool) → IsPlainEnd (if b then delivery.answers_wait a e else delivery.arrives (delivery.item_of row m) e)
    by e k true = with-stack e _ (answered-stack a q e.stack k.stack) k
    by e k false = arrives (delivery.item_of row m) (item-plain row m p) e k

body-delivered : (schema : Schema) (m : Message) → IsPlainMessage m → (b : Body) → plain_body b ≡ b → StaysPlain (delivery.body_delivered schema m b)
body-delivered schema m p (Request vs) q output h = by_row (delivery.request_arrives m) (message_of schema m.number) unchanged (request-arrives m p) stays _ (one_line (what.DeliverRequest m.seq) refl output h)
body-delivered schema m p (Reply vs) q output h =
    by_row (delivery.reply_arrives m (answer.Ok vs)) (message_of schema m.number) unchanged (reply-arrives m (answer.Ok vs) p (given-inside vs q)) stays _ (one_line (what.DeliverReply m.seq) refl output h)
body-delivered schema m p (Fault why) q output h =
    by_row (delivery.reply_arrives m (answer.Fault why)) (message_of schema m.number) unchanged (reply-arrives m (answer.Fault why) p refl) stays _ (one_line (what.DeliverReply m.seq) refl output h)
body-delivered schema m p Goodbye q output h = ends (item.Message m false Not) (ap (λ (x : Message). item.Message x false Not) p) _ (one_line what.DeliverGoodbye refl output h)

delivers : (schema : Schema) (packet : Packet) → IsPlainPacket packet → StaysPlain (delivery.deliver schema packet)
delivers schema (message m) p output h = body-delivered schema m p m.body (plain-inside m p) output h
delivers schema mark p output h = ends item.Broken refl _ (one_line what.DeliverBroken refl output h)

-- Takes

received-plain : (schema : Schema) (living : List Actor) (row : MessageRow) (a : Answer) → plain_answer a ≡ a → plain_answer (received schema living row a) ≡ received schema living row a
received-plain schema living row a h = sym (plain_forms_commute.received schema living row a) ∙ ap (received schema living row) h

nulled-plain : (schema : Schema) (living : List Actor) (fields : List ParamRow) (vs : Values) → plain_values vs ≡ vs → plain_values (nulled schema living fields vs) ≡ nulled schema living fields vs
nulled-plain schema living fields vs h = sym (plain_forms_commute.nulled schema living fields vs) ∙ ap (nulled schema living fields) h

outcome-plain : (a : Answer) → plain_outcome (take.outcome_of a) ≡ take.outcome_of (plain_answer a)
outcome-plain (answer.Ok vs) = refl
outcome-plain (answer.Fault why) = refl

settle-line : (seq : ℤ) (outcome : Outcome) → plain_what (take.settle_line seq outcome) ≡ take.settle_line seq (plain_outcome outcome)
settle-line seq (Resolved vs) = refl
settle-line seq (Rejected why) = refl

settled-one : (b : Bool) (outcome : Outcome) → plain_outcome outcome ≡ outcome → (entry : PromiseEntry) → IsPlainPromise entry → IsPlainPromise (record entry { promise = if b then record entry.promise { outcome = Some outcome } else entry.promise })
settled-one true outcome p entry h = ap (λ (x : Outcome). record entry.promise { outcome = Some x }) p
settled-one false outcome p entry h = h

settles : (seq : ℤ) (outcome : Outcome) → plain_outcome outcome ≡ outcome → StaysPlain (take.settles seq outcome)
settles seq outcome p output h =
    one_line (take.settle_line seq outcome) (settle-line seq outcome ∙ ap (take.settle_line seq) p) _
    (at_end (λ e. record e { promises = map (take.settled_entry seq outcome) e.promises })
    (λ e k. with-promises e _ (all-mapped IsPlainPromise IsPlainPromise (take.settled_entry seq outcome) (λ entry l. settled-one (has_number seq entry.promise && is_pending entry.promise) outcome p entry l) e.promises k.promises) k)
    output h)

reply-taken : (schema : Schema) (m : Message) (a : Answer) → plain_answer a ≡ a → (row : MessageRow) → StaysPlain (take.reply_taken schema m a row)
reply-taken schema m a p row output h =
    let given : Answer = received schema output.end.actors row a in
    under (take.is_awaited m.seq output.end.promises) (take.settles m.seq (take.outcome_of given))
    (settles m.seq (take.outcome_of given) (outcome-plain given ∙ ap take.outcome_of (received-plain schema output.end.actors row a p))) output h

drops : (row : MessageRow) (m : Message) (id : ℤ) → StaysPlain (take.dropped row m id)
drops row m id output h =
    under (is_sync_row row || makes_promise row) (answered (request_answered m) (answer.Fault reason.ActorDestroyed)) (answers (request_answered m) (answer.Fault reason.ActorDestroyed) refl) _
    (one_line (what.Drop m.seq m.route m.number id) refl output h)

handles : (row : MessageRow) (m : Message) (vs : Values) → plain_values vs ≡ vs → StaysPlain (take.handled row m vs)
handles row m vs p output h =
    builds_actor m.made m.route row.kind _
    (at_end (λ e. record e { stack = take.dispatch_of row m ∷ e.stack }) (λ e k. with-stack e (take.dispatch_of row m ∷ e.stack) (refl, k.stack) k) _
    (one_line (what.Take m.seq m.route m.number vs) (ap (what.Take m.seq m.route m.number) p) output h))

drops-or-handles : (found : Option ℤ) (row : MessageRow) (m : Message) (vs : Values) → plain_values vs ≡ vs → StaysPlain (take.dropped_or_handled found row m vs)
drops-or-handles None row m vs p = handles row m vs p
drops-or-handles (Some id) row m vs p = drops row m id

request-taken : (schema : Schema) (m : Message) (vs : Values) → plain_values vs ≡ vs → (row : MessageRow) → StaysPlain (take.request_taken schema m vs row)
request-taken schema m vs p row output h =
    drops-or-handles (take.dropped_for schema output.end row m vs) row m (nulled schema output.end.actors row.params vs) (nulled-plain schema output.end.actors row.params vs p) output h

body-taken : (schema : Schema) (m : Message) (b : Body) → plain_body b ≡ b → StaysPlain (take.body_taken schema m b)
body-taken schema m (Request vs) p output h =
    by_row (take.request_taken schema m vs) (message_of schema m.number) (line (what.Drop m.seq m.route m.number m.route)) (request-taken schema m vs (ap values-in p)) (one_line (what.Drop m.seq m.route m.number m.route) refl) output h
body-taken schema m (Reply vs) p output h =
    by_row (take.reply_taken schema m (answer.Ok vs)) (message_of schema m.number) unchanged (reply-taken schema m (answer.Ok vs) (given-inside vs p)) stays _ (one_line (what.TakeReply m.seq) refl output h)
body-taken schema m (Fault why) p output h =
    by_row (take.reply_taken schema m (answer.Fault why)) (message_of schema m.number) unchanged (reply-taken schema m (answer.Fault why) refl) stays _ (one_line (what.TakeReply m.seq) refl output h)
body-taken schema m Goodbye p output h = closes NormalShutdown _ (one_line what.ShutNormal refl output h)

item-taken : (schema : Schema) (x : Item) → IsPlainItem x → StaysPlain (take.item_taken schema x)
item-taken schema (item.Message m sync level) p output h = body-taken schema m m.body (plain-inside m (ap message-in p)) output h
item-taken schema item.Broken p output h = closes AbnormalShutdown _ (one_line what.ShutAbnormal refl output h)

takes : (schema : Schema) (x : Item) → IsPlainItem x → StaysPlain (take.take schema x)
takes schema x p output h =
    item-taken schema x p _
    (at_end (λ e. record e { arrived = without_first (is_free (take.deferral_context_of e)) e.arrived })
    (λ e k. record {
      arrived = all-sublist IsPlainItem (without_first (is_free (take.deferral_context_of e)) e.arrived) e.arrived (without_first-sublist (is_free (take.deferral_context_of e)) e.arrived) k.arrived;
      stack = k.stack;
      promises = k.promises;
      outbox = k.outbox;
    })
    output h)

-- Returns

pops : StaysPlain return.popped
pops = at_end (λ e. record e { stack = drop 1 e.stack }) (λ e k. with-stack e (drop 1 e.stack) (all-drop IsPlainEntry e.stack k.stack) k)

given-plain : (schema : Schema) (e : End) (row : MessageRow) (entry : StackEntry) (vs : Option Values) → option_map plain_values vs ≡ vs → plain_answer (return.given_answer schema e row entry vs) ≡ return.given_answer schema e row entry vs
given-plain schema e row entry None p = refl
given-plain schema e row entry (Some vs) p = by (return.is_bad_return schema e row entry vs)
  where
    by : (b : Bool) → plain_answer (if b then answer.Fault reason.HandlerRejected else answer.Ok vs) ≡ (if b then answer.Fault reason.HandlerRejected else answer.Ok vs)
    by true = refl
    by false = ap (λ (x : Option Values). answer.Ok (given-values x)) p

return-plain : (schema : Schema) (e : End) (row : MessageRow) (entry : StackEntry) (vs : Option Values) → option_map plain_values vs ≡ vs → plain_answer (return.return_answer schema e row entry vs) ≡ return.return_answer schema e row entry vs
return-plain schema e row entry vs p = by (is_none row.returns)
  where
    given : plain_answer (return.given_answer schema e row entry vs) ≡ return.given_answer schema e row entry vs
    given = given-plain schema e row entry vs p

    by : (b : Bool) → plain_answer (if b then answer.Ok Nothing else return.given_answer schema e row entry vs) ≡ (if b then answer.Ok Nothing else return.given_answer schema e row entry vs)
    by true = refl
    by false = given

returns : (schema : Schema) (e : End) (row : MessageRow) (entry : StackEntry) (vs : Option Values) → option_map plain_values vs ≡ vs → StaysPlain (return.return schema e row entry vs)
returns schema e row entry vs p output h =
    let given : Answer = return.return_answer schema e row entry vs in
    deletes_actor entry.route row.kind _
    (under entry.resolves (destroyed (answering.resolver_in entry)) (lets_resolver_go (answering.resolver_in entry)) _
    (under (is_sync_row row) (answered (return.dispatch_answered entry) given) (answers (return.dispatch_answered entry) given (return-plain schema e row entry vs p)) _
    (one_line (what.Return (head_of entry.frame).seq) refl _ (pops output h))))

-- the answer of the wait on top is plain
answer-on-top : (stack : List StackEntry) (wait : return.AnsweredWait) → AllByRecursion IsPlainEntry stack → return.answered_wait_on_top stack ≡ Some wait → plain_answer wait.given ≡ wait.given
answer-on-top [] wait h is = cc
answer-on-top (entry ∷ below) wait h is = by entry.frame h.0 is
  where
    by : (f : StackFrame) → plain_frame f ≡ f → return.answered_wait_of entry.number f ≡ Some wait → plain_answer wait.given ≡ wait.given
    by (Dispatch head) k is = cc
    by (Wait head None) k is = cc
    by (Wait head (Some a)) k is = subst (λ (w : return.AnsweredWait). plain_answer w.given ≡ w.given) (same_Some _ wait is) (ap answer-in k)

resume-line : (seq : ℤ) (a : Answer) → plain_what (return.resume_line seq a) ≡ return.resume_line seq (plain_answer a)
resume-line seq (answer.Ok vs) = refl
resume-line seq (answer.Fault why) = refl

resumes : (schema : Schema) (e : End) (wait : return.AnsweredWait) (row : MessageRow) → plain_answer wait.given ≡ wait.given → StaysPlain (return.resume schema e wait row)
resumes schema e wait row p output h =
    let given : Answer = received schema e.actors row wait.given in
    one_line (return.resume_line wait.seq given) (resume-line wait.seq given ∙ ap (return.resume_line wait.seq) (received-plain schema e.actors row wait.given p)) _ (pops output h)

flushes : StaysPlain return.flush
flushes output h =
    one_line (what.Flush (length output.end.outbox)) refl _
    (record {
      end = record { arrived = h.end.arrived; stack = h.end.stack; promises = h.end.promises; outbox = tt };
      lines = h.lines;
      packets = all-append IsPlainPacket output.packets (map message output.end.outbox) h.packets (sent-packets output.end.outbox h.end.outbox);
    })

-- Steps

first-plain : (link : List Packet) (packet : Packet) → AllByRecursion IsPlainPacket link → first_packet link ≡ Some packet → IsPlainPacket packet
first-plain [] packet h is = cc
first-plain (first ∷ rest) packet h is = subst IsPlainPacket (same_Some first packet is) h.0

-- a step that is possible leaves all plain where its change does
provided-plain : (e : End) (output : Output) → IsPlainEnd e → (b : Bool) (change : Change) → StaysPlain change → provided b change e ≡ Some output → IsPlainOutput output
provided-plain e output h b change f is = provided-gives IsPlainOutput b change e output (λ may. f (beginning e) (begins e h)) is

pub steps_stay_plain : StepsStayPlain
steps_stay_plain schema e link (event.send route number vs name) output is h links p =
    found-gives IsPlainOutput (request_row schema number) (λ (row : MessageRow). provided (send.may_send schema e row vs name) (send.send schema e row route vs name) e) output
    (λ row found made.
    let m : Message = send.request_of e row route vs in
    provided-plain e output h (send.may_send schema e row vs name) (send.send schema e row route vs name) (sends-unless row m vs name (ap (send.request_of e row route) p) p (send.send_refusal schema e row route vs)) made)
    is
steps_stay_plain schema e link (event.answer by vs) output is h links p =
    found-gives IsPlainOutput (answering.answered_row schema e by) (λ (row : MessageRow). provided (answering.may_answer schema e row vs) (answering.answer schema e row by vs) e) output
    (λ row found made.
    provided-plain e output h (answering.may_answer schema e row vs) (answering.answer schema e row by vs) (resolves-unless by vs p (answering.answer_refusal schema e row by vs) (answering.resolver_used e by)) made)
    is
steps_stay_plain schema e link (event.keep seq name) output is h links p = provided-plain e output h (answering.may_keep e seq) (answering.keep e seq name) (keeps e seq name) is
steps_stay_plain schema e link (event.name name id) output is h links p = provided-plain e output h (send.may_act e) (name_actor name id) (lets name id) is
steps_stay_plain schema e link event.close output is h links p = provided-plain e output h (send.may_act e) (close e) (closes-unless (close_refusal e)) is
steps_stay_plain schema e link event.die output is h links p = provided-plain e output h (may_die e) die dies is
steps_stay_plain schema e link event.deliver output is h links p =
    found-gives IsPlainOutput (first_packet link) (λ (packet : Packet). provided (is_open e.state) (delivery.deliver schema packet) e) output
    (λ packet first made. provided-plain e output h (is_open e.state) (delivery.deliver schema packet) (delivers schema packet (first-plain link packet links first)) made) is
steps_stay_plain schema e link event.take output is h links p =
    found-gives IsPlainOutput (take.taken_next e) (λ (x : Item). provided true (take.take schema x) e) output
    (λ x next made. provided-plain e output h true (take.take schema x) (takes schema x (found-in IsPlainItem (is_free (take.deferral_context_of e)) e.arrived x h.arrived (taken-first e x next)).0) made) is
steps_stay_plain schema e link (event.return vs) output is h links p =
    found-gives IsPlainOutput (return.dispatch_on_top e.stack)
    (λ (entry : StackEntry). option_and_then (λ (row : MessageRow). provided (return.may_return schema row vs) (return.return schema e row entry vs) e) (request_row schema entry.number)) output
    (λ entry top more.
    found-gives IsPlainOutput (request_row schema entry.number) (λ (row : MessageRow). provided (return.may_return schema row vs) (return.return schema e row entry vs) e) output
    (λ row found made. provided-plain e output h (return.may_return schema row vs) (return.return schema e row entry vs) (returns schema e row entry vs p) made) more)
    is
steps_stay_plain schema e link event.resume output is h links p =
    found-gives IsPlainOutput (return.answered_wait_on_top e.stack) (λ (wait : return.AnsweredWait). option_and_then (λ (row : MessageRow). provided true (return.resume schema e wait row) e) (request_row schema wait.number)) output
    (λ wait top more.
    found-gives IsPlainOutput (request_row schema wait.number) (λ (row : MessageRow). provided true (return.resume schema e wait row) e) output
    (λ row found made. provided-plain e output h true (return.resume schema e wait row) (resumes schema e wait row (answer-on-top e.stack wait h.stack top)) made) more)
    is
steps_stay_plain schema e link event.flush output is h links p = provided-plain e output h (return.may_flush e) return.flush flushes is
