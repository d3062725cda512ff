-- The parts that steps are made of: each keeps what is plain so.
use Rattle.std.proofs.Common.{◌≡◌, ℕ, ℤ, Bool, true, false, cond, List, [], ◌∷◌, ◌++◌, filter, flat_map, map, Option, Some, None, refl, ap, ◌∙◌}
use Rattle.std.specs.List.{AllByRecursion}
use Rattle.std.specs.Option.{option_map_or}
use Rattle.std.proofs.lemmas.List.{map-append}
use Rattle.actor_tree.specs.declared.actor.Actor.{Actor}
use Rattle.actor_tree.specs.Fall.{post_order, others}
use Rattle.actor_tree.specs.Tree.{lives}
use Rattle.ipdl_base.specs.declared.kinds.Destroy.{Destroy}
use Rattle.ipdl_base.specs.declared.kinds.EndState.TheVariants.{Closed}
use Rattle.ipdl_base.specs.declared.kinds.Reason.{Reason}
use Rattle.ipdl_base.specs.declared.kinds.Reason.TheVariants as reason
use Rattle.ipdl_base.specs.declared.line.Line.{Line}
use Rattle.ipdl_base.specs.declared.line.What.{What}
use Rattle.ipdl_base.specs.declared.line.What.TheVariants as what
use Rattle.ipdl_base.specs.declared.message.Message.{Message}
use Rattle.ipdl_base.specs.declared.schema.Kind.{Kind}
use Rattle.ipdl_base.specs.declared.schema.Kind.TheVariants.{Normal, Constructor, Delete}
use Rattle.ipdl_base.specs.declared.schema.MessageRow.{MessageRow}
use Rattle.ipdl_base.specs.Plain.{plain_message}
use Rattle.nesting_core.specs.declared.frame.Answer.{Answer}
use Rattle.nesting_core.specs.declared.frame.Answer.TheVariants as answer
use Rattle.nesting_core.specs.Plain.{plain_answer}
use Rattle.promise_table.specs.declared.promise.Promise.{Promise}
use Rattle.promise_table.specs.Promises.{is_pending_of}
use Rattle.channel_model.specs.Answers.{has_resolver, released}
use Rattle.channel_model.specs.Ends.{End, NameContent, Naming, Packet, PromiseEntry, Resolver, StackEntry, actor, message, resolver}
use Rattle.channel_model.specs.Falls.{abandoned, closed, deletes, fall_lines, fallen, passes, rejected, rejected_entry, rejections, why_deleted}
use Rattle.channel_model.specs.Names.{held_by_name, holding, let_go, renamed, without_name, without_resolvers}
use Rattle.ipdl_base.specs.Sides.{top_id}
use Rattle.channel_model.specs.Outputs.{AnsweredRequest, Change, Output, answer_line, answered, beginning, body_of, destroyed, is_open, line, line_at, lines, on_end, put, reply_to, resolver_answered, unchanged, when, when_open, ◌▷◌}
use Rattle.channel_model.specs.Sends.{built, constructs}
use Rattle.channel_model.proofs.Known.{all-append}
use Rattle.end_parts.specs.PlainLines.{plain_line, plain_what}
use Rattle.plain_runs.specs.PlainEnds.{ArePlainLines, IsPlainEnd, IsPlainEntry, IsPlainMessage, IsPlainOutput, IsPlainPacket, IsPlainPromise}

-- Lists

pub all-mapped : {A B : Type 0} (P : A → Type 0) (Q : B → Type 0) (f : A → B) → ((x : A) → P x → Q (f x)) → (xs : List A) → AllByRecursion P xs → AllByRecursion Q (map f xs)
all-mapped P Q f h [] k = tt
all-mapped P Q f h (x ∷ xs) k = (h x k.0, all-mapped P Q f h xs k.1)

pub all-made : {A B : Type 0} (Q : B → Type 0) (f : A → B) → ((x : A) → Q (f x)) → (xs : List A) → AllByRecursion Q (map f xs)
all-made Q f h [] = tt
all-made Q f h (x ∷ xs) = (h x, all-made Q f h xs)

all-gathered : {A B : Type 0} (Q : B → Type 0) (f : A → List B) → ((x : A) → AllByRecursion Q (f x)) → (xs : List A) → AllByRecursion Q (flat_map f xs)
all-gathered Q f h [] = tt
all-gathered Q f h (x ∷ xs) = all-append Q (f x) (flat_map f xs) (h x) (all-gathered Q f h xs)

pub lines-append : (xs ys : List Line) → ArePlainLines xs → ArePlainLines ys → ArePlainLines (xs ++ ys)
lines-append xs ys h k = map-append plain_line xs ys ∙ (λ i. h i ++ k i)

-- Parts in general

-- what a line says is plain
abbrev pub IsPlainWhat : What → Type 0
IsPlainWhat w = plain_what w ≡ w

-- a part keeps what is plain so
abbrev pub StaysPlain : Change → Type 0
StaysPlain change = (output : Output) → IsPlainOutput output → IsPlainOutput (change output)

-- an end that was plain is plain after a change
abbrev pub EndStays : (End → End) → Type 0
EndStays change = (e : End) → IsPlainEnd e → IsPlainEnd (change e)

pub begins : (e : End) → IsPlainEnd e → IsPlainOutput (beginning e)
begins e h = record { end = h; lines = refl; packets = tt }

pub stays : StaysPlain unchanged
stays output h = h

pub both : (first second : Change) → StaysPlain first → StaysPlain second → StaysPlain (first ▷ second)
both first second f s output h = s (first output) (f output h)

pub under : (b : Bool) (change : Change) → StaysPlain change → StaysPlain (when b change)
under true change f output h = f output h
under false change f output h = h

pub if_open : (change : Change) → StaysPlain change → StaysPlain (when_open change)
if_open change f output h = under (is_open output.end.state) change f output h

pub at_end : (change : End → End) → EndStays change → StaysPlain (on_end change)
at_end change f output h = record { end = f output.end h.end; lines = h.lines; packets = h.packets }

pub one_line : (w : What) → IsPlainWhat w → StaysPlain (line w)
one_line w e output h = record {
  end = h.end;
  lines = lines-append output.lines (line_at output.end.side w ∷ []) h.lines (ap (λ (x : What). line_at output.end.side x ∷ []) e);
  packets = h.packets;
}

plain-whats : (side : _) (ws : List What) → AllByRecursion IsPlainWhat ws → ArePlainLines (map (line_at side) ws)
plain-whats side [] h = refl
plain-whats side (w ∷ ws) h = λ i. line_at side (h.0 i) ∷ plain-whats side ws h.1 i

pub more_lines : (ws : List What) → AllByRecursion IsPlainWhat ws → StaysPlain (lines ws)
more_lines ws e output h = record {
  end = h.end;
  lines = lines-append output.lines (map (line_at output.end.side) ws) h.lines (plain-whats output.end.side ws e);
  packets = h.packets;
}

pub sent-packets : (ms : List Message) → AllByRecursion IsPlainMessage ms → AllByRecursion IsPlainPacket (map message ms)
sent-packets ms h = all-mapped IsPlainMessage IsPlainPacket message (λ m k. k) ms h

pub one_packet : (packet : Packet) → IsPlainPacket packet → StaysPlain (put packet)
one_packet packet p output h = record {
  end = record { arrived = h.end.arrived; stack = h.end.stack; promises = h.end.promises; outbox = tt };
  lines = h.lines;
  packets = all-append IsPlainPacket (output.packets ++ map message output.end.outbox) (packet ∷ [])
      (all-append IsPlainPacket output.packets (map message output.end.outbox) h.packets (sent-packets output.end.outbox h.end.outbox)) (p, tt);
}

pub by_row : (change : MessageRow → Change) (found : Option MessageRow) (otherwise : Change) → ((row : MessageRow) → StaysPlain (change row)) → StaysPlain otherwise → StaysPlain (option_map_or change found otherwise)
by_row change None otherwise f o output h = o output h
by_row change (Some row) otherwise f o output h = f row output h

-- Ends

pub with-stack : (e : End) (stack : List StackEntry) → AllByRecursion IsPlainEntry stack → IsPlainEnd e → IsPlainEnd (record e { stack = stack })
with-stack e stack k h = record { arrived = h.arrived; stack = k; promises = h.promises; outbox = h.outbox }

pub with-promises : (e : End) (promises : List PromiseEntry) → AllByRecursion IsPlainPromise promises → IsPlainEnd e → IsPlainEnd (record e { promises = promises })
with-promises e promises k h = record { arrived = h.arrived; stack = h.stack; promises = k; outbox = h.outbox }

-- Answers

plain-answer-line : (seq : ℤ) (a : Answer) → plain_what (answer_line seq a) ≡ answer_line seq (plain_answer a)
plain-answer-line seq (answer.Ok vs) = refl
plain-answer-line seq (answer.Fault why) = refl

plain-reply : (q : AnsweredRequest) (a : Answer) → plain_message (reply_to q (body_of a)) ≡ reply_to q (body_of (plain_answer a))
plain-reply q (answer.Ok vs) = refl
plain-reply q (answer.Fault why) = refl

pub answers : (q : AnsweredRequest) (a : Answer) → plain_answer a ≡ a → StaysPlain (answered q a)
answers q a e =
    if_open (line (answer_line q.seq a) ▷ put (message (reply_to q (body_of a))))
    (both (line (answer_line q.seq a)) (put (message (reply_to q (body_of a))))
    (one_line (answer_line q.seq a) (plain-answer-line q.seq a ∙ ap (answer_line q.seq) e))
    (one_packet (message (reply_to q (body_of a))) (plain-reply q a ∙ ap (λ (x : Answer). reply_to q (body_of x)) e)))

pub lets_resolver_go : (r : Resolver) → StaysPlain (destroyed r)
lets_resolver_go r = answers (resolver_answered r) (answer.Fault reason.ResolverDestroyed) refl

released-entry : (b : Bool) (entry : StackEntry) → IsPlainEntry entry → IsPlainEntry (cond b (record entry { resolves = false }) entry)
released-entry true entry h = h
released-entry false entry h = h

pub released-stack : (seq : ℤ) (stack : List StackEntry) → AllByRecursion IsPlainEntry stack → AllByRecursion IsPlainEntry (released seq stack)
released-stack seq stack h =
    all-mapped IsPlainEntry IsPlainEntry (λ (entry : StackEntry). cond (has_resolver seq entry) (record entry { resolves = false }) entry) (λ entry k. released-entry (has_resolver seq entry) entry k) stack h

-- Names

lets_go : (content : Option NameContent) → StaysPlain (let_go content)
lets_go None = stays
lets_go (Some (actor id)) = stays
lets_go (Some (resolver r)) = lets_resolver_go r

with-names : (e : End) (names : List Naming) → IsPlainEnd e → IsPlainEnd (record e { names = names })
with-names e names h = record { arrived = h.arrived; stack = h.stack; promises = h.promises; outbox = h.outbox }

pub without-a-name : (name : List ℕ) → EndStays (λ e. record e { names = without_name name e.names })
without-a-name name e h = with-names e (without_name name e.names) h

pub renames : (name : List ℕ) (holds : Option NameContent) → StaysPlain (renamed name holds)
renames name holds output h =
    let before : Option NameContent = held_by_name name output.end.names in
    both (on_end (λ e. record e { names = without_name name e.names })) (let_go before ▷ on_end (λ e. record e { names = e.names ++ holding name holds }))
    (at_end (λ e. record e { names = without_name name e.names }) (without-a-name name))
    (both (let_go before) (on_end (λ e. record e { names = e.names ++ holding name holds })) (lets_go before) (at_end (λ e. record e { names = e.names ++ holding name holds }) (λ e k. with-names e (e.names ++ holding name holds) k)))
    output h

-- Actors

builds : (id : ℤ) (protocol : ℕ) (manager : ℤ) → StaysPlain (built id protocol manager)
builds id protocol manager output h = one_line (what.Built id protocol) refl _ (record { end = record { arrived = h.end.arrived; stack = h.end.stack; promises = h.end.promises; outbox = h.end.outbox }; lines = h.lines; packets = h.packets })

pub builds_actor : (id route : ℤ) (kind : Kind) → StaysPlain (constructs id route kind)
builds_actor id route Normal = stays
builds_actor id route (Constructor protocol) = builds id protocol route
builds_actor id route Delete = stays

rejected-lines : (test : Promise → Bool) (why : Reason) (promises : List PromiseEntry) → AllByRecursion IsPlainWhat (rejections test why promises)
rejected-lines test why promises = all-made IsPlainWhat (λ (entry : PromiseEntry). what.Rejected entry.promise.seq why) (λ entry. refl) (filter (passes test) promises)

rejected-one : (b : Bool) (why : Reason) (entry : PromiseEntry) → IsPlainPromise entry → IsPlainPromise (cond b (rejected_entry why entry) entry)
rejected-one true why entry h = refl
rejected-one false why entry h = h

rejected-promises : (test : Promise → Bool) (why : Reason) (promises : List PromiseEntry) → AllByRecursion IsPlainPromise promises → AllByRecursion IsPlainPromise (rejected test why promises)
rejected-promises test why promises h =
    all-mapped IsPlainPromise IsPlainPromise (λ (entry : PromiseEntry). cond (passes test entry) (rejected_entry why entry) entry) (λ entry k. rejected-one (passes test entry) why entry k) promises h

falls : (id : ℤ) (why : ℤ → Destroy) → StaysPlain (fallen id why)
falls id why output h =
    let falling : List Actor = post_order id output.end.actors in
    let promises : List PromiseEntry = output.end.promises in
    let whats : List What = flat_map (fall_lines why promises) falling in
    let change : End → End = λ e. record e { actors = others falling e.actors; promises = rejected (λ p. lives p.actor falling) reason.ActorDestroyed e.promises } in
    both (lines whats) (on_end change)
    (more_lines whats
    (all-gathered IsPlainWhat (fall_lines why promises)
    (λ a. all-append IsPlainWhat (rejections (is_pending_of a.id) reason.ActorDestroyed promises) (what.Fall a.id (why a.id) ∷ []) (rejected-lines (is_pending_of a.id) reason.ActorDestroyed promises) (refl, tt)) falling))
    (at_end change (λ e k. record { arrived = k.arrived; stack = k.stack; promises = rejected-promises (λ p. lives p.actor falling) reason.ActorDestroyed e.promises k.promises; outbox = k.outbox }))
    output h

pub deletes_actor : (route : ℤ) (kind : Kind) → StaysPlain (deletes route kind)
deletes_actor route Normal = stays
deletes_actor route (Constructor protocol) = stays
deletes_actor route Delete = falls route (why_deleted route)

abandons : StaysPlain abandoned
abandons output h =
    let whats : List What = rejections (λ p. true) reason.ChannelClosed output.end.promises in
    let change : End → End = λ e. record e { promises = rejected (λ p. true) reason.ChannelClosed e.promises } in
    both (lines whats) (on_end change) (more_lines whats (rejected-lines (λ p. true) reason.ChannelClosed output.end.promises))
    (at_end change (λ e k. with-promises e (rejected (λ p. true) reason.ChannelClosed e.promises) (rejected-promises (λ p. true) reason.ChannelClosed e.promises k.promises) k))
    output h

pub closes : (why : Destroy) → StaysPlain (closed why)
closes why =
    let change : End → End = λ e. record e { state = Closed; arrived = []; names = without_resolvers e.names } in
    both abandoned (fallen top_id (λ id. why) ▷ on_end change) abandons
    (both (fallen top_id (λ id. why)) (on_end change) (falls top_id (λ id. why)) (at_end change (λ e k. record { arrived = tt; stack = k.stack; promises = k.promises; outbox = k.outbox })))
