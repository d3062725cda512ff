-- The effects that an event must have.
use Rattle.std.proofs.Common.{◌≡◌, inl, inr, ℕ, ◌+◌, ℤ, pos, Bool, true, false, not, ◌&&◌, cond, if◌then◌else◌, List, [], ◌∷◌, ◌++◌, find, map, Option, Some, None, option_and_then, refl, sym, ap, subst, ◌∙◌, append_assoc}
use Rattle.std.specs.List.{AllByRecursion, flat_map}
use Rattle.std.specs.Option.{option_map_or}
use Rattle.std.proofs.lemmas.List.{append-nil, map-append}
use Rattle.std.proofs.lemmas.Option.{same_Some}
use Rattle.actor_tree.specs.declared.actor.Actor.{Actor}
use Rattle.actor_tree.specs.Fall.{below, post_order, others}
use Rattle.actor_tree.specs.Tree.{lives}
use Rattle.actor_tree.proofs.Below.{post_order-same, post_order-other}
use Rattle.actor_tree.proofs.Ids.{Has, has_not, lives-true, lives-false, Has-last, same_or_other}
use Rattle.ipdl_base.specs.declared.kinds.EndState.{EndState}
use Rattle.ipdl_base.specs.declared.kinds.Level.{Level}
use Rattle.ipdl_base.specs.declared.kinds.Reason.TheVariants.{ActorDestroyed, ResolverDestroyed}
use Rattle.ipdl_base.specs.declared.kinds.SendRefusal.{SendRefusal}
use Rattle.ipdl_base.specs.declared.kinds.Side.{Side}
use Rattle.ipdl_base.specs.declared.line.Line.{Line}
use Rattle.ipdl_base.specs.declared.line.What.{What}
use Rattle.ipdl_base.specs.declared.line.What.TheVariants as what
use Rattle.ipdl_base.specs.declared.message.Body.{Body}
use Rattle.ipdl_base.specs.declared.message.Body.TheVariants.{Request}
use Rattle.ipdl_base.specs.declared.message.Message.{Message}
use Rattle.ipdl_base.specs.declared.schema.Kind.{Kind}
use Rattle.ipdl_base.specs.declared.schema.Kind.TheVariants.{Normal, Constructor, Delete}
use Rattle.ipdl_base.specs.declared.schema.MessageRow.{MessageRow}
use Rattle.ipdl_base.specs.declared.schema.Schema.{Schema}
use Rattle.ipdl_base.specs.declared.value.Values.{Values}
use Rattle.ipdl_base.specs.Sound.{message_of}
use Rattle.nesting_core.specs.declared.frame.Answer.{Answer}
use Rattle.nesting_core.specs.declared.frame.Answer.TheVariants as answer
use Rattle.nesting_core.specs.Frames.{head_of}
use Rattle.pending_queue.specs.declared.item.Item.{Item}
use Rattle.pending_queue.specs.declared.item.Item.TheVariants as item
use Rattle.pending_queue.specs.Compression.{replaced}
use Rattle.promise_table.specs.declared.promise.Outcome.{Outcome}
use Rattle.promise_table.specs.Promises.{has_number, is_pending}
use Rattle.channel_model.specs.Acts as acts
use Rattle.channel_model.specs.Answers as answering
use Rattle.channel_model.specs.Deliveries as delivery
use Rattle.channel_model.specs.Ends.{End, Packet, message, StackEntry, PromiseEntry, Naming, NameContent, actor, resolver, Resolver}
use Rattle.channel_model.specs.Events as event
use Rattle.channel_model.specs.Falls as falls
use Rattle.channel_model.specs.Names.{held_by_name, let_go, renamed, without_name}
use Rattle.channel_model.specs.Numbers.{request_row, is_sync_row, makes_promise, counting}
use Rattle.channel_model.specs.Outputs.{Output, Change, ◌▷◌, beginning, unchanged, is_open, line_at, when, on_end, line, put, AnsweredRequest, request_answered, resolver_answered, answered, answer_line, body_of, reply_to}
use Rattle.channel_model.specs.Parts.{left_end, reply_lines, reply_packets, end_after, owes_reply, reply_outcome}
use Rattle.channel_model.specs.Returns as returns
use Rattle.channel_model.specs.Sends as sends
use Rattle.channel_model.specs.Steps.{step, provided, first_packet}
use Rattle.channel_model.specs.Takes as takes
use Rattle.channel_model.specs.ValueActors.{nulled}
use Rattle.channel_model.proofs.Provided.{provided-gives}
use Rattle.order_laws.specs.DueEffects.{HasLines, TakesRequest, SendsRequest, IsDeleted, DestructorsDelete, let_go_lines, let_go_packets, held_by, Builds, ConstructorsBuild, outcome_in, RepliesSettle, deleted_lines, DueAnswersAreGiven}
use Rattle.order_laws.proofs.Takes.{step-taken}

-- Answers

abbrev gives : AnsweredRequest → Answer → Change
gives q a = line (answer_line q.seq a) ▷ put (message (reply_to q (body_of a)))

module _ (q : AnsweredRequest) (a : Answer) (o : Output) where
  given-lines : (c : Bool) → (when c (gives q a) o).lines ≡ o.lines ++ map (line_at o.end.side) (reply_lines c q a)
  given-lines true = refl
  given-lines false = sym (append-nil o.lines)

  given-packets : (c : Bool) → (when c (gives q a) o).packets ≡ o.packets ++ reply_packets c o.end q a
  given-packets true = append_assoc o.packets (map message o.end.outbox) (message (reply_to q (body_of a)) ∷ [])
  given-packets false = sym (append-nil o.packets)

  answered-lines : (b : Bool) → (when b (answered q a) o).lines ≡ o.lines ++ map (line_at o.end.side) (reply_lines (is_open o.end.state && b) q a)
  answered-lines true = by (is_open o.end.state)
    where
      by : (c : Bool) → (when c (gives q a) o).lines ≡ o.lines ++ map (line_at o.end.side) (reply_lines (c && true) q a)
      by true = refl
      by false = sym (append-nil o.lines)
  answered-lines false = by (is_open o.end.state)
    where
      by : (c : Bool) → o.lines ≡ o.lines ++ map (line_at o.end.side) (reply_lines (c && false) q a)
      by true = sym (append-nil o.lines)
      by false = sym (append-nil o.lines)

  answered-packets : (b : Bool) → (when b (answered q a) o).packets ≡ o.packets ++ reply_packets (is_open o.end.state && b) o.end q a
  answered-packets true = by (is_open o.end.state)
    where
      by : (c : Bool) → (when c (gives q a) o).packets ≡ o.packets ++ reply_packets (c && true) o.end q a
      by true = append_assoc o.packets (map message o.end.outbox) (message (reply_to q (body_of a)) ∷ [])
      by false = sym (append-nil o.packets)
  answered-packets false = by (is_open o.end.state)
    where
      by : (c : Bool) → o.packets ≡ o.packets ++ reply_packets (c && false) o.end q a
      by true = sym (append-nil o.packets)
      by false = sym (append-nil o.packets)

  answered-end : (b : Bool) → (when b (answered q a) o).end ≡ end_after (is_open o.end.state && b) o.end
  answered-end true = by (is_open o.end.state)
    where
      by : (c : Bool) → (when c (gives q a) o).end ≡ end_after (c && true) o.end
      by true = refl
      by false = refl
  answered-end false = by (is_open o.end.state)
    where
      by : (c : Bool) → o.end ≡ end_after (c && false) o.end
      by true = refl
      by false = refl

-- Names

module _ (name : List ℕ) (holds : Option NameContent) (o : Output) where
  renamed-lines : (renamed name holds o).lines ≡ o.lines ++ map (line_at o.end.side) (let_go_lines (is_open o.end.state) (held_by_name name o.end.names))
  renamed-lines = by (held_by_name name o.end.names)
    where
      by : (held : Option NameContent) → (let_go held (on_end (λ e. record e { names = without_name name e.names }) o)).lines ≡ o.lines ++ map (line_at o.end.side) (let_go_lines (is_open o.end.state) held)
      by None = sym (append-nil o.lines)
      by (Some (actor id)) = sym (append-nil o.lines)
      by (Some (resolver r)) = given-lines (resolver_answered r) (answer.Fault ResolverDestroyed) (on_end (λ e. record e { names = without_name name e.names }) o) (is_open o.end.state)

  renamed-packets : (renamed name holds o).packets ≡ o.packets ++ let_go_packets (is_open o.end.state) o.end (held_by_name name o.end.names)
  renamed-packets = by (held_by_name name o.end.names) (is_open o.end.state) refl
    where
      opened : (r : Resolver) (c : Bool) → (when c (gives (resolver_answered r) (answer.Fault ResolverDestroyed)) (on_end (λ e. record e { names = without_name name e.names }) o)).packets ≡ o.packets ++ reply_packets c o.end (resolver_answered r) (answer.Fault ResolverDestroyed)
      opened r true = append_assoc o.packets (map message o.end.outbox) (message (reply_to (resolver_answered r) (body_of (answer.Fault ResolverDestroyed))) ∷ [])
      opened r false = sym (append-nil o.packets)

      by : (held : Option NameContent) (c : Bool) → is_open o.end.state ≡ c → (let_go held (on_end (λ e. record e { names = without_name name e.names }) o)).packets ≡ o.packets ++ let_go_packets (is_open o.end.state) o.end held
      by None c is = sym (append-nil o.packets)
      by (Some (actor id)) c is = sym (append-nil o.packets)
      by (Some (resolver r)) c is = opened r (is_open o.end.state)

  renamed-actors : (renamed name holds o).end.actors ≡ o.end.actors
  renamed-actors = by (held_by_name name o.end.names)
    where
      opened : (r : Resolver) (c : Bool) → (when c (gives (resolver_answered r) (answer.Fault ResolverDestroyed)) (on_end (λ e. record e { names = without_name name e.names }) o)).end.actors ≡ o.end.actors
      opened r true = refl
      opened r false = refl

      by : (held : Option NameContent) → (let_go held (on_end (λ e. record e { names = without_name name e.names }) o)).end.actors ≡ o.end.actors
      by None = refl
      by (Some (actor id)) = refl
      by (Some (resolver r)) = opened r (is_open o.end.state)

  renamed-side : (renamed name holds o).end.side ≡ o.end.side
  renamed-side = by (held_by_name name o.end.names)
    where
      opened : (r : Resolver) (c : Bool) → (when c (gives (resolver_answered r) (answer.Fault ResolverDestroyed)) (on_end (λ e. record e { names = without_name name e.names }) o)).end.side ≡ o.end.side
      opened r true = refl
      opened r false = refl

      by : (held : Option NameContent) → (let_go held (on_end (λ e. record e { names = without_name name e.names }) o)).end.side ≡ o.end.side
      by None = refl
      by (Some (actor id)) = refl
      by (Some (resolver r)) = opened r (is_open o.end.state)

-- Actors that fall

from-others : (fallen xs : List Actor) (id : ℤ) → Has id (others fallen xs) → Has id xs × (lives id fallen ≡ false)
from-others fallen [] id h = absurd h
from-others fallen (x ∷ xs) id h = by (lives x.id fallen) refl h (from-others fallen xs id)
  where
    by : (b : Bool) → lives x.id fallen ≡ b → Has id (cond (not b) (x ∷ others fallen xs) (others fallen xs)) → (Has id (others fallen xs) → Has id xs × (lives id fallen ≡ false)) → Has id (x ∷ xs) × (lives id fallen ≡ false)
    by true is h rec = let r = rec h in (inr r.0, r.1)
    by false is (inl e) rec = (inl e, subst (λ (i : ℤ). lives i fallen ≡ false) e is)
    by false is (inr h) rec = let r = rec h in (inr r.0, r.1)

not-first : (id : ℤ) (x : Actor) (xs : List Actor) → (x.id ≡ id → ⊥) → Has id (x ∷ xs) → Has id xs
not-first id x xs n (inl e) = absurd (n e)
not-first id x xs n (inr k) = k

root-falls : (id : ℤ) (xs : List Actor) → Has id xs → Has id (post_order id xs)
root-falls id [] h = absurd h
root-falls id (x ∷ xs) h = elim (same_or_other x.id id) [
  | inl e ↦ subst (Has id) (sym (post_order-same id x xs e)) (Has-last id (below id xs) x e)
  | inr n ↦ subst (Has id) (sym (post_order-other id x xs n)) (root-falls id xs (not-first id x xs n h))
]

all-gone : (fallen actors some : List Actor) → ((id : ℤ) → Has id some → Has id fallen) → AllByRecursion (λ a. lives a.id (others fallen actors) ≡ false) some
all-gone fallen actors [] h = tt
all-gone fallen actors (x ∷ some) h =
    (lives-false x.id (others fallen actors) (λ k. has_not x.id fallen (from-others fallen actors x.id k).1 (h x.id (inl refl))), all-gone fallen actors some (λ id k. h id (inr k)))

deleted : (id : ℤ) (e : End) (o : Output) → o.end.actors ≡ e.actors → IsDeleted id e (falls.deletes id Delete o)
deleted id e o same =
    let fallen : List Actor = post_order id e.actors in
    let is : (falls.deletes id Delete o).end.actors ≡ others fallen e.actors = ap (λ (xs : List Actor). others (post_order id xs) xs) same in
    record {
      gone = ap (lives id) is ∙ lives-false id (others fallen e.actors) (λ k. let r = from-others fallen e.actors id k in has_not id fallen r.1 (root-falls id e.actors r.0));
      below = subst (λ (xs : List Actor). AllByRecursion (λ a. lives a.id xs ≡ false) fallen) (sym is) (all-gone fallen e.actors fallen (λ id k. k));
    }

-- Sends

new-lives : (actors : List Actor) (new : Actor) → lives new.id (actors ++ new ∷ []) ≡ true
new-lives actors new = lives-true new.id (actors ++ new ∷ []) (Has-last new.id actors new refl)

-- What a request leaves unchanged until its actor gets a name.
record Alike (o p : Output) : Type 0 where
  side : p.end.side ≡ o.end.side
  state : p.end.state ≡ o.end.state
  names : p.end.names ≡ o.end.names
  actors : p.end.actors ≡ o.end.actors
  lines : p.lines ≡ o.lines

alike-then : (o p r : Output) → Alike o p → Alike p r → Alike o r
alike-then o p r a b = record { side = b.side ∙ a.side; state = b.state ∙ a.state; names = b.names ∙ a.names; actors = b.actors ∙ a.actors; lines = b.lines ∙ a.lines }

alike-when : (b : Bool) (change : Change) (o : Output) → Alike o (change o) → Alike o (when b change o)
alike-when true change o h = h
alike-when false change o h = record { side = refl; state = refl; names = refl; actors = refl; lines = refl }

alike-posted : (lazy : Bool) (m : Message) (o : Output) → Alike o (sends.posted_by lazy m o)
alike-posted true m o = record { side = refl; state = refl; names = refl; actors = refl; lines = refl }
alike-posted false m o = record { side = refl; state = refl; names = refl; actors = refl; lines = refl }

module _ (e : End) (row : MessageRow) (m : Message) (vs : Values) where
  -- after the line, the counts, the packet, the wait and the promise
  abbrev begun : Output
  begun = (line (sends.send_line row m vs) ▷ on_end (λ e. record e { sent = e.sent + 1; constructors_sent = counting row.kind e.constructors_sent })) (beginning e)

  abbrev awaiting : Output
  awaiting = sends.awaits_reply row m (sends.posted row m begun)

  alike-awaiting : Alike begun awaiting
  alike-awaiting =
      let o : Output = sends.posted row m begun in
      let waits : Change = on_end (λ e. record e { stack = sends.wait_for row m ∷ e.stack }) in
      let p : Output = when (is_sync_row row) waits o in
      let a : Alike o p = alike-when (is_sync_row row) waits o (record { side = refl; state = refl; names = refl; actors = refl; lines = refl }) in
      let b : Alike p awaiting = alike-when (makes_promise row) _ p (record { side = refl; state = refl; names = refl; actors = refl; lines = refl }) in
      alike-then begun o awaiting (alike-posted row.lazy m begun) (alike-then o p awaiting a b)

  -- What a request has done when its actor has its name.
  record Named (name : Option (List ℕ)) (p : Output) : Type 0 where
    side : p.end.side ≡ e.side
    actors : p.end.actors ≡ e.actors
    lines : p.lines ≡ map (line_at e.side) (sends.send_line row m vs ∷ let_go_lines (is_open e.state) (held_by name e))

  named : (name : Option (List ℕ)) → Named name (sends.names_actor m.made name awaiting)
  named None = record { side = alike-awaiting.side; actors = alike-awaiting.actors; lines = alike-awaiting.lines }
  named (Some name) = record {
    side = renamed-side name (Some (actor m.made)) awaiting ∙ alike-awaiting.side;
    actors = renamed-actors name (Some (actor m.made)) awaiting ∙ alike-awaiting.actors;
    lines = renamed-lines name (Some (actor m.made)) awaiting ∙ by alike-awaiting.lines alike-awaiting.side alike-awaiting.state alike-awaiting.names;
  }
    where
      by : awaiting.lines ≡ line_at e.side (sends.send_line row m vs) ∷ [] → awaiting.end.side ≡ e.side → awaiting.end.state ≡ e.state → awaiting.end.names ≡ e.names
          → awaiting.lines ++ map (line_at awaiting.end.side) (let_go_lines (is_open awaiting.end.state) (held_by_name name awaiting.end.names)) ≡ map (line_at e.side) (sends.send_line row m vs ∷ let_go_lines (is_open e.state) (held_by_name name e.names))
      by l s t n =
          ap (λ (ls : List Line). ls ++ map (line_at awaiting.end.side) (let_go_lines (is_open awaiting.end.state) (held_by_name name awaiting.end.names))) l
          ∙ (ap (λ (side : Side). line_at e.side (sends.send_line row m vs) ∷ map (line_at side) (let_go_lines (is_open awaiting.end.state) (held_by_name name awaiting.end.names))) s
          ∙ (ap (λ (state : EndState). line_at e.side (sends.send_line row m vs) ∷ map (line_at e.side) (let_go_lines (is_open state) (held_by_name name awaiting.end.names))) t
          ∙ ap (λ (names : List Naming). line_at e.side (sends.send_line row m vs) ∷ map (line_at e.side) (let_go_lines (is_open e.state) (held_by_name name names))) n))

  sent-builds : (name : Option (List ℕ)) (kind : Kind) (protocol : ℕ) (p : Output) → kind ≡ Constructor protocol → Named name p
      → Builds e ((sends.constructs m.made m.route kind ▷ falls.deletes m.route kind) p) (sends.send_line row m vs) (let_go_lines (is_open e.state) (held_by name e)) m.made protocol m.route
  sent-builds name Normal protocol p is h = cc
  sent-builds name Delete protocol p is h = cc
  sent-builds name (Constructor made) protocol p is h =
      let same : made ≡ protocol = cc in
      let lost : List What = sends.send_line row m vs ∷ let_go_lines (is_open e.state) (held_by name e) in
      let new : Actor = record { id = m.made; protocol = made; manager = m.route } in
      let actors : p.end.actors ++ new ∷ [] ≡ e.actors ++ new ∷ [] = ap (λ (xs : List Actor). xs ++ new ∷ []) h.actors in
      let b : Builds e ((sends.constructs m.made m.route (Constructor made) ▷ falls.deletes m.route (Constructor made)) p) (sends.send_line row m vs) (let_go_lines (is_open e.state) (held_by name e)) m.made made m.route =
      record {
        lines = ap (λ (side : Side). p.lines ++ line_at side (what.Built m.made made) ∷ []) h.side ∙ (ap (λ (ls : List Line). ls ++ line_at e.side (what.Built m.made made) ∷ []) h.lines ∙ sym (map-append (line_at e.side) lost (what.Built m.made made ∷ [])));
        actors = actors;
        alive = ap (lives m.made) actors ∙ new-lives e.actors new;
      } in
      subst (λ (k : ℕ). Builds e ((sends.constructs m.made m.route (Constructor made) ▷ falls.deletes m.route (Constructor made)) p) (sends.send_line row m vs) (let_go_lines (is_open e.state) (held_by name e)) m.made k m.route) same b

  sent-deletes : (name : Option (List ℕ)) (kind : Kind) (p : Output) → kind ≡ Delete → Named name p → IsDeleted m.route e ((sends.constructs m.made m.route kind ▷ falls.deletes m.route kind) p)
  sent-deletes name Normal p is h = cc
  sent-deletes name (Constructor protocol) p is h = cc
  sent-deletes name Delete p is h = deleted m.route e p h.actors

-- what a send that is not refused makes
send-gives : (P : Output → Type 0) (schema : Schema) (e : End) (link : List Packet) (row : MessageRow) (route : ℤ) (number : ℕ) (vs : Values) (name : Option (List ℕ)) (output : Output)
    → SendsRequest schema e row route number vs → step schema e link (event.send route number vs name) ≡ Some output → P (sends.sent row (sends.request_of e row route vs) vs name (beginning e)) → P output
send-gives P schema e link row route number vs name output h is p =
    let f : MessageRow → Option Output = λ row. provided (sends.may_send schema e row vs name) (sends.send schema e row route vs name) e in
    let k : f row ≡ Some output = ap (option_and_then f) (sym h.found) ∙ is in
    provided-gives P (sends.may_send schema e row vs name) (sends.send schema e row route vs name) e output
    (λ may. subst (λ (r : Option SendRefusal). P (sends.sent_unless r row (sends.request_of e row route vs) vs name (beginning e))) (sym h.accepted) p) k

constructor-sent : (schema : Schema) (e : End) (link : List Packet) (row : MessageRow) (route : ℤ) (number : ℕ) (vs : Values) (name : Option (List ℕ)) (protocol : ℕ) (output : Output)
    → SendsRequest schema e row route number vs → row.kind ≡ Constructor protocol → step schema e link (event.send route number vs name) ≡ Some output
    → Builds e output (sends.send_line row (sends.request_of e row route vs) vs) (let_go_lines (is_open e.state) (held_by name e)) (sends.request_of e row route vs).made protocol route
constructor-sent schema e link row route number vs name protocol output h kind is =
    let m : Message = sends.request_of e row route vs in
    send-gives (λ o. Builds e o (sends.send_line row m vs) (let_go_lines (is_open e.state) (held_by name e)) m.made protocol route) schema e link row route number vs name output h is
    (sent-builds e row m vs name row.kind protocol (sends.names_actor m.made name (awaiting e row m vs)) kind (named e row m vs name))

destructor-sent : (schema : Schema) (e : End) (link : List Packet) (row : MessageRow) (route : ℤ) (number : ℕ) (vs : Values) (name : Option (List ℕ)) (output : Output)
    → SendsRequest schema e row route number vs → row.kind ≡ Delete → step schema e link (event.send route number vs name) ≡ Some output → IsDeleted route e output
destructor-sent schema e link row route number vs name output h kind is =
    let m : Message = sends.request_of e row route vs in
    send-gives (IsDeleted route e) schema e link row route number vs name output h is
    (sent-deletes e row m vs name row.kind (sends.names_actor m.made name (awaiting e row m vs)) kind (named e row m vs name))

-- Takes

-- what a take makes
take-gives : (P : Output → Type 0) (schema : Schema) (e : End) (link : List Packet) (x : Item) (output : Output) → takes.taken_next e ≡ Some x → step schema e link event.take ≡ Some output → P (takes.take schema x (beginning e)) → P output
take-gives P schema e link x output next is p =
    let s = step-taken schema e link output is in
    let same : x ≡ s.0 = same_Some x s.0 (sym next ∙ s.1) in
    subst P s.2 (subst (λ (y : Item). P (takes.take schema y (beginning e))) same p)

-- what the take of a request makes
request-gives : (P : Output → Type 0) (schema : Schema) (e : End) (link : List Packet) (m : Message) (row : MessageRow) (vs : Values) (output : Output)
    → TakesRequest schema e m row vs → step schema e link event.take ≡ Some output → P (takes.dropped_or_handled (takes.dropped_for schema e row m vs) row m (nulled schema e.actors row.params vs) (beginning (left_end e))) → P output
request-gives P schema e link m row vs output h is p =
    let a : takes.take schema (item.Message m h.sync h.level) (beginning e) ≡ takes.body_taken schema m (Request vs) (beginning (left_end e)) = ap (λ (body : Body). takes.body_taken schema m body (beginning (left_end e))) h.body in
    let b : takes.body_taken schema m (Request vs) (beginning (left_end e)) ≡ takes.request_taken schema m vs row (beginning (left_end e)) =
    ap (λ (found : Option MessageRow). option_map_or (takes.request_taken schema m vs) found (line (what.Drop m.seq m.route m.number m.route)) (beginning (left_end e))) h.found in
    take-gives P schema e link (item.Message m h.sync h.level) output h.next is (subst P (sym (a ∙ b)) p)

handled-builds : (e : End) (row : MessageRow) (m : Message) (vs : Values) (kind : Kind) (protocol : ℕ) → kind ≡ Constructor protocol
    → Builds e (sends.constructs m.made m.route kind (record { end = record (left_end e) { stack = takes.dispatch_of row m ∷ e.stack }; lines = line_at e.side (what.Take m.seq m.route m.number vs) ∷ []; packets = [] })) (what.Take m.seq m.route m.number vs) [] m.made protocol m.route
handled-builds e row m vs Normal protocol is = cc
handled-builds e row m vs Delete protocol is = cc
handled-builds e row m vs (Constructor made) protocol is =
    let same : made ≡ protocol = cc in
    subst (λ (k : ℕ). Builds e (sends.constructs m.made m.route (Constructor made) (record { end = record (left_end e) { stack = takes.dispatch_of row m ∷ e.stack }; lines = line_at e.side (what.Take m.seq m.route m.number vs) ∷ []; packets = [] })) (what.Take m.seq m.route m.number vs) [] m.made k m.route) same (record { lines = refl; actors = refl; alive = new-lives e.actors (record { id = m.made; protocol = made; manager = m.route }) })

constructor-taken : (schema : Schema) (e : End) (link : List Packet) (m : Message) (row : MessageRow) (vs : Values) (protocol : ℕ) (output : Output)
    → TakesRequest schema e m row vs → row.kind ≡ Constructor protocol → takes.dropped_for schema e row m vs ≡ None → step schema e link event.take ≡ Some output
    → Builds e output (what.Take m.seq m.route m.number (nulled schema e.actors row.params vs)) [] m.made protocol m.route
constructor-taken schema e link m row vs protocol output h kind none is =
    let given : Values = nulled schema e.actors row.params vs in
    let P : Output → Type 0 = λ o. Builds e o (what.Take m.seq m.route m.number given) [] m.made protocol m.route in
    request-gives P schema e link m row vs output h is
    (subst (λ (gone : Option ℤ). P (takes.dropped_or_handled gone row m given (beginning (left_end e)))) (sym none) (handled-builds e row m given row.kind protocol kind))

request-dropped : (schema : Schema) (e : End) (link : List Packet) (m : Message) (row : MessageRow) (vs : Values) (id : ℤ) (output : Output)
    → TakesRequest schema e m row vs → takes.dropped_for schema e row m vs ≡ Some id → step schema e link event.take ≡ Some output
    → HasLines e output (what.Drop m.seq m.route m.number id ∷ reply_lines (is_open e.state && owes_reply row) (request_answered m) (answer.Fault ActorDestroyed)) (reply_packets (is_open e.state && owes_reply row) e (request_answered m) (answer.Fault ActorDestroyed))
request-dropped schema e link m row vs id output h gone is =
    let given : Values = nulled schema e.actors row.params vs in
    let q : AnsweredRequest = request_answered m in
    let a : Answer = answer.Fault ActorDestroyed in
    let P : Output → Type 0 = λ o. HasLines e o (what.Drop m.seq m.route m.number id ∷ reply_lines (is_open e.state && owes_reply row) q a) (reply_packets (is_open e.state && owes_reply row) e q a) in
    let o : Output = line (what.Drop m.seq m.route m.number id) (beginning (left_end e)) in
    request-gives P schema e link m row vs output h is
    (subst (λ (gone : Option ℤ). P (takes.dropped_or_handled gone row m given (beginning (left_end e)))) (sym gone)
    (record { said = answered-lines q a o (owes_reply row); sent = answered-packets q a o (owes_reply row) ∙ left-packets (is_open e.state && owes_reply row) q a }))
  where
    left-packets : (b : Bool) (q : AnsweredRequest) (a : Answer) → reply_packets b (left_end e) q a ≡ reply_packets b e q a
    left-packets true q a = refl
    left-packets false q a = refl

-- Promises

settled-find : (seq : ℤ) (outcome : Outcome) (promises : List PromiseEntry) → takes.is_awaited seq promises ≡ true → outcome_in seq (map (takes.settled_entry seq outcome) promises) ≡ Some outcome
settled-find seq outcome [] h = cc
settled-find seq outcome (entry ∷ promises) h = by (has_number seq entry.promise) (is_pending entry.promise) refl refl h (settled-find seq outcome promises)
  where
    rest : Option PromiseEntry
    rest = find (λ (entry : PromiseEntry). has_number seq entry.promise) promises

    by : (b c : Bool) → has_number seq entry.promise ≡ b → is_pending entry.promise ≡ c → option_map_or (λ (entry : PromiseEntry). is_pending entry.promise) (cond b (Some entry) rest) false ≡ true
        → (takes.is_awaited seq promises ≡ true → outcome_in seq (map (takes.settled_entry seq outcome) promises) ≡ Some outcome) → outcome_in seq (map (takes.settled_entry seq outcome) (entry ∷ promises)) ≡ Some outcome
    by true true is pending h rec =
        let e : takes.settled_entry seq outcome entry ≡ record entry { promise = record entry.promise { outcome = Some outcome } } =
        ap (λ (b : Bool). record entry { promise = if b && is_pending entry.promise then record entry.promise { outcome = Some outcome } else entry.promise }) is ∙ ap (λ (b : Bool). record entry { promise = if b then record entry.promise { outcome = Some outcome } else entry.promise }) pending in
        ap (λ (x : PromiseEntry). outcome_in seq (x ∷ map (takes.settled_entry seq outcome) promises)) e
        ∙ ap (λ (b : Bool). option_and_then (λ (entry : PromiseEntry). entry.promise.outcome) (cond b (Some (record entry { promise = record entry.promise { outcome = Some outcome } })) (find (λ (entry : PromiseEntry). has_number seq entry.promise) (map (takes.settled_entry seq outcome) promises)))) is
    by true false is pending h rec = let k : true ≡ false = sym h ∙ pending in cc
    by false c is pending h rec =
        let e : takes.settled_entry seq outcome entry ≡ entry =
        ap (λ (b : Bool). record entry { promise = if b && is_pending entry.promise then record entry.promise { outcome = Some outcome } else entry.promise }) is in
        ap (λ (x : PromiseEntry). outcome_in seq (x ∷ map (takes.settled_entry seq outcome) promises)) e
        ∙ (ap (λ (b : Bool). option_and_then (λ (entry : PromiseEntry). entry.promise.outcome) (cond b (Some entry) (find (λ (entry : PromiseEntry). has_number seq entry.promise) (map (takes.settled_entry seq outcome) promises)))) is ∙ rec h)

reply-body : (schema : Schema) (m : Message) (a : Answer) (o : Output) → takes.body_taken schema m (body_of a) o ≡ option_map_or (takes.reply_taken schema m a) (message_of schema m.number) unchanged (line (what.TakeReply m.seq) o)
reply-body schema m (answer.Ok vs) o = refl
reply-body schema m (answer.Fault reason) o = refl

-- what the take of a reply makes
reply-gives : (P : Output → Type 0) (schema : Schema) (e : End) (link : List Packet) (m : Message) (sync : Bool) (level : Level) (a : Answer) (output : Output)
    → takes.taken_next e ≡ Some (item.Message m sync level) → m.body ≡ body_of a → step schema e link event.take ≡ Some output → P (option_map_or (takes.reply_taken schema m a) (message_of schema m.number) unchanged (line (what.TakeReply m.seq) (beginning (left_end e)))) → P output
reply-gives P schema e link m sync level a output next body is p =
    let o : Output = beginning (left_end e) in
    let k : takes.take schema (item.Message m sync level) (beginning e) ≡ takes.body_taken schema m (body_of a) o = ap (λ (body : Body). takes.body_taken schema m body o) body in
    take-gives P schema e link (item.Message m sync level) output next is (subst P (sym (k ∙ reply-body schema m a o)) p)

reply-settles : (schema : Schema) (e : End) (link : List Packet) (m : Message) (sync : Bool) (level : Level) (row : MessageRow) (a : Answer) (output : Output)
    → takes.taken_next e ≡ Some (item.Message m sync level) → m.body ≡ body_of a → message_of schema m.number ≡ Some row → takes.is_awaited m.seq e.promises ≡ true → step schema e link event.take ≡ Some output
    → HasLines e output (what.TakeReply m.seq ∷ takes.settle_line m.seq (reply_outcome schema e row a) ∷ []) [] × (outcome_in m.seq output.end.promises ≡ Some (reply_outcome schema e row a))
reply-settles schema e link m sync level row a output next body found awaited is =
    let out : Outcome = reply_outcome schema e row a in
    let P : Output → Type 0 = λ o. HasLines e o (what.TakeReply m.seq ∷ takes.settle_line m.seq out ∷ []) [] × (outcome_in m.seq o.end.promises ≡ Some out) in
    let o : Output = line (what.TakeReply m.seq) (beginning (left_end e)) in
    let done : P (takes.settles m.seq out o) = (record { said = refl; sent = refl }, settled-find m.seq out e.promises awaited) in
    reply-gives P schema e link m sync level a output next body is
    (subst (λ (found : Option MessageRow). P (option_map_or (takes.reply_taken schema m a) found unchanged o)) (sym found)
    (subst (λ (b : Bool). P (when b (takes.settles m.seq out) o)) (sym awaited) done))

reply-late : (schema : Schema) (e : End) (link : List Packet) (m : Message) (sync : Bool) (level : Level) (a : Answer) (output : Output)
    → takes.taken_next e ≡ Some (item.Message m sync level) → m.body ≡ body_of a → takes.is_awaited m.seq e.promises ≡ false → step schema e link event.take ≡ Some output
    → HasLines e output (what.TakeReply m.seq ∷ []) [] × (output.end.promises ≡ e.promises)
reply-late schema e link m sync level a output next body late is =
    reply-gives P schema e link m sync level a output next body is (by (message_of schema m.number))
  where
    P : Output → Type 0
    P o = HasLines e o (what.TakeReply m.seq ∷ []) [] × (o.end.promises ≡ e.promises)

    o : Output
    o = line (what.TakeReply m.seq) (beginning (left_end e))

    by : (found : Option MessageRow) → P (option_map_or (takes.reply_taken schema m a) found unchanged o)
    by None = (record { said = refl; sent = refl }, refl)
    by (Some row) = subst (λ (b : Bool). P (when b (takes.settles m.seq (reply_outcome schema e row a)) o)) (sym late) (record { said = refl; sent = refl }, refl)

pub constructors_build : ConstructorsBuild
constructors_build = record {
  sends = λ schema e link row route number vs name protocol output h kind is. constructor-sent schema e link row route number vs name protocol output h kind is;
  takes = λ schema e link m row vs protocol output h kind none is. constructor-taken schema e link m row vs protocol output h kind none is;
}

pub replies_settle : RepliesSettle
replies_settle = record {
  settles = λ schema e link m sync level row a output next body found awaited is. reply-settles schema e link m sync level row a output next body found awaited is;
  late = λ schema e link m sync level a output next body late is. reply-late schema e link m sync level a output next body late is;
}

-- Returns

-- What an event has printed and sent so far, at an end whose actors and promises are as they were.
record Stands (e : End) (whats : List What) (put_so_far : List Packet) (o : Output) : Type 0 where
  side : o.end.side ≡ e.side
  state : o.end.state ≡ e.state
  actors : o.end.actors ≡ e.actors
  promises : o.end.promises ≡ e.promises
  lines : o.lines ≡ map (line_at e.side) whats
  packets : o.packets ≡ put_so_far

following-side : (b : Bool) (e : End) → (end_after b e).side ≡ e.side
following-side true e = refl
following-side false e = refl

following-state : (b : Bool) (e : End) → (end_after b e).state ≡ e.state
following-state true e = refl
following-state false e = refl

following-actors : (b : Bool) (e : End) → (end_after b e).actors ≡ e.actors
following-actors true e = refl
following-actors false e = refl

following-promises : (b : Bool) (e : End) → (end_after b e).promises ≡ e.promises
following-promises true e = refl
following-promises false e = refl

stands-answered : (e : End) (whats : List What) (ps : List Packet) (o : Output) (b : Bool) (q : AnsweredRequest) (a : Answer) → Stands e whats ps o
    → Stands e (whats ++ reply_lines (is_open e.state && b) q a) (ps ++ reply_packets (is_open e.state && b) o.end q a) (when b (answered q a) o)
stands-answered e whats ps o b q a h =
    let c : Bool = is_open o.end.state && b in
    let after : (when b (answered q a) o).end ≡ end_after c o.end = answered-end q a o b in
    record {
      side = ap (λ (f : End). f.side) after ∙ (following-side c o.end ∙ h.side);
      state = ap (λ (f : End). f.state) after ∙ (following-state c o.end ∙ h.state);
      actors = ap (λ (f : End). f.actors) after ∙ (following-actors c o.end ∙ h.actors);
      promises = ap (λ (f : End). f.promises) after ∙ (following-promises c o.end ∙ h.promises);
      lines = answered-lines q a o b
          ∙ (ap (λ (state : EndState). o.lines ++ map (line_at o.end.side) (reply_lines (is_open state && b) q a)) h.state
          ∙ (ap (λ (side : Side). o.lines ++ map (line_at side) (reply_lines (is_open e.state && b) q a)) h.side
          ∙ (ap (λ (ls : List Line). ls ++ map (line_at e.side) (reply_lines (is_open e.state && b) q a)) h.lines ∙ sym (map-append (line_at e.side) whats (reply_lines (is_open e.state && b) q a)))));
      packets = answered-packets q a o b
          ∙ (ap (λ (state : EndState). o.packets ++ reply_packets (is_open state && b) o.end q a) h.state ∙ ap (λ (ps : List Packet). ps ++ reply_packets (is_open e.state && b) o.end q a) h.packets);
    }

deletes-lines : (route : ℤ) (kind : Kind) (o : Output) → (falls.deletes route kind o).lines ≡ o.lines ++ map (line_at o.end.side) (deleted_lines kind route o.end)
deletes-lines route Normal o = sym (append-nil o.lines)
deletes-lines route (Constructor protocol) o = sym (append-nil o.lines)
deletes-lines route Delete o = refl

deletes-packets : (route : ℤ) (kind : Kind) (o : Output) → (falls.deletes route kind o).packets ≡ o.packets
deletes-packets route Normal o = refl
deletes-packets route (Constructor protocol) o = refl
deletes-packets route Delete o = refl

deleted-same : (route : ℤ) (kind : Kind) (e f : End) → f.actors ≡ e.actors → f.promises ≡ e.promises → deleted_lines kind route f ≡ deleted_lines kind route e
deleted-same route Normal e f a p = refl
deleted-same route (Constructor protocol) e f a p = refl
deleted-same route Delete e f a p =
    ap (λ (actors : List Actor). flat_map (falls.fall_lines (falls.why_deleted route) f.promises) (post_order route actors)) a
    ∙ ap (λ (promises : List PromiseEntry). flat_map (falls.fall_lines (falls.why_deleted route) promises) (post_order route e.actors)) p

module _ (schema : Schema) (e : End) (entry : StackEntry) (row : MessageRow) (vs : Option Values) where
  abbrev off : Output
  off = (returns.popped ▷ line (what.Return (head_of entry.frame).seq)) (beginning e)

  abbrev qs : AnsweredRequest
  qs = returns.dispatch_answered entry

  abbrev an : Answer
  an = returns.return_answer schema e row entry vs

  abbrev rs : AnsweredRequest
  rs = resolver_answered (answering.resolver_in entry)

  abbrev told : Bool
  told = is_open e.state && is_sync_row row

  abbrev lost : Bool
  lost = is_open e.state && entry.resolves

  abbrev telling : Output
  telling = when (is_sync_row row) (answered qs an) off

  abbrev losing : Output
  losing = when entry.resolves (answered rs (answer.Fault ResolverDestroyed)) telling

  stands-losing : Stands e (((what.Return (head_of entry.frame).seq ∷ []) ++ reply_lines told qs an) ++ reply_lines lost rs (answer.Fault ResolverDestroyed)) (([] ++ reply_packets told off.end qs an) ++ reply_packets lost telling.end rs (answer.Fault ResolverDestroyed)) losing
  stands-losing =
      let a : Stands e (what.Return (head_of entry.frame).seq ∷ []) [] off = record { side = refl; state = refl; actors = refl; promises = refl; lines = refl; packets = refl } in
      let b = stands-answered e (what.Return (head_of entry.frame).seq ∷ []) [] off (is_sync_row row) qs an a in
      stands-answered e ((what.Return (head_of entry.frame).seq ∷ []) ++ reply_lines told qs an) ([] ++ reply_packets told off.end qs an) telling entry.resolves rs (answer.Fault ResolverDestroyed) b

  off-packets : (b : Bool) → reply_packets b off.end qs an ≡ reply_packets b e qs an
  off-packets true = refl
  off-packets false = refl

  lost-packets : (b c : Bool) → reply_packets c (end_after b off.end) rs (answer.Fault ResolverDestroyed) ≡ reply_packets c (end_after b e) rs (answer.Fault ResolverDestroyed)
  lost-packets true true = refl
  lost-packets true false = refl
  lost-packets false true = refl
  lost-packets false false = refl

  return-lines : HasLines e (returns.return schema e row entry vs (beginning e))
      (what.Return (head_of entry.frame).seq ∷ (reply_lines told qs an ++ (reply_lines lost rs (answer.Fault ResolverDestroyed) ++ deleted_lines row.kind entry.route e)))
      (reply_packets told e qs an ++ reply_packets lost (end_after told e) rs (answer.Fault ResolverDestroyed))
  return-lines =
      let s = stands-losing in
      let f : Answer = answer.Fault ResolverDestroyed in
      let first : List What = ((what.Return (head_of entry.frame).seq ∷ []) ++ reply_lines told qs an) ++ reply_lines lost rs f in
      let gone : List What = deleted_lines row.kind entry.route e in
      record {
        said = deletes-lines entry.route row.kind losing
            ∙ (ap (λ (side : Side). losing.lines ++ map (line_at side) (deleted_lines row.kind entry.route losing.end)) s.side
            ∙ (ap (λ (ws : List What). losing.lines ++ map (line_at e.side) ws) (deleted-same entry.route row.kind e losing.end s.actors s.promises)
            ∙ (ap (λ (ls : List Line). ls ++ map (line_at e.side) gone) s.lines
            ∙ (sym (map-append (line_at e.side) first gone) ∙ ap (λ (ws : List What). map (line_at e.side) (what.Return (head_of entry.frame).seq ∷ ws)) (append_assoc (reply_lines told qs an) (reply_lines lost rs f) gone)))));
        sent = deletes-packets entry.route row.kind losing
            ∙ (s.packets
            ∙ (ap (λ (ps : List Packet). ps ++ reply_packets lost telling.end rs f) (off-packets told)
            ∙ ap (λ (ps : List Packet). reply_packets told e qs an ++ ps) (ap (λ (g : End). reply_packets lost g rs f) (answered-end qs an off (is_sync_row row)) ∙ lost-packets told lost)));
      }

  return-deletes : row.kind ≡ Delete → IsDeleted entry.route e (returns.return schema e row entry vs (beginning e))
  return-deletes kind = subst (λ (k : Kind). IsDeleted entry.route e (falls.deletes entry.route k losing)) (sym kind) (deleted entry.route e losing stands-losing.actors)

return-gives : (P : Output → Type 0) (schema : Schema) (e : End) (link : List Packet) (entry : StackEntry) (row : MessageRow) (vs : Option Values) (output : Output)
    → returns.dispatch_on_top e.stack ≡ Some entry → request_row schema entry.number ≡ Some row → step schema e link (event.return vs) ≡ Some output → P (returns.return schema e row entry vs (beginning e)) → P output
return-gives P schema e link entry row vs output top found is p =
    let f : StackEntry → MessageRow → Option Output = λ entry row. provided (returns.may_return schema row vs) (returns.return schema e row entry vs) e in
    let g : StackEntry → Option Output = λ entry. option_and_then (f entry) (request_row schema entry.number) in
    let a : g entry ≡ Some output = ap (option_and_then g) (sym top) ∙ is in
    let b : f entry row ≡ Some output = ap (option_and_then (f entry)) (sym found) ∙ a in
    provided-gives P (returns.may_return schema row vs) (returns.return schema e row entry vs) e output (λ may. p) b

pub destructors_delete : DestructorsDelete
destructors_delete = record {
  sends = λ schema e link row route number vs name output h kind is. destructor-sent schema e link row route number vs name output h kind is;
  returns = λ schema e link entry row vs output top found kind is. return-gives (IsDeleted entry.route e) schema e link entry row vs output top found is (return-deletes schema e entry row vs kind);
}

-- Replaced requests

request-replaced : (schema : Schema) (e : End) (link : List Packet) (m : Message) (row : MessageRow) (vs : Values) (old : Message) (sync : Bool) (level : Level) (output : Output)
    → first_packet link ≡ Some (message m) → m.body ≡ Request vs → message_of schema m.number ≡ Some row → replaced row.compress (delivery.item_of row m) e.arrived ≡ Some (item.Message old sync level) → step schema e link event.deliver ≡ Some output
    → HasLines e output (what.DeliverRequest m.seq ∷ what.Replaced old.seq ∷ reply_lines (makes_promise row) (request_answered old) (answer.Fault ResolverDestroyed)) (reply_packets (makes_promise row) e (request_answered old) (answer.Fault ResolverDestroyed))
request-replaced schema e link m row vs old sync level output first body found rep is =
    let f : Packet → Option Output = λ packet. provided (is_open e.state) (delivery.deliver schema packet) e in
    let k : f (message m) ≡ Some output = ap (option_and_then f) (sym first) ∙ is in
    provided-gives P (is_open e.state) (delivery.deliver schema (message m)) e output (λ opened. subst P (sym made) (given opened)) k
  where
    q : AnsweredRequest
    q = request_answered old

    P : Output → Type 0
    P o = HasLines e o (what.DeliverRequest m.seq ∷ what.Replaced old.seq ∷ reply_lines (makes_promise row) q (answer.Fault ResolverDestroyed)) (reply_packets (makes_promise row) e q (answer.Fault ResolverDestroyed))

    start : Output
    start = line (what.DeliverRequest m.seq) (beginning e)

    counted : Output
    counted = on_end (delivery.counted row (delivery.item_of row m)) start

    made : delivery.deliver schema (message m) (beginning e) ≡ delivery.replacing row (Some (item.Message old sync level)) counted
    made =
        ap (λ (body : Body). delivery.body_delivered schema m body (beginning e)) body
        ∙ (ap (λ (found : Option MessageRow). option_map_or (delivery.request_arrives m) found unchanged start) found ∙ ap (λ (old : Option Item). delivery.replacing row old counted) rep)

    same : (b : Bool) → reply_packets b counted.end q (answer.Fault ResolverDestroyed) ≡ reply_packets b e q (answer.Fault ResolverDestroyed)
    same true = refl
    same false = refl

    given : is_open e.state ≡ true → P (delivery.replacing row (Some (item.Message old sync level)) counted)
    given opened =
        let o : Output = line (what.Replaced old.seq) counted in
        record {
          said = answered-lines q (answer.Fault ResolverDestroyed) o (makes_promise row) ∙ ap (λ (b : Bool). o.lines ++ map (line_at e.side) (reply_lines (b && makes_promise row) q (answer.Fault ResolverDestroyed))) opened;
          sent = answered-packets q (answer.Fault ResolverDestroyed) o (makes_promise row) ∙ (ap (λ (b : Bool). reply_packets (b && makes_promise row) counted.end q (answer.Fault ResolverDestroyed)) opened ∙ same (makes_promise row));
        }

-- Names

name-lines : (schema : Schema) (e : End) (link : List Packet) (name : List ℕ) (id : ℤ) (output : Output) → step schema e link (event.name name id) ≡ Some output
    → HasLines e output (what.Let name (if acts.is_positive id then id else pos 0) ∷ let_go_lines (is_open e.state) (held_by_name name e.names)) (let_go_packets (is_open e.state) e (held_by_name name e.names))
name-lines schema e link name id output is =
    let o : Output = line (what.Let name (if acts.is_positive id then id else pos 0)) (beginning e) in
    let holds : Option NameContent = if acts.is_positive id then Some (actor id) else None in
    provided-gives (λ o. HasLines e o (what.Let name (if acts.is_positive id then id else pos 0) ∷ let_go_lines (is_open e.state) (held_by_name name e.names)) (let_go_packets (is_open e.state) e (held_by_name name e.names)))
    (sends.may_act e) (acts.name_actor name id) e output (λ may. record { said = renamed-lines name holds o; sent = renamed-packets name holds o }) is

keep-lines : (schema : Schema) (e : End) (link : List Packet) (seq : ℤ) (name : List ℕ) (output : Output) → step schema e link (event.keep seq name) ≡ Some output
    → HasLines e output (what.Keep seq name ∷ let_go_lines (is_open e.state) (held_by_name name e.names)) (let_go_packets (is_open e.state) e (held_by_name name e.names))
keep-lines schema e link seq name output is =
    provided-gives (λ o. HasLines e o (what.Keep seq name ∷ let_go_lines (is_open e.state) (held_by_name name e.names)) (let_go_packets (is_open e.state) e (held_by_name name e.names)))
    (answering.may_keep e seq) (answering.keep e seq name) e output (λ may. record { said = renamed-lines name holds o; sent = renamed-packets name holds o ∙ same (is_open e.state) (held_by_name name e.names) }) is
  where
    o : Output
    o = (line (what.Keep seq name) ▷ on_end (λ e. record e { stack = answering.released seq e.stack })) (beginning e)

    holds : Option NameContent
    holds = option_and_then (answering.kept_by e) (answering.handled_resolver e seq)

    same : (b : Bool) (held : Option NameContent) → let_go_packets b o.end held ≡ let_go_packets b e held
    same b None = refl
    same b (Some (actor id)) = refl
    same true (Some (resolver r)) = refl
    same false (Some (resolver r)) = refl

pub due_answers_are_given : DueAnswersAreGiven
due_answers_are_given = record {
  drops = λ schema e link m row vs id output h gone is. request-dropped schema e link m row vs id output h gone is;
  replaces = λ schema e link m row vs old sync level output first body found rep is. request-replaced schema e link m row vs old sync level output first body found rep is;
  returns = λ schema e link entry row vs output top found is.
      return-gives (λ o. HasLines e o
      (what.Return (head_of entry.frame).seq ∷ (reply_lines (told schema e entry row vs) (qs schema e entry row vs) (an schema e entry row vs) ++ (reply_lines (lost schema e entry row vs) (rs schema e entry row vs) (answer.Fault ResolverDestroyed) ++ deleted_lines row.kind entry.route e)))
      (reply_packets (told schema e entry row vs) e (qs schema e entry row vs) (an schema e entry row vs) ++ reply_packets (lost schema e entry row vs) (end_after (told schema e entry row vs) e) (rs schema e entry row vs) (answer.Fault ResolverDestroyed)))
      schema e link entry row vs output top found is (return-lines schema e entry row vs);
  names = λ schema e link name id output is. name-lines schema e link name id output is;
  keeps = λ schema e link seq name output is. keep-lines schema e link seq name output is;
}
