-- An item that is taken is not deferred, and every older one that waits is.
use Rattle.std.proofs.Common.{◌≡◌, ℤ, pos, Bool, true, false, not, cond, List, [], ◌∷◌, ◌++◌, find, map, ◌||◌, Option, Some, None, refl, sym, ap, subst, ◌∙◌}
use Rattle.std.specs.List.{AllByRecursion}
use Rattle.std.specs.Option.{option_map_or, unwrap_or}
use Rattle.std.proofs.lemmas.Option.{same_Some}
use Rattle.ipdl_base.specs.Deferral.{defers_arrival}
use Rattle.ipdl_base.specs.declared.kinds.Level.{Level}
use Rattle.ipdl_base.specs.declared.kinds.Reason.TheVariants.{ActorDestroyed}
use Rattle.ipdl_base.specs.declared.line.Line.{Line}
use Rattle.ipdl_base.specs.declared.line.What.{What}
use Rattle.ipdl_base.specs.declared.line.What.TheVariants as what
use Rattle.ipdl_base.specs.declared.message.Body.{Body}
use Rattle.ipdl_base.specs.declared.message.Body.TheVariants.{Request, Reply, Fault, Goodbye}
use Rattle.ipdl_base.specs.declared.message.Message.{Message}
use Rattle.ipdl_base.specs.declared.schema.Kind.{Kind}
use Rattle.ipdl_base.specs.declared.schema.Kind.TheVariants.{Normal, Constructor, Delete}
use Rattle.ipdl_base.specs.declared.schema.MessageRow.{MessageRow}
use Rattle.ipdl_base.specs.declared.schema.Schema.{Schema}
use Rattle.ipdl_base.specs.declared.value.Values.{Values}
use Rattle.ipdl_base.specs.Sound.{message_of}
use Rattle.nesting_core.specs.declared.frame.Answer.{Answer}
use Rattle.nesting_core.specs.declared.frame.Answer.TheVariants as answer
use Rattle.nesting_core.specs.declared.frame.StackFrame.{StackFrame}
use Rattle.nesting_core.specs.declared.frame.StackFrame.TheVariants.{Dispatch, Wait}
use Rattle.nesting_core.specs.Deferral.{awaited_level, inner_transaction}
use Rattle.pending_queue.specs.declared.item.Item.{Item}
use Rattle.pending_queue.specs.declared.item.Item.TheVariants as item
use Rattle.pending_queue.specs.DeferralContext.{arrival_of, defers_item, is_free}
use Rattle.promise_table.specs.declared.promise.Outcome.{Outcome}
use Rattle.channel_model.specs.Ends.{End, Packet, message}
use Rattle.channel_model.specs.Events as event
use Rattle.channel_model.specs.Numbers.{is_sync_row, makes_promise}
use Rattle.channel_model.specs.Outputs.{Output, Change, ◌▷◌, beginning, is_open, on_end, line, line_at, put, when, answered, answer_line, body_of, reply_to, AnsweredRequest, request_answered, unchanged}
use Rattle.channel_model.specs.Parts.{left_end}
use Rattle.channel_model.specs.Sends as send
use Rattle.channel_model.specs.Sends.{frames_of}
use Rattle.channel_model.specs.States.{IsAnswered, is_farewell, is_goodbye}
use Rattle.channel_model.specs.Steps.{step, provided}
use Rattle.channel_model.specs.Takes as takes
use Rattle.channel_model.specs.ValueActors.{nulled, received}
use Rattle.channel_model.proofs.FittingEnds.{taken-first}
use Rattle.channel_model.proofs.Provided.{found-gives}
use Rattle.channel_laws.proofs.Leaving.{FirstTaken, first-taken}
use Rattle.channel_laws.proofs.Tests.{not-false}
use Rattle.order_laws.specs.Order.{IsTakeOfBody, IsTakeOf, FirstLine, TakesFreeItem, FreeItemsAreTaken}

-- Outputs whose first line is of a kind, and that have these items

pub record Told (P : What → Type 0) (items : List Item) (o : Output) : Type 0 where
  pub first : FirstLine P o.lines
  pub arrived : o.end.arrived ≡ items

pub first-map : (P Q : What → Type 0) (ls : List Line) → ((w : What) → P w → Q w) → FirstLine P ls → FirstLine Q ls
first-map P Q [] h k = absurd k
first-map P Q (l ∷ ls) h k = h l.what k

first-before : (P : What → Type 0) (ls more : List Line) → FirstLine P ls → FirstLine P (ls ++ more)
first-before P [] more h = absurd h
first-before P (l ∷ ls) more h = h

module _ (P : What → Type 0) (items : List Item) where
  told-line : (w : What) (o : Output) → Told P items o → Told P items (line w o)
  told-line w o h = record { first = first-before P o.lines (line_at o.end.side w ∷ []) h.first; arrived = h.arrived }

  told-when : (b : Bool) (change : Change) (o : Output) → ((p : Output) → Told P items p → Told P items (change p)) → Told P items o → Told P items (when b change o)
  told-when true change o k h = k o h
  told-when false change o k h = h

  told-answered : (q : AnsweredRequest) (a : Answer) (o : Output) → Told P items o → Told P items (answered q a o)
  told-answered q a o h = told-when (is_open o.end.state) (line (answer_line q.seq a) ▷ put (message (reply_to q (body_of a)))) o (λ p k. record { first = first-before P p.lines (line_at p.end.side (answer_line q.seq a) ∷ []) k.first; arrived = k.arrived }) h

module _ (schema : Schema) (m : Message) (e : End) where
  handled-told : (row : MessageRow) (vs given : Values) (kind : Kind) → Told (IsTakeOfBody m (Request vs)) e.arrived (send.constructs m.made m.route kind (record { end = record e { stack = takes.dispatch_of row m ∷ e.stack }; lines = line_at e.side (what.Take m.seq m.route m.number given) ∷ []; packets = [] }))
  handled-told row vs given Normal = record { first = (refl, refl, refl); arrived = refl }
  handled-told row vs given (Constructor protocol) = record { first = (refl, refl, refl); arrived = refl }
  handled-told row vs given Delete = record { first = (refl, refl, refl); arrived = refl }

  gone-told : (row : MessageRow) (vs given : Values) (gone : Option ℤ) → Told (IsTakeOfBody m (Request vs)) e.arrived (takes.dropped_or_handled gone row m given (beginning e))
  gone-told row vs given None = handled-told row vs given row.kind
  gone-told row vs given (Some id) =
      told-when (IsTakeOfBody m (Request vs)) e.arrived (is_sync_row row || makes_promise row) (answered (request_answered m) (answer.Fault ActorDestroyed)) (line (what.Drop m.seq m.route m.number id) (beginning e)) (λ p h. told-answered (IsTakeOfBody m (Request vs)) e.arrived (request_answered m) (answer.Fault ActorDestroyed) p h) (record { first = (refl, refl, refl); arrived = refl })

  request-told : (vs : Values) (found : Option MessageRow) → Told (IsTakeOfBody m (Request vs)) e.arrived (option_map_or (takes.request_taken schema m vs) found (line (what.Drop m.seq m.route m.number m.route)) (beginning e))
  request-told vs None = record { first = (refl, refl, refl); arrived = refl }
  request-told vs (Some row) = gone-told row vs (nulled schema e.actors row.params vs) (takes.dropped_for schema e row m vs)

  reply-told : (P : What → Type 0) (a : Answer) (found : Option MessageRow) → P (what.TakeReply m.seq) → Told P e.arrived (option_map_or (takes.reply_taken schema m a) found unchanged (line (what.TakeReply m.seq) (beginning e)))
  reply-told P a None h = record { first = h; arrived = refl }
  reply-told P a (Some row) h =
      let outcome : Outcome = takes.outcome_of (received schema e.actors row a) in
      told-when P e.arrived (takes.is_awaited m.seq e.promises) (takes.settles m.seq outcome) (line (what.TakeReply m.seq) (beginning e))
      (λ p k. told-line P e.arrived (takes.settle_line m.seq outcome) (on_end (λ e. record e { promises = map (takes.settled_entry m.seq outcome) e.promises }) p) (record { first = k.first; arrived = k.arrived })) (record { first = h; arrived = refl })

  pub body-told : (body : Body) → Told (IsTakeOfBody m body) (cond (is_goodbye body) [] e.arrived) (takes.body_taken schema m body (beginning e))
  body-told (Request vs) = request-told vs (message_of schema m.number)
  body-told (Reply vs) = reply-told (IsTakeOfBody m (Reply vs)) (answer.Ok vs) (message_of schema m.number) refl
  body-told (Fault reason) = reply-told (IsTakeOfBody m (Fault reason)) (answer.Fault reason) (message_of schema m.number) refl
  body-told Goodbye = record { first = tt; arrived = refl }

pub item-told : (schema : Schema) (x : Item) (e : End) → Told (IsTakeOf x) (cond (is_farewell x) [] (left_end e).arrived) (takes.take schema x (beginning e))
item-told schema (item.Message m sync level) e =
    let t = body-told schema m (left_end e) m.body in
    record { first = first-map (IsTakeOfBody m m.body) (IsTakeOf (item.Message m sync level)) (takes.take schema (item.Message m sync level) (beginning e)).lines (λ w h. h) t.first; arrived = t.arrived }
item-told schema item.Broken e = record { first = tt; arrived = refl }

-- Takes

not-true : (b : Bool) → not b ≡ false → b ≡ true
not-true true h = refl
not-true false h = cc

all-deferred : (e : End) (items : List Item) → AllByRecursion (λ y. is_free (takes.deferral_context_of e) y ≡ false) items → AllByRecursion (λ y. defers_item (takes.deferral_context_of e) y ≡ true) items
all-deferred e [] h = tt
all-deferred e (x ∷ items) h = (not-true (defers_item (takes.deferral_context_of e) x) h.0, all-deferred e items h.1)

pub step-taken : (schema : Schema) (e : End) (link : List Packet) (output : Output) → step schema e link event.take ≡ Some output → (x : Item) × (takes.taken_next e ≡ Some x) × (takes.take schema x (beginning e) ≡ output)
step-taken schema e link output is =
    found-gives (λ o. (x : Item) × (takes.taken_next e ≡ Some x) × (takes.take schema x (beginning e) ≡ o)) (takes.taken_next e) (λ x. provided true (takes.take schema x) e) output
    (λ x next k. (x, next, same_Some (takes.take schema x (beginning e)) output k)) is

pub item-takes : (schema : Schema) (e : End) (x : Item) → takes.taken_next e ≡ Some x → TakesFreeItem e (takes.take schema x (beginning e))
item-takes schema e x next =
    let f : FirstTaken (is_free (takes.deferral_context_of e)) e.arrived x = first-taken (is_free (takes.deferral_context_of e)) e.arrived x (taken-first e x next) in
    let t = item-told schema x e in
    record {
      taken = x;
      older = f.taken.front;
      younger = f.taken.back;
      arrived = f.taken.whole;
      free = not-false (defers_item (takes.deferral_context_of e) x) f.passes;
      deferred = all-deferred e f.taken.front f.others;
      told = t.first;
      left = t.arrived ∙ ap (λ (items : List Item). cond (is_farewell x) [] items) f.taken.left;
    }

pub step-takes : (schema : Schema) (e : End) (link : List Packet) (output : Output) → step schema e link event.take ≡ Some output → TakesFreeItem e output
step-takes schema e link output is = let s = step-taken schema e link output is in subst (TakesFreeItem e) s.2 (item-takes schema e s.0 s.1)

-- The oldest

pub no-level : (frames : List StackFrame) → AllByRecursion IsAnswered frames → awaited_level frames ≡ None
no-level [] h = refl
no-level (Dispatch head ∷ below) h = refl
no-level (Wait head None ∷ below) h = let k : true ≡ false = h.0 in cc
no-level (Wait head (Some a) ∷ below) h = refl

-- an end that waits for no answer defers nothing
pub all-free : (e : End) (x : Item) → AllByRecursion IsAnswered (frames_of e) → is_free (takes.deferral_context_of e) x ≡ true
all-free e x h = ap (λ (level : Option Level). not (defers_arrival e.side level (Some (unwrap_or (inner_transaction (frames_of e)) (pos 0))) (arrival_of x))) (no-level (frames_of e) h)

pub takes-first : (e : End) (x first : Item) (rest : List Item) → AllByRecursion IsAnswered (frames_of e) → e.arrived ≡ first ∷ rest → takes.taken_next e ≡ Some x → first ≡ x
takes-first e x first rest answered arrived next =
    let test : Item → Bool = is_free (takes.deferral_context_of e) in
    let found : find test (first ∷ rest) ≡ Some x = ap (find test) (sym arrived) ∙ taken-first e x next in
    let there : find test (first ∷ rest) ≡ Some first = ap (λ (b : Bool). cond b (Some first) (find test rest)) (all-free e first answered) in
    same_Some first x (sym there ∙ found)

takes-oldest : (schema : Schema) (e : End) (link : List Packet) (output : Output) (first : Item) (rest : List Item) → AllByRecursion IsAnswered (frames_of e) → e.arrived ≡ first ∷ rest → step schema e link event.take ≡ Some output → FirstLine (IsTakeOf first) output.lines
takes-oldest schema e link output first rest answered arrived is =
    let s = step-taken schema e link output is in
    let t = item-told schema s.0 e in
    let k : FirstLine (IsTakeOf first) (takes.take schema s.0 (beginning e)).lines = subst (λ (x : Item). FirstLine (IsTakeOf x) (takes.take schema s.0 (beginning e)).lines) (sym (takes-first e s.0 first rest answered arrived s.1)) t.first in
    subst (λ (o : Output). FirstLine (IsTakeOf first) o.lines) s.2 k

pub free_items_are_taken : FreeItemsAreTaken
free_items_are_taken = record { takes = λ schema e link output is. step-takes schema e link output is; oldest = λ schema e link output first rest answered arrived is. takes-oldest schema e link output first rest answered arrived is }
