-- The first line of a step shows which event it is of.
use Rattle.std.proofs.Common.{◌≡◌, ℕ, ◌+◌, ℤ, pos, Bool, true, false, if◌then◌else◌, List, [], ◌∷◌, ◌++◌, map, Option, Some, None, sym, subst, option_and_then}
use Rattle.ipdl_base.specs.declared.kinds.Reason.TheVariants.{ResolverDestroyed}
use Rattle.ipdl_base.specs.declared.kinds.SendRefusal.{SendRefusal}
use Rattle.ipdl_base.specs.declared.kinds.Side.{Side}
use Rattle.ipdl_base.specs.declared.line.Line.{Line}
use Rattle.ipdl_base.specs.declared.line.What.{What}
use Rattle.ipdl_base.specs.declared.line.What.TheVariants as what
use Rattle.ipdl_base.specs.declared.message.Body.{Body}
use Rattle.ipdl_base.specs.declared.message.Body.TheVariants.{Request, Reply, Fault, Goodbye}
use Rattle.ipdl_base.specs.declared.message.Message.{Message}
use Rattle.ipdl_base.specs.declared.schema.Kind.{Kind}
use Rattle.ipdl_base.specs.declared.schema.Kind.TheVariants.{Normal, Constructor, Delete}
use Rattle.ipdl_base.specs.declared.schema.MessageRow.{MessageRow}
use Rattle.ipdl_base.specs.declared.schema.Schema.{Schema}
use Rattle.ipdl_base.specs.declared.value.Values.{Values}
use Rattle.nesting_core.specs.declared.frame.Answer.{Answer}
use Rattle.nesting_core.specs.declared.frame.Answer.TheVariants as answer
use Rattle.nesting_core.specs.Frames.{head_of}
use Rattle.pending_queue.specs.declared.item.Item.{Item}
use Rattle.pending_queue.specs.declared.item.Item.TheVariants as item
use Rattle.channel_model.specs.Acts as acts
use Rattle.channel_model.specs.Answers as answering
use Rattle.channel_model.specs.Ends.{End, NameContent, Packet, Resolver, StackEntry, actor, message, mark, resolver}
use Rattle.channel_model.specs.Events.{Answering, Event, handled, kept}
use Rattle.channel_model.specs.Events as event
use Rattle.channel_model.specs.Falls as falls
use Rattle.channel_model.specs.Names.{held_by_name, let_go, renamed, without_name}
use Rattle.channel_model.specs.Numbers.{counting, is_sync_row, makes_promise, request_row}
use Rattle.channel_model.specs.Outputs.{AnsweredRequest, Change, Output, ◌▷◌, answer_line, answered, beginning, body_of, is_open, line, line_at, on_end, put, reply_to, resolver_answered, when}
use Rattle.channel_model.specs.Parts
use Rattle.channel_model.specs.Parts.{DeliveryPart, unknown_line}
use Rattle.channel_model.specs.Phases.{Phase}
use Rattle.channel_model.specs.Returns as returns
use Rattle.channel_model.specs.Sends as sends
use Rattle.channel_model.specs.Steps.{provided, step}
use Rattle.channel_model.specs.ValueActors.{received}
use Rattle.channel_model.proofs.Provided.{found-gives, provided-gives}
use Rattle.channel_model.proofs.StepParts.{steps_are_made_of_parts}
use Rattle.law_statements.specs.Said.{line_of}
use Rattle.order_laws.specs.Order.{FirstLine, IsTakeOf, IsTakeOfBody}
use Rattle.order_laws.proofs.Takes.{step-takes}

-- a line is the first of an event of this kind
abbrev pub IsLineOf : Event → What → Type 0
IsLineOf (event.send to number vs name) (what.Send n route k values) = Unit {0}
IsLineOf (event.send to number vs name) (what.Call n transaction route k values) = Unit {0}
IsLineOf (event.send to number vs name) (what.RefusedSend cause k) = Unit {0}
IsLineOf (event.send to number vs name) _ = ⊥
IsLineOf (event.answer by vs) (what.Resolve n values) = Unit {0}
IsLineOf (event.answer by vs) (what.Reject n) = Unit {0}
IsLineOf (event.answer by vs) (what.RefusedResolve cause) = Unit {0}
IsLineOf (event.answer by vs) (what.RefusedReject cause) = Unit {0}
IsLineOf (event.answer by vs) _ = ⊥
IsLineOf (event.keep seq name) (what.Keep n given) = Unit {0}
IsLineOf (event.keep seq name) _ = ⊥
IsLineOf (event.name name id) (what.Let given to) = Unit {0}
IsLineOf (event.name name id) _ = ⊥
IsLineOf event.close what.Close = Unit {0}
IsLineOf event.close (what.RefusedClose cause) = Unit {0}
IsLineOf event.close _ = ⊥
IsLineOf event.die what.Die = Unit {0}
IsLineOf event.die _ = ⊥
IsLineOf event.deliver (what.DeliverRequest n) = Unit {0}
IsLineOf event.deliver (what.DeliverReply n) = Unit {0}
IsLineOf event.deliver what.DeliverGoodbye = Unit {0}
IsLineOf event.deliver what.DeliverBroken = Unit {0}
IsLineOf event.deliver _ = ⊥
IsLineOf event.take (what.Take n route number values) = Unit {0}
IsLineOf event.take (what.Drop n route number id) = Unit {0}
IsLineOf event.take (what.TakeReply n) = Unit {0}
IsLineOf event.take what.ShutNormal = Unit {0}
IsLineOf event.take what.ShutAbnormal = Unit {0}
IsLineOf event.take _ = ⊥
IsLineOf (event.return vs) (what.Return n) = Unit {0}
IsLineOf (event.return vs) _ = ⊥
IsLineOf event.resume (what.ResumeOk n values) = Unit {0}
IsLineOf event.resume (what.ResumeFault n reason) = Unit {0}
IsLineOf event.resume _ = ⊥
IsLineOf event.flush (what.Flush count) = Unit {0}
IsLineOf event.flush _ = ⊥

-- Later parts of a step leave the first line

module _ (P : What → Type 0) where
  abbrev Begins : Output → Type 0
  Begins o = FirstLine P o.lines

  first-stays : (ls more : List Line) → FirstLine P ls → FirstLine P (ls ++ more)
  first-stays [] more h = absurd h
  first-stays (l ∷ ls) more h = h

  begins-line : (w : What) (o : Output) → Begins o → Begins (line w o)
  begins-line w o h = first-stays o.lines (line_at o.end.side w ∷ []) h

  begins-when : (b : Bool) (change : Change) (o : Output) → (Begins o → Begins (change o)) → Begins o → Begins (when b change o)
  begins-when true change o k h = k h
  begins-when false change o k h = h

  begins-answered : (q : AnsweredRequest) (a : Answer) (o : Output) → Begins o → Begins (answered q a o)
  begins-answered q a o h = begins-when (is_open o.end.state) (line (answer_line q.seq a) ▷ put (message (reply_to q (body_of a)))) o (λ k. begins-line (answer_line q.seq a) o k) h

  begins-let_go : (holds : Option NameContent) (o : Output) → Begins o → Begins (let_go holds o)
  begins-let_go None o h = h
  begins-let_go (Some (actor id)) o h = h
  begins-let_go (Some (resolver r)) o h = begins-answered (resolver_answered r) (answer.Fault ResolverDestroyed) o h

  begins-renamed : (name : List ℕ) (holds : Option NameContent) (o : Output) → Begins o → Begins (renamed name holds o)
  begins-renamed name holds o h = begins-let_go (held_by_name name o.end.names) (on_end (λ e. record e { names = without_name name e.names }) o) h

  begins-deletes : (route : ℤ) (kind : Kind) (o : Output) → Begins o → Begins (falls.deletes route kind o)
  begins-deletes route Normal o h = h
  begins-deletes route (Constructor protocol) o h = h
  begins-deletes route Delete o h = first-stays o.lines _ h

  begins-constructs : (id route : ℤ) (kind : Kind) (o : Output) → Begins o → Begins (sends.constructs id route kind o)
  begins-constructs id route Normal o h = h
  begins-constructs id route (Constructor protocol) o h = first-stays o.lines _ h
  begins-constructs id route Delete o h = h

  begins-posted : (lazy : Bool) (m : Message) (o : Output) → Begins o → Begins (sends.posted_by lazy m o)
  begins-posted true m o h = h
  begins-posted false m o h = h

  begins-names : (id : ℤ) (name : Option (List ℕ)) (o : Output) → Begins o → Begins (sends.names_actor id name o)
  begins-names id None o h = h
  begins-names id (Some name) o h = begins-renamed name (Some (actor id)) o h

  begins-awaits : (row : MessageRow) (m : Message) (o : Output) → Begins o → Begins (sends.awaits_reply row m o)
  begins-awaits row m o h =
      let waits : Change = on_end (λ e. record e { stack = sends.wait_for row m ∷ e.stack }) in
      begins-when (makes_promise row) _ (when (is_sync_row row) waits o) (λ k. k) (begins-when (is_sync_row row) waits o (λ k. k) h)

  pub sent-begins : (row : MessageRow) (m : Message) (vs : Values) (name : Option (List ℕ)) (e : End) → P (sends.send_line row m vs) → Begins (sends.sent row m vs name (beginning e))
  sent-begins row m vs name e h =
      let o1 : Output = (line (sends.send_line row m vs) ▷ on_end (λ e. record e { sent = e.sent + 1; constructors_sent = counting row.kind e.constructors_sent })) (beginning e) in
      let o2 : Output = sends.posted row m o1 in
      let o3 : Output = sends.awaits_reply row m o2 in
      let o4 : Output = sends.names_actor m.made name o3 in
      let o5 : Output = sends.constructs m.made m.route row.kind o4 in
      begins-deletes m.route row.kind o5 (begins-constructs m.made m.route row.kind o4 (begins-names m.made name o3 (begins-awaits row m o2 (begins-posted row.lazy m o1 h))))

  return-begins : (schema : Schema) (e : End) (row : MessageRow) (entry : StackEntry) (vs : Option Values) → P (what.Return (head_of entry.frame).seq) → Begins (returns.return schema e row entry vs (beginning e))
  return-begins schema e row entry vs h =
      let o1 : Output = (returns.popped ▷ line (what.Return (head_of entry.frame).seq)) (beginning e) in
      let a : Change = answered (returns.dispatch_answered entry) (returns.return_answer schema e row entry vs) in
      let o2 : Output = when (is_sync_row row) a o1 in
      let d : Change = answered (resolver_answered (answering.resolver_in entry)) (answer.Fault ResolverDestroyed) in
      let o3 : Output = when entry.resolves d o2 in
      begins-deletes entry.route row.kind o3
      (begins-when entry.resolves d o2 (λ k. begins-answered (resolver_answered (answering.resolver_in entry)) (answer.Fault ResolverDestroyed) o2 k)
      (begins-when (is_sync_row row) a o1 (λ k. begins-answered (returns.dispatch_answered entry) (returns.return_answer schema e row entry vs) o1 k) h))

-- Each event

abbrev Has : Event → Output → Type 0
Has ev o = FirstLine (IsLineOf ev) o.lines

send-line : (to : ℤ) (number : ℕ) (vs : Values) (name : Option (List ℕ)) (b : Bool) (m : Message) (given : Values) → IsLineOf (event.send to number vs name) (if b then what.Call m.seq m.transaction m.route m.number given else what.Send m.seq m.route m.number given)
send-line to number vs name true m given = tt
send-line to number vs name false m given = tt

send-has : (to : ℤ) (number : ℕ) (vs : Values) (name : Option (List ℕ)) (e : End) (row : MessageRow) (m : Message) (refused : Option SendRefusal) → Has (event.send to number vs name) (sends.sent_unless refused row m vs name (beginning e))
send-has to number vs name e row m (Some cause) = tt
send-has to number vs name e row m None = sent-begins (IsLineOf (event.send to number vs name)) row m vs name e (send-line to number vs name (is_sync_row row) m vs)

refused-has : (by : Answering) (vs : Option Values) (cause : SendRefusal) → IsLineOf (event.answer by vs) (answering.refused_line cause vs)
refused-has by None cause = tt
refused-has by (Some vs) cause = tt

answering-has : (by : Answering) (vs : Option Values) (n : ℤ) → IsLineOf (event.answer by vs) (answering.answering_line n vs)
answering-has by None n = tt
answering-has by (Some vs) n = tt

answer-has : (by : Answering) (vs : Option Values) (e : End) (refused : Option SendRefusal) (r : Option Resolver) → Has (event.answer by vs) (answering.answered_unless refused by vs r (beginning e))
answer-has by vs e (Some cause) r = refused-has by vs cause
answer-has by vs e None None = refused-has by vs _
answer-has by vs e None (Some r) = answering-has by vs r.seq

close-has : (e : End) (refused : Option SendRefusal) → Has event.close (acts.close_unless refused (beginning e))
close-has e None = tt
close-has e (Some cause) = tt

die-has : (e : End) → Has event.die (acts.die (beginning e))
die-has e = by (is_open e.state)
  where
    by : (b : Bool) → FirstLine (IsLineOf event.die) (when b (put mark) (line what.Die (beginning e))).lines
    by true = tt
    by false = tt

unknown-has : (n : ℤ) (body : Body) → IsLineOf event.deliver (unknown_line n body)
unknown-has n (Request vs) = tt
unknown-has n (Reply vs) = tt
unknown-has n (Fault reason) = tt
unknown-has n Goodbye = tt

farewell-has : (packet : Packet) → IsLineOf event.deliver (Parts.farewell_line packet)
farewell-has (message m) = tt
farewell-has mark = tt

delivery-has : {schema : Schema} {packet : Packet} {e f : End} {ws : List What} {ps : List Packet} {q : Phase} (side : Side) → DeliveryPart schema packet e ws ps f q → FirstLine (IsLineOf event.deliver) (map (line_at side) ws)
delivery-has side (Parts.gets_request m row vs body found none) = tt
delivery-has side (Parts.replaces m row vs old sync level replies body found rep is) = tt
delivery-has side (Parts.gets_answer m row a body found sync) = tt
delivery-has side (Parts.gets_reply m row a body found sync) = tt
delivery-has side (Parts.drains packet is) = farewell-has packet
delivery-has side (Parts.passes_by m other none) = unknown-has m.seq m.body

body-take : (m : Message) (body : Body) (w : What) → IsTakeOfBody m body w → IsLineOf event.take w
body-take m (Request vs) (what.Take n route number values) h = tt
body-take m (Request vs) (what.Drop n route number id) h = tt
body-take m (Request vs) _ h = absurd h
body-take m (Reply vs) (what.TakeReply n) h = tt
body-take m (Reply vs) _ h = absurd h
body-take m (Fault reason) (what.TakeReply n) h = tt
body-take m (Fault reason) _ h = absurd h
body-take m Goodbye what.ShutNormal h = tt
body-take m Goodbye _ h = absurd h

item-take : (x : Item) (w : What) → IsTakeOf x w → IsLineOf event.take w
item-take (item.Message m sync level) w h = body-take m m.body w h
item-take item.Broken what.ShutAbnormal h = tt
item-take item.Broken _ h = absurd h

first-map : (P Q : What → Type 0) (ls : List Line) → ((w : What) → P w → Q w) → FirstLine P ls → FirstLine Q ls
first-map P Q [] f h = absurd h
first-map P Q (l ∷ ls) f h = f l.what h

resume-has : (n : ℤ) (a : Answer) → IsLineOf event.resume (returns.resume_line n a)
resume-has n (answer.Ok vs) = tt
resume-has n (answer.Fault reason) = tt

first-has : (schema : Schema) (e : End) (link : List Packet) (ev : Event) (output : Output) → step schema e link ev ≡ Some output → Has ev output
first-has schema e link (event.send to number vs name) output is =
    found-gives (Has (event.send to number vs name)) (request_row schema number) (λ row. provided (sends.may_send schema e row vs name) (sends.send schema e row to vs name) e) output
    (λ row found k. provided-gives (Has (event.send to number vs name)) (sends.may_send schema e row vs name) (sends.send schema e row to vs name) e output (λ may. send-has to number vs name e row (sends.request_of e row to vs) (sends.send_refusal schema e row to vs)) k) is
first-has schema e link (event.answer by vs) output is =
    found-gives (Has (event.answer by vs)) (answering.answered_row schema e by) (λ row. provided (answering.may_answer schema e row vs) (answering.answer schema e row by vs) e) output
    (λ row found k. provided-gives (Has (event.answer by vs)) (answering.may_answer schema e row vs) (answering.answer schema e row by vs) e output (λ may. answer-has by vs e (answering.answer_refusal schema e row by vs) (answering.resolver_used e by)) k) is
first-has schema e link (event.keep seq name) output is =
    provided-gives (Has (event.keep seq name)) (answering.may_keep e seq) (answering.keep e seq name) e output
    (λ may. begins-renamed (IsLineOf (event.keep seq name)) name (option_and_then (answering.kept_by e) (answering.handled_resolver e seq)) ((line (what.Keep seq name) ▷ on_end (λ e. record e { stack = answering.released seq e.stack })) (beginning e)) tt) is
first-has schema e link (event.name name id) output is =
    provided-gives (Has (event.name name id)) (sends.may_act e) (acts.name_actor name id) e output
    (λ may. begins-renamed (IsLineOf (event.name name id)) name (if acts.is_positive id then Some (actor id) else None) (line (what.Let name (if acts.is_positive id then id else pos 0)) (beginning e)) tt) is
first-has schema e link event.close output is = provided-gives (Has event.close) (sends.may_act e) (acts.close e) e output (λ may. close-has e (acts.close_refusal e)) is
first-has schema e link event.die output is = provided-gives (Has event.die) (acts.may_die e) acts.die e output (λ may. die-has e) is
first-has schema e link event.deliver output is =
    let d = steps_are_made_of_parts schema e link event.deliver output is in
    subst (FirstLine (IsLineOf event.deliver)) (sym d.3.lines) (delivery-has e.side d.3.parts)
first-has schema e link event.take output is = let t = step-takes schema e link output is in first-map (IsTakeOf t.taken) (IsLineOf event.take) output.lines (item-take t.taken) t.told
first-has schema e link (event.return vs) output is =
    found-gives (Has (event.return vs)) (returns.dispatch_on_top e.stack) (λ entry. option_and_then (λ row. provided (returns.may_return schema row vs) (returns.return schema e row entry vs) e) (request_row schema entry.number)) output
    (λ entry top k. found-gives (Has (event.return vs)) (request_row schema entry.number) (λ row. provided (returns.may_return schema row vs) (returns.return schema e row entry vs) e) output
    (λ row found l. provided-gives (Has (event.return vs)) (returns.may_return schema row vs) (returns.return schema e row entry vs) e output (λ may. return-begins (IsLineOf (event.return vs)) schema e row entry vs tt) l) k) is
first-has schema e link event.resume output is =
    found-gives (Has event.resume) (returns.answered_wait_on_top e.stack) (λ wait. option_and_then (λ row. provided true (returns.resume schema e wait row) e) (request_row schema wait.number)) output
    (λ wait top k. found-gives (Has event.resume) (request_row schema wait.number) (λ row. provided true (returns.resume schema e wait row) e) output
    (λ row found l. provided-gives (Has event.resume) true (returns.resume schema e wait row) e output (λ may. resume-has wait.seq (received schema e.actors row wait.given)) l) k) is
first-has schema e link event.flush output is = provided-gives (Has event.flush) (returns.may_flush e) returns.flush e output (λ may. tt) is

-- the event of a step whose lines begin with this one
pub line-of-event : (schema : Schema) (e : End) (link : List Packet) (ev : Event) (output : Output) (end : Side) (w : What) (effects : List What) → step schema e link ev ≡ Some output → output.lines ≡ map (line_of end) (w ∷ effects) → IsLineOf ev w
line-of-event schema e link ev output end w effects is at = subst (FirstLine (IsLineOf ev)) at (first-has schema e link ev output is)

-- a line that is known to be the first
pub first-is : (end : Side) (w v : What) (effects : List What) (ls : List Line) → FirstLine (λ x. x ≡ v) ls → ls ≡ map (line_of end) (w ∷ effects) → w ≡ v
first-is end w v effects ls h at = subst (FirstLine (λ x. x ≡ v)) at h
