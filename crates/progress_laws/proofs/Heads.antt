-- The first line of every step shows whether its event is an act, and whether it is a flush.
use Rattle.std.proofs.Common.{◌≡◌, ℕ, ℤ, pos, Bool, true, false, ◌||◌, if◌then◌else◌, List, [], ◌∷◌, ◌++◌, drop, map, Option, Some, None, option_and_then, refl, sym, subst}
use Rattle.std.specs.Option.{option_map_or}
use Rattle.ipdl_base.specs.declared.kinds.Destroy.{Destroy}
use Rattle.ipdl_base.specs.declared.kinds.Destroy.TheVariants.{NormalShutdown, AbnormalShutdown}
use Rattle.ipdl_base.specs.declared.kinds.Reason.TheVariants.{ActorDestroyed, ResolverDestroyed}
use Rattle.ipdl_base.specs.declared.kinds.SendRefusal.{SendRefusal}
use Rattle.ipdl_base.specs.declared.kinds.SendRefusal.TheVariants as refusal
use Rattle.ipdl_base.specs.declared.kinds.Side.{Side}
use Rattle.ipdl_base.specs.declared.line.Line.{Line}
use Rattle.ipdl_base.specs.declared.line.What.{What}
use Rattle.ipdl_base.specs.declared.line.What.TheVariants as what
use Rattle.ipdl_base.specs.declared.message.Body.{Body}
use Rattle.ipdl_base.specs.declared.message.Body.TheVariants.{Request, Reply, Fault, Goodbye}
use Rattle.ipdl_base.specs.declared.message.Message.{Message}
use Rattle.ipdl_base.specs.declared.schema.Kind.{Kind}
use Rattle.ipdl_base.specs.declared.schema.Kind.TheVariants.{Normal, Constructor, Delete}
use Rattle.ipdl_base.specs.declared.schema.MessageRow.{MessageRow}
use Rattle.ipdl_base.specs.declared.schema.Schema.{Schema}
use Rattle.ipdl_base.specs.declared.value.Values.{Values}
use Rattle.ipdl_base.specs.Sound.{message_of}
use Rattle.nesting_core.specs.declared.frame.Answer.{Answer}
use Rattle.nesting_core.specs.declared.frame.Answer.TheVariants as answer
use Rattle.nesting_core.specs.Frames.{head_of}
use Rattle.pending_queue.specs.declared.item.Item.{Item}
use Rattle.pending_queue.specs.declared.item.Item.TheVariants as item
use Rattle.promise_table.specs.declared.promise.Outcome.{Outcome}
use Rattle.channel_model.specs.Acts as acts
use Rattle.channel_model.specs.Answers as answers
use Rattle.channel_model.specs.Ends.{End, StackEntry, Packet, message, mark, NameContent, actor, resolver, Resolver}
use Rattle.channel_model.specs.Events.{Event, Answering}
use Rattle.channel_model.specs.Events as event
use Rattle.channel_model.specs.Falls as falls
use Rattle.channel_model.specs.Names.{held_by_name, let_go, renamed, without_name}
use Rattle.channel_model.specs.Numbers.{request_row, is_sync_row, makes_promise}
use Rattle.channel_model.specs.Outputs.{Output, Change, beginning, is_open, unchanged, ◌▷◌, when, on_end, line, line_at, put, AnsweredRequest, answered, request_answered, resolver_answered}
use Rattle.channel_model.specs.Parts
use Rattle.channel_model.specs.Parts.{DeliveryPart, farewell_line, unknown_line}
use Rattle.channel_model.specs.Phases.{Phase}
use Rattle.channel_model.specs.Returns as returns
use Rattle.channel_model.specs.Sends as sends
use Rattle.channel_model.specs.StepLaws.{IsDeliveryOfOnePart}
use Rattle.channel_model.specs.Steps.{step, provided}
use Rattle.channel_model.specs.Takes as takes
use Rattle.channel_model.specs.ValueActors.{nulled, received}
use Rattle.channel_model.proofs.Provided.{provided-gives, found-gives}
use Rattle.channel_model.proofs.StepParts.{steps_are_made_of_parts}
use Rattle.progress_laws.specs.Acts.{happens_by_itself, tells_by_itself}
use Rattle.progress_laws.proofs.WeighedParts.{is_flush, resumes-itself}

-- whether an event is a flush
abbrev pub flushes : Event → Bool
flushes event.flush = true
flushes _ = false

-- a line shows whether its event happens by itself, and whether it is a flush
abbrev pub Tells : Bool → Bool → What → Type 0
Tells own flush w = (tells_by_itself w ≡ own) × (is_flush w ≡ flush)

-- the first line has a property
abbrev pub BeginsWith : (What → Type 0) → List Line → Type 0
BeginsWith P [] = ⊥
BeginsWith P (l ∷ ls) = P l.what

-- What is added after the first line

module _ (P : What → Type 0) where
  abbrev Keeps : Change → Type 0
  Keeps change = (o : Output) → BeginsWith P o.lines → BeginsWith P (change o).lines

  first-stays : (ls more : List Line) → BeginsWith P ls → BeginsWith P (ls ++ more)
  first-stays [] more h = absurd h
  first-stays (l ∷ ls) more h = h

  keeps-line : (w : What) → Keeps (line w)
  keeps-line w o h = first-stays o.lines (line_at o.end.side w ∷ []) h

  keeps-lines : (ws : List What) (o : Output) → BeginsWith P o.lines → BeginsWith P (o.lines ++ map (line_at o.end.side) ws)
  keeps-lines ws o h = first-stays o.lines (map (line_at o.end.side) ws) h

  keeps-when : (b : Bool) (change : Change) → Keeps change → Keeps (when b change)
  keeps-when true change c o h = c o h
  keeps-when false change c o h = h

  keeps-answered : (q : AnsweredRequest) (a : Answer) → Keeps (answered q a)
  keeps-answered q a o h = keeps-when _ _ (λ n k. keeps-line _ n k) o h

  keeps-let_go : (holds : Option NameContent) → Keeps (let_go holds)
  keeps-let_go None o h = h
  keeps-let_go (Some (actor id)) o h = h
  keeps-let_go (Some (resolver r)) o h = keeps-answered (resolver_answered r) (answer.Fault ResolverDestroyed) o h

  keeps-renamed : (name : List ℕ) (holds : Option NameContent) → Keeps (renamed name holds)
  keeps-renamed name holds o h = keeps-let_go (held_by_name name o.end.names) (on_end (λ e. record e { names = without_name name e.names }) o) h

  keeps-deletes : (route : ℤ) (kind : Kind) → Keeps (falls.deletes route kind)
  keeps-deletes route Normal o h = h
  keeps-deletes route (Constructor protocol) o h = h
  keeps-deletes route Delete o h = keeps-lines _ o h

  keeps-closed : (why : Destroy) → Keeps (falls.closed why)
  keeps-closed why o h = keeps-lines _ (falls.abandoned o) (keeps-lines _ o h)

  keeps-settles : (seq : ℤ) (outcome : Outcome) → Keeps (takes.settles seq outcome)
  keeps-settles seq outcome o h = keeps-line (takes.settle_line seq outcome) o h

  keeps-constructs : (id route : ℤ) (kind : Kind) → Keeps (sends.constructs id route kind)
  keeps-constructs id route Normal o h = h
  keeps-constructs id route (Constructor protocol) o h = keeps-line _ o h
  keeps-constructs id route Delete o h = h

  keeps-posted : (lazy : Bool) (m : Message) → Keeps (sends.posted_by lazy m)
  keeps-posted true m o h = h
  keeps-posted false m o h = h

  keeps-awaits : (row : MessageRow) (m : Message) → Keeps (sends.awaits_reply row m)
  keeps-awaits row m o h = keeps-when (makes_promise row) _ (λ n k. k) _ (keeps-when (is_sync_row row) _ (λ n k. k) o h)

  keeps-names : (id : ℤ) (name : Option (List ℕ)) → Keeps (sends.names_actor id name)
  keeps-names id None o h = h
  keeps-names id (Some name) o h = keeps-renamed name (Some (actor id)) o h

  keeps-sent : (row : MessageRow) (m : Message) (name : Option (List ℕ)) (o : Output) → BeginsWith P o.lines
      → BeginsWith P ((sends.posted row m ▷ sends.awaits_reply row m ▷ sends.names_actor m.made name ▷ sends.constructs m.made m.route row.kind ▷ falls.deletes m.route row.kind) o).lines
  keeps-sent row m name o h =
      keeps-deletes m.route row.kind _ (keeps-constructs m.made m.route row.kind _ (keeps-names m.made name _ (keeps-awaits row m _ (keeps-posted row.lazy m o h))))

-- Acts

send-begins : (refused : Option SendRefusal) (row : MessageRow) (m : Message) (vs : Values) (name : Option (List ℕ)) (e : End) → BeginsWith (Tells false false) (sends.sent_unless refused row m vs name (beginning e)).lines
send-begins (Some cause) row m vs name e = (refl, refl)
send-begins None row m vs name e = keeps-sent (Tells false false) row m name _ (first (is_sync_row row))
  where
    first : (sync : Bool) → Tells false false (if sync then what.Call m.seq m.transaction m.route m.number vs else what.Send m.seq m.route m.number vs)
    first true = (refl, refl)
    first false = (refl, refl)

refused-begins : (cause : SendRefusal) (vs : Option Values) → Tells false false (answers.refused_line cause vs)
refused-begins cause None = (refl, refl)
refused-begins cause (Some vs) = (refl, refl)

answering-begins : (seq : ℤ) (vs : Option Values) → Tells false false (answers.answering_line seq vs)
answering-begins seq None = (refl, refl)
answering-begins seq (Some vs) = (refl, refl)

answer-begins : (refused : Option SendRefusal) (by : Answering) (vs : Option Values) (used : Option Resolver) (e : End) → BeginsWith (Tells false false) (answers.answered_unless refused by vs used (beginning e)).lines
answer-begins (Some cause) by vs used e = refused-begins cause vs
answer-begins None by vs None e = refused-begins refusal.DeadActor vs
answer-begins None by vs (Some r) e = answering-begins r.seq vs

close-begins : (refused : Option SendRefusal) (e : End) → BeginsWith (Tells false false) (acts.close_unless refused (beginning e)).lines
close-begins (Some cause) e = (refl, refl)
close-begins None e = keeps-closed (Tells false false) NormalShutdown (put (message acts.goodbye) (line what.Close (beginning e))) (refl, refl)

-- What happens by itself

abbrev left : End → Output
left e = on_end Parts.left_end (beginning e)

request-begins : (schema : Schema) (gone : Option ℤ) (row : MessageRow) (m : Message) (vs : Values) (e : End) → BeginsWith (Tells true false) (takes.dropped_or_handled gone row m vs (left e)).lines
request-begins schema None row m vs e = keeps-constructs (Tells true false) m.made m.route row.kind (on_end (λ e. record e { stack = takes.dispatch_of row m ∷ e.stack }) (line (what.Take m.seq m.route m.number vs) (left e))) (refl, refl)
request-begins schema (Some id) row m vs e = keeps-when (Tells true false) (is_sync_row row || makes_promise row) (answered (request_answered m) (answer.Fault ActorDestroyed)) (keeps-answered (Tells true false) (request_answered m) (answer.Fault ActorDestroyed)) (line (what.Drop m.seq m.route m.number id) (left e)) (refl, refl)

row-begins : (schema : Schema) (m : Message) (vs : Values) (row : Option MessageRow) (e : End) → BeginsWith (Tells true false) (option_map_or (takes.request_taken schema m vs) row (line (what.Drop m.seq m.route m.number m.route)) (left e)).lines
row-begins schema m vs None e = (refl, refl)
row-begins schema m vs (Some row) e = request-begins schema (takes.dropped_for schema (left e).end row m vs) row m (nulled schema (left e).end.actors row.params vs) e

reply-begins : (schema : Schema) (m : Message) (a : Answer) (row : Option MessageRow) (o : Output) → BeginsWith (Tells true false) o.lines → BeginsWith (Tells true false) (option_map_or (takes.reply_taken schema m a) row unchanged o).lines
reply-begins schema m a None o h = h
reply-begins schema m a (Some row) o h = keeps-when (Tells true false) (takes.is_awaited m.seq o.end.promises) (takes.settles m.seq (takes.outcome_of (received schema o.end.actors row a))) (keeps-settles (Tells true false) m.seq (takes.outcome_of (received schema o.end.actors row a))) o h

body-begins : (schema : Schema) (m : Message) (body : Body) (e : End) → BeginsWith (Tells true false) (takes.body_taken schema m body (left e)).lines
body-begins schema m (Request vs) e = row-begins schema m vs (message_of schema m.number) e
body-begins schema m (Reply vs) e = reply-begins schema m (answer.Ok vs) (message_of schema m.number) _ (refl, refl)
body-begins schema m (Fault reason) e = reply-begins schema m (answer.Fault reason) (message_of schema m.number) _ (refl, refl)
body-begins schema m Goodbye e = keeps-closed (Tells true false) NormalShutdown (line what.ShutNormal (left e)) (refl, refl)

take-begins : (schema : Schema) (x : Item) (e : End) → BeginsWith (Tells true false) (takes.take schema x (beginning e)).lines
take-begins schema (item.Message m sync level) e = body-begins schema m m.body e
take-begins schema item.Broken e = keeps-closed (Tells true false) AbnormalShutdown (line what.ShutAbnormal (left e)) (refl, refl)

return-begins : (schema : Schema) (e : End) (row : MessageRow) (entry : StackEntry) (vs : Option Values) → BeginsWith (Tells true false) (returns.return schema e row entry vs (beginning e)).lines
return-begins schema e row entry vs =
    let told : Change = answered (returns.dispatch_answered entry) (returns.return_answer schema e row entry vs) in
    let lost : Change = answered (resolver_answered (answers.resolver_in entry)) (answer.Fault ResolverDestroyed) in
    let first : Output = line (what.Return (head_of entry.frame).seq) (on_end (λ x. record x { stack = drop 1 x.stack }) (beginning e)) in
    let k : BeginsWith (Tells true false) first.lines = (refl, refl) in
    keeps-deletes (Tells true false) entry.route row.kind (when entry.resolves lost (when (is_sync_row row) told first))
    (keeps-when (Tells true false) entry.resolves lost (keeps-answered (Tells true false) (resolver_answered (answers.resolver_in entry)) (answer.Fault ResolverDestroyed)) (when (is_sync_row row) told first)
    (keeps-when (Tells true false) (is_sync_row row) told (keeps-answered (Tells true false) (returns.dispatch_answered entry) (returns.return_answer schema e row entry vs)) first k))

-- Deliveries

farewell-begins : (packet : Packet) → Tells true false (farewell_line packet)
farewell-begins (message m) = (refl, refl)
farewell-begins mark = (refl, refl)

unknown-begins : (seq : ℤ) (body : Body) → Tells true false (unknown_line seq body)
unknown-begins seq (Request vs) = (refl, refl)
unknown-begins seq (Reply vs) = (refl, refl)
unknown-begins seq (Fault reason) = (refl, refl)
unknown-begins seq Goodbye = (refl, refl)

delivery-begins : {schema : Schema} {packet : Packet} {p : Phase} {e f : End} {ws : List What} {ps : List Packet} (side : Side) → DeliveryPart schema packet e ws ps f p → BeginsWith (Tells true false) (map (line_at side) ws)
delivery-begins side (Parts.gets_request m row vs body found none) = (refl, refl)
delivery-begins side (Parts.replaces m row vs old sync level replies body found rep is) = (refl, refl)
delivery-begins side (Parts.gets_answer m row a body found sync) = (refl, refl)
delivery-begins side (Parts.gets_reply m row a body found async) = (refl, refl)
delivery-begins side (Parts.drains packet is) = farewell-begins packet
delivery-begins side (Parts.passes_by m ordinary none) = unknown-begins m.seq m.body

-- Steps

abbrev BeginsWithOf : Bool → Bool → Output → Type 0
BeginsWithOf own flush output = BeginsWith (Tells own flush) output.lines

abbrev Begun : Event → Output → Type 0
Begun ev output = BeginsWith (Tells (happens_by_itself ev) (flushes ev)) output.lines

pub step-begins : (schema : Schema) (e : End) (link : List Packet) (ev : Event) (output : Output) → step schema e link ev ≡ Some output → Begun ev output
step-begins schema e link (event.send route number vs name) output is =
    found-gives (BeginsWithOf false false) (request_row schema number) (λ row. provided (sends.may_send schema e row vs name) (sends.send schema e row route vs name) e) output
    (λ row found. provided-gives (BeginsWithOf false false) (sends.may_send schema e row vs name) (sends.send schema e row route vs name) e output
    (λ may. send-begins (sends.send_refusal schema e row route vs) row (sends.request_of e row route vs) vs name e)) is
step-begins schema e link (event.answer by vs) output is =
    found-gives (BeginsWithOf false false) (answers.answered_row schema e by) (λ row. provided (answers.may_answer schema e row vs) (answers.answer schema e row by vs) e) output
    (λ row found. provided-gives (BeginsWithOf false false) (answers.may_answer schema e row vs) (answers.answer schema e row by vs) e output
    (λ may. answer-begins (answers.answer_refusal schema e row by vs) by vs (answers.resolver_used e by) e)) is
step-begins schema e link (event.keep seq name) output is =
    provided-gives (BeginsWithOf false false) (answers.may_keep e seq) (answers.keep e seq name) e output (λ may. keeps-renamed (Tells false false) name (option_and_then (answers.kept_by e) (answers.handled_resolver e seq)) (on_end (λ x. record x { stack = answers.released seq x.stack }) (line (what.Keep seq name) (beginning e))) (refl, refl)) is
step-begins schema e link (event.name name id) output is =
    provided-gives (BeginsWithOf false false) (sends.may_act e) (acts.name_actor name id) e output (λ may. keeps-renamed (Tells false false) name (if acts.is_positive id then Some (actor id) else None) (line (what.Let name (if acts.is_positive id then id else pos 0)) (beginning e)) (refl, refl)) is
step-begins schema e link event.close output is =
    provided-gives (BeginsWithOf false false) (sends.may_act e) (acts.close e) e output (λ may. close-begins (acts.close_refusal e) e) is
step-begins schema e link event.die output is =
    provided-gives (BeginsWithOf false false) (acts.may_die e) acts.die e output (λ may. keeps-when (Tells false false) (is_open e.state) (put mark) (λ n k. k) (line what.Die (beginning e)) (refl, refl)) is
step-begins schema e link event.deliver output is = by (steps_are_made_of_parts schema e link event.deliver output is)
  where
    by : IsDeliveryOfOnePart schema e link output → Begun event.deliver output
    by (packet, found, opened, made) = subst (BeginsWith (Tells true false)) (sym made.lines) (delivery-begins e.side made.parts)
step-begins schema e link event.take output is =
    found-gives (BeginsWithOf true false) (takes.taken_next e) (λ x. provided true (takes.take schema x) e) output
    (λ x found. provided-gives (BeginsWithOf true false) true (takes.take schema x) e output (λ may. take-begins schema x e)) is
step-begins schema e link (event.return vs) output is =
    found-gives (BeginsWithOf true false) (returns.dispatch_on_top e.stack) (λ entry. option_and_then (λ row. provided (returns.may_return schema row vs) (returns.return schema e row entry vs) e) (request_row schema entry.number)) output
    (λ entry on_top. found-gives (BeginsWithOf true false) (request_row schema entry.number) (λ row. provided (returns.may_return schema row vs) (returns.return schema e row entry vs) e) output
    (λ row found. provided-gives (BeginsWithOf true false) (returns.may_return schema row vs) (returns.return schema e row entry vs) e output
    (λ may. return-begins schema e row entry vs))) is
step-begins schema e link event.resume output is =
    found-gives (BeginsWithOf true false) (returns.answered_wait_on_top e.stack) (λ wait. option_and_then (λ row. provided true (returns.resume schema e wait row) e) (request_row schema wait.number)) output
    (λ wait on_top. found-gives (BeginsWithOf true false) (request_row schema wait.number) (λ row. provided true (returns.resume schema e wait row) e) output
    (λ row found. provided-gives (BeginsWithOf true false) true (returns.resume schema e wait row) e output (λ may. resumes-itself wait.seq (received schema e.actors row wait.given)))) is
step-begins schema e link event.flush output is =
    provided-gives (BeginsWithOf true true) (returns.may_flush e) returns.flush e output (λ may. (refl, refl)) is
