-- What each event does to the dispatches of a stack, and which line shows it.
use Rattle.std.proofs.Common.{◌≡◌, ◌≢◌, ◌⊎◌, inl, inr, ℕ, zero, suc, ◌+◌, ◌*◌, ℤ, pos, Bool, true, false, not, ◌&&◌, ◌||◌, if◌then◌else◌, List, [], ◌∷◌, ◌++◌, map, drop, length, Option, Some, None, is_none, option_and_then, refl, sym, ap, ◌∙◌, arith}
use Rattle.std.specs.Option.{option_map_or}
use Rattle.std.proofs.lemmas.List.{append-nil}
use Rattle.ipdl_base.specs.declared.kinds.Destroy.TheVariants as destroy
use Rattle.ipdl_base.specs.declared.kinds.Reason.TheVariants as reason
use Rattle.ipdl_base.specs.declared.kinds.SendRefusal.{SendRefusal}
use Rattle.ipdl_base.specs.declared.kinds.SendRefusal.TheVariants as refusal
use Rattle.ipdl_base.specs.declared.kinds.Side.{Side}
use Rattle.ipdl_base.specs.declared.kinds.Side.TheVariants as sides
use Rattle.ipdl_base.specs.declared.line.Line.{Line}
use Rattle.ipdl_base.specs.declared.line.What.{What}
use Rattle.ipdl_base.specs.declared.line.What.TheVariants as what
use Rattle.ipdl_base.specs.declared.message.Body.{Body}
use Rattle.ipdl_base.specs.declared.message.Body.TheVariants.{Request, Reply, Fault, Goodbye}
use Rattle.ipdl_base.specs.declared.message.Message.{Message}
use Rattle.ipdl_base.specs.declared.schema.Kind.{Kind}
use Rattle.ipdl_base.specs.declared.schema.Kind.TheVariants.{Normal, Constructor, Delete}
use Rattle.ipdl_base.specs.declared.schema.MessageRow.{MessageRow}
use Rattle.ipdl_base.specs.declared.schema.Schema.{Schema}
use Rattle.ipdl_base.specs.declared.value.Values.{Values}
use Rattle.ipdl_base.specs.Sound.{message_of}
use Rattle.ipdl_base.specs.declared.kinds.Level.{Level}
use Rattle.ipdl_base.specs.declared.kinds.Level.TheVariants.{Not}
use Rattle.nesting_core.specs.declared.frame.Answer.{Answer}
use Rattle.nesting_core.specs.declared.frame.Answer.TheVariants as answer
use Rattle.nesting_core.specs.declared.frame.StackFrame.{StackFrame}
use Rattle.nesting_core.specs.declared.frame.StackFrame.TheVariants.{Dispatch, Wait}
use Rattle.nesting_core.specs.Answers.{with_answer}
use Rattle.nesting_core.specs.Frames.{head_of}
use Rattle.pending_queue.specs.declared.item.Item.{Item}
use Rattle.pending_queue.specs.declared.item.Item.TheVariants as item
use Rattle.pending_queue.specs.Compression.{replaced}
use Rattle.pending_queue.specs.DeferralContext.{is_free, without_first}
use Rattle.channel_model.specs.Acts as acts
use Rattle.channel_model.specs.Answers as answering
use Rattle.channel_model.specs.Deliveries as delivery
use Rattle.channel_model.specs.Ends.{End, Packet, message, mark, StackEntry, Resolver, NameContent, actor, resolver}
use Rattle.channel_model.specs.Events.{Answering, handled, kept, Event}
use Rattle.channel_model.specs.Events as event
use Rattle.channel_model.specs.Falls as falls
use Rattle.channel_model.specs.Names.{has_name, renamed}
use Rattle.ipdl_base.specs.Sides.{sends}
use Rattle.channel_model.specs.Numbers.{id_of, is_sync_row, is_constructor, makes_promise, request_row}
use Rattle.channel_model.specs.Outputs.{Output, Change, beginning, unchanged, ◌▷◌, when, on_end, line, line_at, put, is_open, answered, destroyed, request_answered}
use Rattle.channel_model.specs.Returns as returns
use Rattle.channel_model.specs.Sends as send
use Rattle.channel_model.specs.Steps.{step, provided, first_packet}
use Rattle.channel_model.specs.Takes as takes
use Rattle.channel_model.specs.Typed.{have_types}
use Rattle.channel_model.specs.ValueActors.{nulled, received}
use Rattle.channel_model.proofs.Counted.{kept-frames}
use Rattle.channel_model.proofs.Known.{all-filter}
use Rattle.channel_model.proofs.Provided.{provided-gives, found-gives}
use Rattle.channel_model.proofs.Tests.{and-right}
use Rattle.promise_table.specs.declared.promise.Outcome.{Outcome}
use Rattle.script_steps.specs.Progress.{Progress, is_act, after_line}
use Rattle.script_runs.specs.Dispatches.{dispatches, request_dispatch, body_dispatch, item_dispatch}
use Rattle.script_runs.proofs.Leaves.{leaves-constructs, NameNoNulls, NamesNoNull, Leaves, leads-same, leaves-unchanged, leaves-both, leaves-when, leaves-end, leaves-line, leaves-put, leaves-open, leaves-answered, leaves-destroyed, IsNoNull, leaves-renamed, leaves-deletes, leaves-closed, NamesSome, following_line, leaves-sent}

-- An output after a first line, with these dispatches.
pub record Following (e : End) (w : What) (entries : List StackEntry) (output : Output) : Type 0 where
  pub more : List Line
  pub lines : output.lines ≡ line_at e.side w ∷ more
  pub stack : dispatches output.end.stack ≡ entries
  pub names : NameNoNulls e → NameNoNulls output.end

begins : (e : End) (w : What) (c : Change) → Leaves c → Following e w (dispatches e.stack) (c (line w (beginning e)))
begins e w c h = let k = h (line w (beginning e)) in record { more = k.more; lines = k.lines; stack = k.stack; names = k.names }

-- a line of neither an act nor a handler: the handlers do not change, and no take is open
abbrev pub Passes : What → Type 0
Passes w = (p : Progress) → ((after_line p w).handled ≡ p.handled) × ((after_line p w).takes ≡ false)

-- an act, after which the dispatches are these
abbrev pub ShowsAct : End → List StackEntry → Output → Type 0
ShowsAct e entries output = (w : What) × (is_act w ≡ true) × Following e w entries output

-- something else, which does not change the dispatches
abbrev pub ShowsPassing : End → List StackEntry → Output → Type 0
ShowsPassing e entries output = (w : What) × Passes w × Following e w entries output

-- the line of an actor that a request builds as it is handled
abbrev pub built_lines : ℤ → Kind → List What
built_lines id Normal = []
built_lines id (Constructor protocol) = what.Built id protocol ∷ []
built_lines id Delete = []

-- the dispatch that a take adds, if it adds one
abbrev pub taken_dispatch : Schema → End → Option StackEntry
taken_dispatch schema e = option_and_then (item_dispatch schema e) (takes.taken_next e)

-- A request is handled.
pub record ShowsHandling (schema : Schema) (e : End) (output : Output) : Type 0 where
  pub m : Message
  pub sync : Bool
  pub level : Level
  pub row : MessageRow
  pub vs : Values
  pub next : takes.taken_next e ≡ Some (item.Message m sync level)
  pub body : m.body ≡ Request vs
  pub found : message_of schema m.number ≡ Some row
  pub lines : output.lines ≡ map (line_at e.side) (what.Take m.seq m.route m.number (nulled schema e.actors row.params vs) ∷ built_lines m.made row.kind)
  pub stack : dispatches output.end.stack ≡ takes.dispatch_of row m ∷ dispatches e.stack
  pub adds : taken_dispatch schema e ≡ Some (takes.dispatch_of row m)
  pub names : NameNoNulls e → NameNoNulls output.end

-- what an event shows
abbrev pub Shows : Schema → End → Event → Output → Type 0
Shows schema e (event.send route number vs name) output = ShowsAct e (dispatches e.stack) output
Shows schema e (event.answer (handled seq) vs) output = ShowsAct e (dispatches e.stack) output ⊎ ShowsAct e (dispatches (answering.released seq e.stack)) output
Shows schema e (event.answer (kept name number) vs) output = ShowsAct e (dispatches e.stack) output
Shows schema e (event.keep seq name) output = ShowsAct e (dispatches (answering.released seq e.stack)) output
Shows schema e (event.name name id) output = ShowsAct e (dispatches e.stack) output
Shows schema e event.close output = ShowsAct e (dispatches e.stack) output
Shows schema e event.die output = Following e what.Die [] output
Shows schema e event.deliver output = ShowsPassing e (dispatches e.stack) output
Shows schema e event.take output = (ShowsPassing e (dispatches e.stack) output × (taken_dispatch schema e ≡ None)) ⊎ ShowsHandling schema e output
Shows schema e (event.return vs) output = (n : ℤ) × Following e (what.Return n) (dispatches (drop 1 e.stack)) output
Shows schema e event.resume output = ShowsPassing e (dispatches (drop 1 e.stack)) output
Shows schema e event.flush output = ShowsPassing e (dispatches e.stack) output

-- Sends

send-act : (sync : Bool) (m : Message) (vs : Values) → is_act (if sync then what.Call m.seq m.transaction m.route m.number vs else what.Send m.seq m.route m.number vs) ≡ true
send-act true m vs = refl
send-act false m vs = refl

pos-zero : (n : ℕ) → pos n ≡ pos 0 → n ≡ 0
pos-zero zero h = refl
pos-zero (suc n) h = cc

id-some : (side : Side) (k : ℕ) → id_of side (k + 1) ≢ pos 0
id-some sides.Parent k = λ h. let z = pos-zero (4 * (k + 1) + 2) h in omega (arith, z)
id-some sides.Child k = λ h. let z = pos-zero (4 * (k + 1)) h in omega (arith, z)

names-some : (side : Side) (k : ℕ) (constructs : Bool) (name : Option (List ℕ)) → (is_none name || constructs) ≡ true → NamesSome (if constructs then id_of side (k + 1) else pos 0) name
names-some side k constructs None h = tt
names-some side k true (Some name) h = id-some side k
names-some side k false (Some name) h = cc

may-name : (schema : Schema) (e : End) (row : MessageRow) (vs : Values) (name : Option (List ℕ)) → send.may_send schema e row vs name ≡ true → NamesSome (send.next_made e row.kind) name
may-name schema e row vs name h =
    names-some e.side e.constructors_sent (is_constructor row.kind) name
    (and-right (have_types schema row.params vs) (is_none name || is_constructor row.kind)
    (and-right (sends e.side row.direction) (have_types schema row.params vs && (is_none name || is_constructor row.kind))
    (and-right row.carried (sends e.side row.direction && (have_types schema row.params vs && (is_none name || is_constructor row.kind)))
    (and-right (send.may_act e) (row.carried && (sends e.side row.direction && (have_types schema row.params vs && (is_none name || is_constructor row.kind)))) h))))

send-shows : (schema : Schema) (e : End) (row : MessageRow) (route : ℤ) (vs : Values) (name : Option (List ℕ)) → NamesSome (send.next_made e row.kind) name → (cause : Option SendRefusal)
    → ShowsAct e (dispatches e.stack) (send.sent_unless cause row (send.request_of e row route vs) vs name (beginning e))
send-shows schema e row route vs name h None =
    let m : Message = send.request_of e row route vs in
    (send.send_line row m vs, send-act (is_sync_row row) m vs, begins e (send.send_line row m vs) (following_line row m name) (leaves-sent row m name h))
send-shows schema e row route vs name h (Some cause) = (what.RefusedSend cause row.number, refl, begins e (what.RefusedSend cause row.number) unchanged leaves-unchanged)

-- Answers

refused-act : (cause : SendRefusal) (vs : Option Values) → is_act (answering.refused_line cause vs) ≡ true
refused-act cause None = refl
refused-act cause (Some vs) = refl

answering-act : (seq : ℤ) (vs : Option Values) → is_act (answering.answering_line seq vs) ≡ true
answering-act seq None = refl
answering-act seq (Some vs) = refl

handled-shows : (e : End) (seq : ℤ) (vs : Option Values) (cause : Option SendRefusal) (r : Option Resolver)
    → ShowsAct e (dispatches e.stack) (answering.answered_unless cause (handled seq) vs r (beginning e)) ⊎ ShowsAct e (dispatches (answering.released seq e.stack)) (answering.answered_unless cause (handled seq) vs r (beginning e))
handled-shows e seq vs (Some cause) r = inl (answering.refused_line cause vs, refused-act cause vs, begins e (answering.refused_line cause vs) unchanged leaves-unchanged)
handled-shows e seq vs None None = inl (answering.refused_line refusal.DeadActor vs, refused-act refusal.DeadActor vs, begins e (answering.refused_line refusal.DeadActor vs) unchanged leaves-unchanged)
handled-shows e seq vs None (Some r) = inr (answering.answering_line r.seq vs, answering-act r.seq vs, record { more = []; lines = refl; stack = refl; names = λ n. n })

kept-shows : (e : End) (name : List ℕ) (number : ℕ) (vs : Option Values) (cause : Option SendRefusal) (r : Option Resolver) → ShowsAct e (dispatches e.stack) (answering.answered_unless cause (kept name number) vs r (beginning e))
kept-shows e name number vs (Some cause) r = (answering.refused_line cause vs, refused-act cause vs, begins e (answering.refused_line cause vs) unchanged leaves-unchanged)
kept-shows e name number vs None None = (answering.refused_line refusal.DeadActor vs, refused-act refusal.DeadActor vs, begins e (answering.refused_line refusal.DeadActor vs) unchanged leaves-unchanged)
kept-shows e name number vs None (Some r) =
    (answering.answering_line r.seq vs, answering-act r.seq vs, record { more = []; lines = refl; stack = refl; names = λ n. all-filter NamesNoNull (λ naming. not (has_name name naming)) e.names n })

kept-no-null : (closed : Bool) (r : Resolver) → IsNoNull (if closed then None else Some (resolver r))
kept-no-null true r = tt
kept-no-null false r = tt

content-no-null : (e : End) (found : Option Resolver) → IsNoNull (option_and_then (answering.kept_by e) found)
content-no-null e None = tt
content-no-null e (Some r) = kept-no-null _ r

keep-shows : (e : End) (seq : ℤ) (name : List ℕ) → ShowsAct e (dispatches (answering.released seq e.stack)) (answering.keep e seq name (beginning e))
keep-shows e seq name =
    let holds : Option NameContent = option_and_then (answering.kept_by e) (answering.handled_resolver e seq) in
    let k = leaves-renamed name holds (content-no-null e (answering.handled_resolver e seq)) (record { end = record e { stack = answering.released seq e.stack }; lines = line_at e.side (what.Keep seq name) ∷ []; packets = [] }) in
    (what.Keep seq name, refl, record { more = k.more; lines = k.lines; stack = k.stack; names = k.names })

-- Names, a close and a death

positive-some : (id : ℤ) (b : Bool) → acts.is_positive id ≡ b → IsNoNull (if b then Some (actor id) else None)
positive-some id true h = λ is. let k : acts.is_positive (pos 0) ≡ true = ap acts.is_positive (sym is) ∙ h in cc
positive-some id false h = tt

name-shows : (e : End) (name : List ℕ) (id : ℤ) → ShowsAct e (dispatches e.stack) (acts.name_actor name id (beginning e))
name-shows e name id =
    let w : What = what.Let name (if acts.is_positive id then id else pos 0) in
    let holds : Option NameContent = if acts.is_positive id then Some (actor id) else None in
    (w, refl, begins e w (renamed name holds) (leaves-renamed name holds (positive-some id (acts.is_positive id) refl)))

close-shows : (e : End) (cause : Option SendRefusal) → ShowsAct e (dispatches e.stack) (acts.close_unless cause (beginning e))
close-shows e None =
    let rest : Change = put (message acts.goodbye) ▷ falls.closed destroy.NormalShutdown in
    (what.Close, refl, begins e what.Close rest (leaves-both (put (message acts.goodbye)) (falls.closed destroy.NormalShutdown) (leaves-put (message acts.goodbye)) (leaves-closed destroy.NormalShutdown)))
close-shows e (Some cause) = (what.RefusedClose cause, refl, begins e (what.RefusedClose cause) unchanged leaves-unchanged)

die-shows : (e : End) → Following e what.Die [] (acts.die (beginning e))
die-shows e =
    let k = leaves-open (put mark) (leaves-put mark) (line what.Die (beginning e)) in
    record { more = k.more; lines = k.lines; stack = refl; names = k.names }

-- Deliveries

frame-kept : (x : StackEntry) (f : StackFrame) (xs : List StackEntry) → x.frame ≡ f → dispatches (record x { frame = f } ∷ xs) ≡ dispatches (x ∷ xs)
frame-kept x f xs is = ap (λ (g : StackFrame). dispatches (record x { frame = g } ∷ xs)) (sym is)

answered-dispatches : (a : Answer) (stack : List StackEntry) → dispatches (delivery.with_frames (with_answer a (map (λ (x : StackEntry). x.frame) stack)) stack) ≡ dispatches stack
answered-dispatches a [] = refl
answered-dispatches a (x ∷ xs) = by x.frame refl (answered-dispatches a xs)
  where
    frames : List StackFrame
    frames = map (λ (y : StackEntry). y.frame) xs

    by : (f : StackFrame) → x.frame ≡ f → dispatches (delivery.with_frames (with_answer a frames) xs) ≡ dispatches xs → dispatches (delivery.with_frames (with_answer a (f ∷ frames)) (x ∷ xs)) ≡ dispatches (x ∷ xs)
    by (Dispatch head) is rec = ap (λ (ys : List StackEntry). record x { frame = Dispatch head } ∷ ys) rec ∙ frame-kept x (Dispatch head) xs is
    by (Wait head None) is rec = ap dispatches (kept-frames xs) ∙ frame-kept x (Wait head None) xs is
    by (Wait head (Some b)) is rec = rec ∙ frame-kept x (Wait head (Some b)) xs is

failed-dispatches : (stack : List StackEntry) → dispatches (map delivery.with_failed_wait stack) ≡ dispatches stack
failed-dispatches [] = refl
failed-dispatches (x ∷ xs) = by x.frame refl (failed-dispatches xs)
  where
    by : (f : StackFrame) → x.frame ≡ f → dispatches (map delivery.with_failed_wait xs) ≡ dispatches xs → dispatches (record x { frame = delivery.failed f } ∷ map delivery.with_failed_wait xs) ≡ dispatches (x ∷ xs)
    by (Dispatch head) is rec = ap (λ (ys : List StackEntry). record x { frame = Dispatch head } ∷ ys) rec ∙ frame-kept x (Dispatch head) xs is
    by (Wait head None) is rec = rec ∙ frame-kept x (Wait head None) xs is
    by (Wait head (Some b)) is rec = rec ∙ frame-kept x (Wait head (Some b)) xs is

leaves-row : (schema : Schema) (m : Message) (change : MessageRow → Change) (otherwise : Change) → ((row : MessageRow) → Leaves (change row)) → Leaves otherwise → Leaves (delivery.by_row schema m change otherwise)
leaves-row schema m change otherwise h k = by (message_of schema m.number)
  where
    by : (found : Option MessageRow) → Leaves (option_map_or change found otherwise)
    by None = k
    by (Some row) = h row

leaves-replacing : (row : MessageRow) (old : Option Item) → Leaves (delivery.replacing row old)
leaves-replacing row None o = leads-same o
leaves-replacing row (Some item.Broken) o = leads-same o
leaves-replacing row (Some (item.Message old sync level)) o =
    let reply : Change = answered (request_answered old) (answer.Fault reason.ResolverDestroyed) in
    leaves-both (line (what.Replaced old.seq)) (when (makes_promise row) reply) (leaves-line (what.Replaced old.seq)) (leaves-when (makes_promise row) reply (leaves-answered (request_answered old) (answer.Fault reason.ResolverDestroyed))) o

leaves-arrives : (m : Message) (row : MessageRow) → Leaves (delivery.request_arrives m row)
leaves-arrives m row o =
    let new : Item = delivery.item_of row m in
    let old : Option Item = replaced row.compress new o.end.arrived in
    leaves-both (on_end (delivery.counted row new)) (delivery.replacing row old) (leaves-end (delivery.counted row new) (λ e. refl) (λ e. refl)) (leaves-replacing row old) o

reply-stack : (m : Message) (a : Answer) (row : MessageRow) (sync : Bool) (e : End) → dispatches (if sync then delivery.answers_wait a e else delivery.arrives (delivery.item_of row m) e).stack ≡ dispatches e.stack
reply-stack m a row true e = answered-dispatches a e.stack
reply-stack m a row false e = refl

reply-names : (m : Message) (a : Answer) (row : MessageRow) (sync : Bool) (e : End) → (if sync then delivery.answers_wait a e else delivery.arrives (delivery.item_of row m) e).names ≡ e.names
reply-names m a row true e = refl
reply-names m a row false e = refl

leaves-reply : (m : Message) (a : Answer) (row : MessageRow) → Leaves (delivery.reply_arrives m a row)
leaves-reply m a row = leaves-end (λ e. if is_sync_row row then delivery.answers_wait a e else delivery.arrives (delivery.item_of row m) e) (reply-stack m a row (is_sync_row row)) (reply-names m a row (is_sync_row row))

leaves-ended : (last : Item) → Leaves (delivery.ended last)
leaves-ended last o = record { more = map (line_at o.end.side) (map what.Fails (delivery.unanswered o.end)); lines = refl; stack = failed-dispatches o.end.stack; names = λ n. n }

body-shows : (schema : Schema) (e : End) (m : Message) (body : Body) → ShowsPassing e (dispatches e.stack) (delivery.body_delivered schema m body (beginning e))
body-shows schema e m (Request vs) =
    (what.DeliverRequest m.seq, (λ p. (refl, refl)), begins e (what.DeliverRequest m.seq) (delivery.by_row schema m (delivery.request_arrives m) unchanged) (leaves-row schema m (delivery.request_arrives m) unchanged (leaves-arrives m) leaves-unchanged))
body-shows schema e m (Reply vs) =
    (what.DeliverReply m.seq, (λ p. (refl, refl)), begins e (what.DeliverReply m.seq) (delivery.by_row schema m (delivery.reply_arrives m (answer.Ok vs)) unchanged) (leaves-row schema m (delivery.reply_arrives m (answer.Ok vs)) unchanged (leaves-reply m (answer.Ok vs)) leaves-unchanged))
body-shows schema e m (Fault why) =
    (what.DeliverReply m.seq, (λ p. (refl, refl)), begins e (what.DeliverReply m.seq) (delivery.by_row schema m (delivery.reply_arrives m (answer.Fault why)) unchanged) (leaves-row schema m (delivery.reply_arrives m (answer.Fault why)) unchanged (leaves-reply m (answer.Fault why)) leaves-unchanged))
body-shows schema e m Goodbye = (what.DeliverGoodbye, (λ p. (refl, refl)), begins e what.DeliverGoodbye (delivery.ended (item.Message m false Not)) (leaves-ended (item.Message m false Not)))

deliver-shows : (schema : Schema) (e : End) (packet : Packet) → ShowsPassing e (dispatches e.stack) (delivery.deliver schema packet (beginning e))
deliver-shows schema e (message m) = body-shows schema e m m.body
deliver-shows schema e mark = (what.DeliverBroken, (λ p. (refl, refl)), begins e what.DeliverBroken (delivery.ended item.Broken) (leaves-ended item.Broken))

-- Takes

leaves-settles : (seq : ℤ) (outcome : Outcome) → Leaves (takes.settles seq outcome)
leaves-settles seq outcome = leaves-both (on_end (λ e. record e { promises = map (takes.settled_entry seq outcome) e.promises })) (line (takes.settle_line seq outcome)) (leaves-end (λ e. record e { promises = map (takes.settled_entry seq outcome) e.promises }) (λ e. refl) (λ e. refl)) (leaves-line (takes.settle_line seq outcome))

leaves-taken : (schema : Schema) (m : Message) (a : Answer) (row : MessageRow) → Leaves (takes.reply_taken schema m a row)
leaves-taken schema m a row o =
    let settled : Change = takes.settles m.seq (takes.outcome_of (received schema o.end.actors row a)) in
    leaves-when (takes.is_awaited m.seq o.end.promises) settled (leaves-settles m.seq (takes.outcome_of (received schema o.end.actors row a))) o

-- the end when the item that it takes has left
abbrev left : End → End
left e = record e { arrived = without_first (is_free (takes.deferral_context_of e)) e.arrived }

abbrev pub TakeShows : Schema → End → Output → Type 0
TakeShows schema e output = (ShowsPassing e (dispatches e.stack) output × (taken_dispatch schema e ≡ None)) ⊎ ShowsHandling schema e output

passing : (e : End) (w : What) (c : Change) → Passes w → Leaves c → ShowsPassing e (dispatches e.stack) (c (line w (beginning (left e))))
passing e w c p h = let k = h (line w (beginning (left e))) in (w, p, record { more = k.more; lines = k.lines; stack = k.stack; names = k.names })

constructs-lines : (id route : ℤ) (kind : Kind) (o : Output) → (send.constructs id route kind o).lines ≡ o.lines ++ map (line_at o.end.side) (built_lines id kind)
constructs-lines id route Normal o = sym (append-nil o.lines)
constructs-lines id route (Constructor protocol) o = refl
constructs-lines id route Delete o = sym (append-nil o.lines)

handling : (schema : Schema) (e : End) (m : Message) (sync : Bool) (level : Level) (row : MessageRow) (vs : Values) → takes.taken_next e ≡ Some (item.Message m sync level) → m.body ≡ Request vs → message_of schema m.number ≡ Some row → taken_dispatch schema e ≡ Some (takes.dispatch_of row m)
    → ShowsHandling schema e (takes.handled row m (nulled schema e.actors row.params vs) (beginning (left e)))
handling schema e m sync level row vs next body found adds =
    let o : Output = record { end = record (left e) { stack = takes.dispatch_of row m ∷ e.stack }; lines = line_at e.side (what.Take m.seq m.route m.number (nulled schema e.actors row.params vs)) ∷ []; packets = [] } in
    let k = leaves-constructs m.made m.route row.kind o in
    record { m = m; sync = sync; level = level; row = row; vs = vs; next = next; body = body; found = found; lines = constructs-lines m.made m.route row.kind o; stack = k.stack; adds = adds; names = k.names }

request-shows : (schema : Schema) (e : End) (m : Message) (sync : Bool) (level : Level) (row : MessageRow) (vs : Values) → takes.taken_next e ≡ Some (item.Message m sync level) → m.body ≡ Request vs → message_of schema m.number ≡ Some row
    → taken_dispatch schema e ≡ request_dispatch schema e m vs row → (gone : Option ℤ) → takes.dropped_for schema e row m vs ≡ gone → TakeShows schema e (takes.dropped_or_handled gone row m (nulled schema e.actors row.params vs) (beginning (left e)))
request-shows schema e m sync level row vs next body found adds None is =
    inr (handling schema e m sync level row vs next body found (adds ∙ ap (λ o. option_map_or (λ id. None) o (Some (takes.dispatch_of row m))) is))
request-shows schema e m sync level row vs next body found adds (Some id) is =
    let reply : Change = answered (request_answered m) (answer.Fault reason.ActorDestroyed) in
    inl (
      passing e (what.Drop m.seq m.route m.number id) (when (is_sync_row row || makes_promise row) reply) (λ p. (refl, refl)) (leaves-when (is_sync_row row || makes_promise row) reply (leaves-answered (request_answered m) (answer.Fault reason.ActorDestroyed))),
      adds ∙ ap (λ o. option_map_or (λ id. None) o (Some (takes.dispatch_of row m))) is,
    )

row-shows : (schema : Schema) (e : End) (m : Message) (sync : Bool) (level : Level) (vs : Values) → takes.taken_next e ≡ Some (item.Message m sync level) → m.body ≡ Request vs → taken_dispatch schema e ≡ option_and_then (request_dispatch schema e m vs) (message_of schema m.number)
    → (found : Option MessageRow) → message_of schema m.number ≡ found → TakeShows schema e (option_map_or (takes.request_taken schema m vs) found (line (what.Drop m.seq m.route m.number m.route)) (beginning (left e)))
row-shows schema e m sync level vs next body adds None found = inl (passing e (what.Drop m.seq m.route m.number m.route) unchanged (λ p. (refl, refl)) leaves-unchanged, adds ∙ ap (option_and_then (request_dispatch schema e m vs)) found)
row-shows schema e m sync level vs next body adds (Some row) found = request-shows schema e m sync level row vs next body found (adds ∙ ap (option_and_then (request_dispatch schema e m vs)) found) (takes.dropped_for schema e row m vs) refl

taken-shows : (schema : Schema) (e : End) (m : Message) (sync : Bool) (level : Level) (body : Body) → takes.taken_next e ≡ Some (item.Message m sync level) → m.body ≡ body → taken_dispatch schema e ≡ body_dispatch schema e m body → TakeShows schema e (takes.body_taken schema m body (beginning (left e)))
taken-shows schema e m sync level (Request vs) next is adds = row-shows schema e m sync level vs next is adds (message_of schema m.number) refl
taken-shows schema e m sync level (Reply vs) next is adds =
    inl (passing e (what.TakeReply m.seq) (delivery.by_row schema m (takes.reply_taken schema m (answer.Ok vs)) unchanged) (λ p. (refl, refl)) (leaves-row schema m (takes.reply_taken schema m (answer.Ok vs)) unchanged (leaves-taken schema m (answer.Ok vs)) leaves-unchanged), adds)
taken-shows schema e m sync level (Fault why) next is adds =
    inl (passing e (what.TakeReply m.seq) (delivery.by_row schema m (takes.reply_taken schema m (answer.Fault why)) unchanged) (λ p. (refl, refl)) (leaves-row schema m (takes.reply_taken schema m (answer.Fault why)) unchanged (leaves-taken schema m (answer.Fault why)) leaves-unchanged), adds)
taken-shows schema e m sync level Goodbye next is adds = inl (passing e what.ShutNormal (falls.closed destroy.NormalShutdown) (λ p. (refl, refl)) (leaves-closed destroy.NormalShutdown), adds)

take-shows : (schema : Schema) (e : End) (taken : Item) → takes.taken_next e ≡ Some taken → TakeShows schema e (takes.take schema taken (beginning e))
take-shows schema e (item.Message m sync level) next = taken-shows schema e m sync level m.body next refl (ap (option_and_then (item_dispatch schema e)) next)
take-shows schema e item.Broken next =
    inl (passing e what.ShutAbnormal (falls.closed destroy.AbnormalShutdown) (λ p. (refl, refl)) (leaves-closed destroy.AbnormalShutdown), ap (option_and_then (item_dispatch schema e)) next)

-- Returns, calls that continue, and flushes

return-shows : (schema : Schema) (e : End) (row : MessageRow) (entry : StackEntry) (vs : Option Values) → (n : ℤ) × Following e (what.Return n) (dispatches (drop 1 e.stack)) (returns.return schema e row entry vs (beginning e))
return-shows schema e row entry vs =
    let told : Change = answered (returns.dispatch_answered entry) (returns.return_answer schema e row entry vs) in
    let lost : Change = destroyed (answering.resolver_in entry) in
    let last : Change = falls.deletes entry.route row.kind in
    let n : ℤ = (head_of entry.frame).seq in
    let k =
    leaves-both (when (is_sync_row row) told) (when entry.resolves lost ▷ last) (leaves-when (is_sync_row row) told (leaves-answered (returns.dispatch_answered entry) (returns.return_answer schema e row entry vs)))
    (leaves-both (when entry.resolves lost) last (leaves-when entry.resolves lost (leaves-destroyed (answering.resolver_in entry))) (leaves-deletes entry.route row.kind)) (line (what.Return n) (beginning (record e { stack = drop 1 e.stack })))
    in
    (n, record { more = k.more; lines = k.lines; stack = k.stack; names = k.names })

resume-passes : (seq : ℤ) (a : Answer) → Passes (returns.resume_line seq a)
resume-passes seq (answer.Ok vs) p = (refl, refl)
resume-passes seq (answer.Fault why) p = (refl, refl)

-- Steps

pub step-shows : (schema : Schema) (e : End) (link : List Packet) (happened : Event) (output : Output) → step schema e link happened ≡ Some output → Shows schema e happened output
step-shows schema e link (event.send route number vs name) output is =
    let P : Output → Type 0 = λ o. ShowsAct e (dispatches e.stack) o in
    found-gives P (request_row schema number) (λ row. provided (send.may_send schema e row vs name) (send.send schema e row route vs name) e) output
    (λ row found h. provided-gives P (send.may_send schema e row vs name) (send.send schema e row route vs name) e output (λ may. send-shows schema e row route vs name (may-name schema e row vs name may) (send.send_refusal schema e row route vs)) h) is
step-shows schema e link (event.answer (handled seq) vs) output is =
    let P : Output → Type 0 = λ o. ShowsAct e (dispatches e.stack) o ⊎ ShowsAct e (dispatches (answering.released seq e.stack)) o in
    let by : Answering = handled seq in
    found-gives P (answering.answered_row schema e by) (λ row. provided (answering.may_answer schema e row vs) (answering.answer schema e row by vs) e) output
    (λ row found h. provided-gives P (answering.may_answer schema e row vs) (answering.answer schema e row by vs) e output (λ may. handled-shows e seq vs (answering.answer_refusal schema e row by vs) (answering.resolver_used e by)) h) is
step-shows schema e link (event.answer (kept name number) vs) output is =
    let P : Output → Type 0 = λ o. ShowsAct e (dispatches e.stack) o in
    let by : Answering = kept name number in
    found-gives P (answering.answered_row schema e by) (λ row. provided (answering.may_answer schema e row vs) (answering.answer schema e row by vs) e) output
    (λ row found h. provided-gives P (answering.may_answer schema e row vs) (answering.answer schema e row by vs) e output (λ may. kept-shows e name number vs (answering.answer_refusal schema e row by vs) (answering.resolver_used e by)) h) is
step-shows schema e link (event.keep seq name) output is =
    let P : Output → Type 0 = λ o. ShowsAct e (dispatches (answering.released seq e.stack)) o in
    provided-gives P (answering.may_keep e seq) (answering.keep e seq name) e output (λ may. keep-shows e seq name) is
step-shows schema e link (event.name name id) output is =
    let P : Output → Type 0 = λ o. ShowsAct e (dispatches e.stack) o in
    provided-gives P (send.may_act e) (acts.name_actor name id) e output (λ may. name-shows e name id) is
step-shows schema e link event.close output is =
    let P : Output → Type 0 = λ o. ShowsAct e (dispatches e.stack) o in
    provided-gives P (send.may_act e) (acts.close e) e output (λ may. close-shows e (acts.close_refusal e)) is
step-shows schema e link event.die output is =
    let P : Output → Type 0 = λ o. Following e what.Die [] o in
    provided-gives P (acts.may_die e) acts.die e output (λ may. die-shows e) is
step-shows schema e link event.deliver output is =
    let P : Output → Type 0 = λ o. ShowsPassing e (dispatches e.stack) o in
    found-gives P (first_packet link) (λ packet. provided (is_open e.state) (delivery.deliver schema packet) e) output
    (λ packet found h. provided-gives P (is_open e.state) (delivery.deliver schema packet) e output (λ may. deliver-shows schema e packet) h) is
step-shows schema e link event.take output is =
    let P : Output → Type 0 = λ o. TakeShows schema e o in
    found-gives P (takes.taken_next e) (λ taken. provided true (takes.take schema taken) e) output (λ taken found h. provided-gives P true (takes.take schema taken) e output (λ may. take-shows schema e taken found) h) is
step-shows schema e link (event.return vs) output is =
    let P : Output → Type 0 = λ o. (n : ℤ) × Following e (what.Return n) (dispatches (drop 1 e.stack)) o in
    found-gives P (returns.dispatch_on_top e.stack) (λ entry. option_and_then (λ row. provided (returns.may_return schema row vs) (returns.return schema e row entry vs) e) (request_row schema entry.number)) output
    (λ entry on_top h.
    found-gives P (request_row schema entry.number) (λ row. provided (returns.may_return schema row vs) (returns.return schema e row entry vs) e) output
    (λ row found k. provided-gives P (returns.may_return schema row vs) (returns.return schema e row entry vs) e output (λ may. return-shows schema e row entry vs) k) h) is
step-shows schema e link event.resume output is =
    let P : Output → Type 0 = λ o. ShowsPassing e (dispatches (drop 1 e.stack)) o in
    found-gives P (returns.answered_wait_on_top e.stack) (λ wait. option_and_then (λ row. provided true (returns.resume schema e wait row) e) (request_row schema wait.number)) output
    (λ wait on_top h.
    found-gives P (request_row schema wait.number) (λ row. provided true (returns.resume schema e wait row) e) output
    (λ row found k.
    provided-gives P true (returns.resume schema e wait row) e output
    (λ may.
    let a : Answer = received schema e.actors row wait.given in
    (returns.resume_line wait.seq a, resume-passes wait.seq a, record { more = []; lines = refl; stack = refl; names = λ n. n })) k) h) is
step-shows schema e link event.flush output is =
    let P : Output → Type 0 = λ o. ShowsPassing e (dispatches e.stack) o in
    provided-gives P (returns.may_flush e) returns.flush e output (λ may. (what.Flush (length e.outbox), (λ p. (refl, refl)), record { more = []; lines = refl; stack = refl; names = λ n. n })) is
