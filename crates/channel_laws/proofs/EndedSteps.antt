-- Every step of an end that is not open: it sends nothing, and the end does not open again.
use Rattle.channel_model.proofs.Tests.{and-left}
use Rattle.std.proofs.Common.{◌≡◌, ℕ, ℤ, Bool, true, false, not, ◌||◌, if◌then◌else◌, List, [], ◌∷◌, Option, Some, None, option_and_then, refl, sym, ap, subst, ◌∙◌}
use Rattle.std.specs.List.{AllByRecursion}
use Rattle.std.specs.Option.{option_map_or}
use Rattle.ipdl_base.specs.declared.line.What.TheVariants as what
use Rattle.ipdl_base.specs.declared.kinds.Destroy.{Destroy}
use Rattle.ipdl_base.specs.declared.kinds.Reason.TheVariants as reason
use Rattle.ipdl_base.specs.declared.kinds.SendRefusal.{SendRefusal}
use Rattle.ipdl_base.specs.declared.kinds.SendRefusal.TheVariants as refusal
use Rattle.ipdl_base.specs.declared.message.Body.{Body}
use Rattle.ipdl_base.specs.declared.message.Body.TheVariants.{Request, Reply, Fault, Goodbye}
use Rattle.ipdl_base.specs.declared.message.Message.{Message}
use Rattle.ipdl_base.specs.declared.schema.Kind.{Kind}
use Rattle.ipdl_base.specs.declared.schema.Kind.TheVariants.{Normal, Constructor, Delete}
use Rattle.ipdl_base.specs.declared.schema.MessageRow.{MessageRow}
use Rattle.ipdl_base.specs.declared.schema.Schema.{Schema}
use Rattle.ipdl_base.specs.declared.value.Values.{Values}
use Rattle.ipdl_base.specs.Sound.{message_of}
use Rattle.nesting_core.specs.declared.frame.Answer.{Answer}
use Rattle.nesting_core.specs.declared.frame.Answer.TheVariants as answer
use Rattle.pending_queue.specs.declared.item.Item.{Item}
use Rattle.pending_queue.specs.declared.item.Item.TheVariants as item
use Rattle.channel_model.specs.Acts as acts
use Rattle.channel_model.specs.Answers as answers
use Rattle.ipdl_base.specs.declared.kinds.EndState.{EndState}
use Rattle.ipdl_base.specs.declared.kinds.EndState.TheVariants.{Draining}
use Rattle.channel_model.specs.Deliveries as delivery
use Rattle.channel_model.specs.Ends.{End, StackEntry, Packet, message, mark, NameContent, actor, resolver}
use Rattle.channel_model.specs.Events.{Event, Answering, handled, kept}
use Rattle.channel_model.specs.Events as event
use Rattle.channel_model.specs.Falls.{closed, deletes}
use Rattle.channel_model.specs.Names.{held_by_name, let_go, renamed, without_name}
use Rattle.channel_model.specs.Numbers.{request_row, is_sync_row, makes_promise}
use Rattle.channel_model.specs.Outputs.{Output, Change, beginning, unchanged, ◌▷◌, when, when_open, on_end, line, put, is_open, answered, answer_line, reply_to, body_of, request_answered}
use Rattle.channel_model.specs.Returns as returns
use Rattle.channel_model.specs.Sends as sends
use Rattle.channel_model.specs.Sends.{frames_of}
use Rattle.channel_model.specs.States.{IsAnswered}
use Rattle.channel_model.specs.Steps.{step, provided, first_packet}
use Rattle.channel_model.specs.Takes as takes
use Rattle.channel_model.specs.ValueActors.{nulled, received}
use Rattle.channel_model.proofs.Provided.{provided-gives, found-gives}
use Rattle.channel_model.proofs.StateSteps.{released-frames, popped-answered}

-- an end of a state that sends nothing, and waits for nothing
record IsSilent (state : EndState) (o : Output) : Type 0 where
  state_is : o.end.state ≡ state
  nothing : o.packets ≡ []
  nobody : AllByRecursion IsAnswered (frames_of o.end)

abbrev KeepsSilent : EndState → Change → Type 0
KeepsSilent state change = (o : Output) → IsSilent state o → IsSilent state (change o)

silent-by_when : (state : EndState) (b : Bool) (change : Change) → KeepsSilent state change → KeepsSilent state (when b change)
silent-by_when state true change c o h = c o h
silent-by_when state false change c o h = h

not_open : (state : EndState) (change : Change) → is_open state ≡ false → KeepsSilent state (when_open change)
not_open state change over o h = subst (λ (n : Output). IsSilent state n) (sym (when-not (is_open o.end.state) (ap is_open h.state_is ∙ over))) h
  where
    when-not : (b : Bool) → b ≡ false → when b change o ≡ o
    when-not true e = cc
    when-not false e = refl

silent-by_let_go : (state : EndState) (holds : Option NameContent) → is_open state ≡ false → KeepsSilent state (let_go holds)
silent-by_let_go state None over o h = h
silent-by_let_go state (Some (actor id)) over o h = h
silent-by_let_go state (Some (resolver r)) over o h = not_open state _ over o h

silent-by_renamed : (state : EndState) (name : List ℕ) (holds : Option NameContent) → is_open state ≡ false → KeepsSilent state (renamed name holds)
silent-by_renamed state name holds over o h =
    let left = silent-by_let_go state (held_by_name name o.end.names) over (on_end (λ e. record e { names = without_name name e.names }) o) (record { state_is = h.state_is; nothing = h.nothing; nobody = h.nobody }) in
    record { state_is = left.state_is; nothing = left.nothing; nobody = left.nobody }

silent-by_deletes : (state : EndState) (route : ℤ) (kind : Kind) → KeepsSilent state (deletes route kind)
silent-by_deletes state route Normal o h = h
silent-by_deletes state route (Constructor protocol) o h = h
silent-by_deletes state route Delete o h = record { state_is = h.state_is; nothing = h.nothing; nobody = h.nobody }

silent-by_constructs : (state : EndState) (id route : ℤ) (kind : Kind) → KeepsSilent state (sends.constructs id route kind)
silent-by_constructs state id route Normal o h = h
silent-by_constructs state id route (Constructor protocol) o h = record { state_is = h.state_is; nothing = h.nothing; nobody = h.nobody }
silent-by_constructs state id route Delete o h = h

-- What an end that is not open makes.
pub record StaysOver (e : End) (o : Output) : Type 0 where
  pub over : is_open o.end.state ≡ false
  pub drained : o.end.state ≡ Draining → e.state ≡ Draining
  pub nothing : o.packets ≡ []
  pub nobody : AllByRecursion IsAnswered (frames_of o.end)

over-silent : (e : End) (o : Output) → is_open e.state ≡ false → IsSilent e.state o → StaysOver e o
over-silent e o over h = record { over = ap is_open h.state_is ∙ over; drained = λ d. sym h.state_is ∙ d; nothing = h.nothing; nobody = h.nobody }

module _ (schema : Schema) (e : End) (over : is_open e.state ≡ false) (nobody : AllByRecursion IsAnswered (frames_of e)) where
  refused : (b : Bool) (x : SendRefusal) (y : Option SendRefusal) → b ≡ false → (if not b then Some x else y) ≡ Some x
  refused true x y k = cc
  refused false x y k = refl

  ended-send : (row : MessageRow) (route : ℤ) (vs : Values) (name : Option (List ℕ)) → StaysOver e (sends.send schema e row route vs name (beginning e))
  ended-send row route vs name =
      let r : sends.send_refusal schema e row route vs ≡ Some refusal.Closed = refused (is_open e.state) refusal.Closed _ over in
      subst (λ (cause : Option SendRefusal). StaysOver e (sends.sent_unless cause row (sends.request_of e row route vs) vs name (beginning e))) (sym r) (over-silent e (line (what.RefusedSend refusal.Closed row.number) (beginning e)) over (record { state_is = refl; nothing = refl; nobody = nobody }))

  ended-answer : (row : MessageRow) (by : Answering) (vs : Option Values) → StaysOver e (answers.answer schema e row by vs (beginning e))
  ended-answer row by vs =
      let r : answers.answer_refusal schema e row by vs ≡ Some refusal.Closed = refused (is_open e.state) refusal.Closed _ over in
      subst (λ (cause : Option SendRefusal). StaysOver e (answers.answered_unless cause by vs (answers.resolver_used e by) (beginning e))) (sym r) (over-silent e (line (answers.refused_line refusal.Closed vs) (beginning e)) over (record { state_is = refl; nothing = refl; nobody = nobody }))

  ended-close : StaysOver e (acts.close e (beginning e))
  ended-close =
      let r : acts.close_refusal e ≡ Some refusal.Closed = refused (is_open e.state) refusal.Closed _ over in
      subst (λ (cause : Option SendRefusal). StaysOver e (acts.close_unless cause (beginning e))) (sym r) (over-silent e (line (what.RefusedClose refusal.Closed) (beginning e)) over (record { state_is = refl; nothing = refl; nobody = nobody }))

  ended-die : StaysOver e (acts.die (beginning e))
  ended-die =
      let told = not_open e.state (put mark) over (line what.Die (beginning e)) (record { state_is = refl; nothing = refl; nobody = nobody }) in
      record { over = refl; drained = λ d. cc; nothing = told.nothing; nobody = tt }

  ended-keep : (seq : ℤ) (name : List ℕ) → StaysOver e (answers.keep e seq name (beginning e))
  ended-keep seq name =
      over-silent e (answers.keep e seq name (beginning e)) over
      (silent-by_renamed e.state name (option_and_then (answers.kept_by e) (answers.handled_resolver e seq)) over (on_end (λ e. record e { stack = answers.released seq e.stack }) (line (what.Keep seq name) (beginning e))) (record { state_is = refl; nothing = refl; nobody = subst (AllByRecursion IsAnswered) (sym (released-frames seq e.stack)) nobody }))

  ended-name : (name : List ℕ) (id : ℤ) → StaysOver e (acts.name_actor name id (beginning e))
  ended-name name id = over-silent e (acts.name_actor name id (beginning e)) over (silent-by_renamed e.state name _ over (line _ (beginning e)) (record { state_is = refl; nothing = refl; nobody = nobody }))

  ended-return : (row : MessageRow) (entry : StackEntry) (vs : Option Values) → StaysOver e (returns.return schema e row entry vs (beginning e))
  ended-return row entry vs =
      let came_off : Output = line (what.Return _) (returns.popped (beginning e)) in
      let first = silent-by_when e.state (is_sync_row row) _ (λ o h. not_open e.state _ over o h) came_off (record { state_is = refl; nothing = refl; nobody = popped-answered e.stack nobody }) in
      let second = silent-by_when e.state entry.resolves _ (λ o h. not_open e.state _ over o h) _ first in
      over-silent e (returns.return schema e row entry vs (beginning e)) over (silent-by_deletes e.state entry.route row.kind _ second)

  -- takes

  silent-handled : (row : MessageRow) (m : Message) (vs : Values) (o : Output) → IsSilent e.state o → IsSilent e.state (takes.handled row m vs o)
  silent-handled row m vs o h = silent-by_constructs e.state m.made m.route row.kind (on_end (λ e. record e { stack = takes.dispatch_of row m ∷ e.stack }) (line (what.Take m.seq m.route m.number vs) o)) (record { state_is = h.state_is; nothing = h.nothing; nobody = (refl, h.nobody) })

  silent-dropped : (row : MessageRow) (m : Message) (id : ℤ) (o : Output) → IsSilent e.state o → IsSilent e.state (takes.dropped row m id o)
  silent-dropped row m id o h =
      silent-by_when e.state (is_sync_row row || makes_promise row) (answered (request_answered m) (answer.Fault reason.ActorDestroyed))
      (λ n k. not_open e.state (line (answer_line m.seq (answer.Fault reason.ActorDestroyed)) ▷ put (message (reply_to (request_answered m) (body_of (answer.Fault reason.ActorDestroyed))))) over n k) (line (what.Drop m.seq m.route m.number id) o) (record { state_is = h.state_is; nothing = h.nothing; nobody = h.nobody })

  silent-request : (m : Message) (vs : Values) (id : Option ℤ) (row : MessageRow) (o : Output) → IsSilent e.state o → IsSilent e.state (takes.dropped_or_handled id row m vs o)
  silent-request m vs None row o h = silent-handled row m vs o h
  silent-request m vs (Some id) row o h = silent-dropped row m id o h

  silent-by_row : (m : Message) (vs : Values) (found : Option MessageRow) (o : Output) → IsSilent e.state o → IsSilent e.state (option_map_or (takes.request_taken schema m vs) found (line (what.Drop m.seq m.route m.number m.route)) o)
  silent-by_row m vs None o h = record { state_is = h.state_is; nothing = h.nothing; nobody = h.nobody }
  silent-by_row m vs (Some row) o h = silent-request m (nulled schema o.end.actors row.params vs) (takes.dropped_for schema o.end row m vs) row o h

  silent-reply : (m : Message) (a : Answer) (found : Option MessageRow) (o : Output) → IsSilent e.state o → IsSilent e.state (option_map_or (takes.reply_taken schema m a) found unchanged o)
  silent-reply m a None o h = h
  silent-reply m a (Some row) o h =
      silent-by_when e.state (takes.is_awaited m.seq o.end.promises) (takes.settles m.seq (takes.outcome_of (received schema o.end.actors row a))) (λ n k. record { state_is = k.state_is; nothing = k.nothing; nobody = k.nobody }) o h

  over-closed : (why : Destroy) (o : Output) → o.packets ≡ [] → AllByRecursion IsAnswered (frames_of o.end) → StaysOver e (closed why o)
  over-closed why o nothing answered = record { over = refl; drained = λ d. cc; nothing = nothing; nobody = answered }

  ended-body : (m : Message) (body : Body) (o : Output) → IsSilent e.state o → StaysOver e (takes.body_taken schema m body o)
  ended-body m (Request vs) o h = over-silent e (takes.body_taken schema m (Request vs) o) over (silent-by_row m vs (message_of schema m.number) o h)
  ended-body m (Reply vs) o h = over-silent e (takes.body_taken schema m (Reply vs) o) over (silent-reply m (answer.Ok vs) (message_of schema m.number) (line (what.TakeReply m.seq) o) (record { state_is = h.state_is; nothing = h.nothing; nobody = h.nobody }))
  ended-body m (Fault why) o h = over-silent e (takes.body_taken schema m (Fault why) o) over (silent-reply m (answer.Fault why) (message_of schema m.number) (line (what.TakeReply m.seq) o) (record { state_is = h.state_is; nothing = h.nothing; nobody = h.nobody }))
  ended-body m Goodbye o h = over-closed _ (line what.ShutNormal o) h.nothing h.nobody

  ended-item : (x : Item) (o : Output) → IsSilent e.state o → StaysOver e (takes.item_taken schema x o)
  ended-item (item.Message m sync level) o h = ended-body m m.body o h
  ended-item item.Broken o h = over-closed _ (line what.ShutAbnormal o) h.nothing h.nobody

  ended-take : (x : Item) → StaysOver e (takes.take schema x (beginning e))
  ended-take x = ended-item x _ (record { state_is = refl; nothing = refl; nobody = nobody })

  pub ended_step : (link : List Packet) (happening : Event) (output : Output) → step schema e link happening ≡ Some output → StaysOver e output
  ended_step link (event.send route number vs name) output is =
      found-gives (StaysOver e) (request_row schema number) (λ row. provided (sends.may_send schema e row vs name) (sends.send schema e row route vs name) e) output
      (λ row found. provided-gives (StaysOver e) (sends.may_send schema e row vs name) (sends.send schema e row route vs name) e output (λ may. ended-send row route vs name)) is
  ended_step link (event.answer by vs) output is =
      found-gives (StaysOver e) (answers.answered_row schema e by) (λ row. provided (answers.may_answer schema e row vs) (answers.answer schema e row by vs) e) output
      (λ row found. provided-gives (StaysOver e) (answers.may_answer schema e row vs) (answers.answer schema e row by vs) e output (λ may. ended-answer row by vs)) is
  ended_step link (event.keep seq name) output is = provided-gives (StaysOver e) (answers.may_keep e seq) (answers.keep e seq name) e output (λ may. ended-keep seq name) is
  ended_step link (event.name name id) output is = provided-gives (StaysOver e) (sends.may_act e) (acts.name_actor name id) e output (λ may. ended-name name id) is
  ended_step link event.close output is = provided-gives (StaysOver e) (sends.may_act e) (acts.close e) e output (λ may. ended-close) is
  ended_step link event.die output is = provided-gives (StaysOver e) (acts.may_die e) acts.die e output (λ may. ended-die) is
  ended_step link event.deliver output is =
      found-gives (StaysOver e) (first_packet link) (λ packet. provided (is_open e.state) (delivery.deliver schema packet) e) output
      (λ packet found. provided-gives (StaysOver e) (is_open e.state) (delivery.deliver schema packet) e output (λ may. let k : true ≡ false = sym may ∙ over in cc)) is
  ended_step link event.take output is =
      found-gives (StaysOver e) (takes.taken_next e) (λ item. provided true (takes.take schema item) e) output
      (λ item found. provided-gives (StaysOver e) true (takes.take schema item) e output (λ may. ended-take item)) is
  ended_step link (event.return vs) output is =
      found-gives (StaysOver e) (returns.dispatch_on_top e.stack) (λ entry. option_and_then (λ row. provided (returns.may_return schema row vs) (returns.return schema e row entry vs) e) (request_row schema entry.number)) output
      (λ entry on_top. found-gives (StaysOver e) (request_row schema entry.number) (λ row. provided (returns.may_return schema row vs) (returns.return schema e row entry vs) e) output
      (λ row found. provided-gives (StaysOver e) (returns.may_return schema row vs) (returns.return schema e row entry vs) e output (λ may. ended-return row entry vs))) is
  ended_step link event.resume output is =
      found-gives (StaysOver e) (returns.answered_wait_on_top e.stack) (λ wait. option_and_then (λ row. provided true (returns.resume schema e wait row) e) (request_row schema wait.number)) output
      (λ wait on_top. found-gives (StaysOver e) (request_row schema wait.number) (λ row. provided true (returns.resume schema e wait row) e) output
      (λ row found. provided-gives (StaysOver e) true (returns.resume schema e wait row) e output
      (λ may. over-silent e (returns.resume schema e wait row (beginning e)) over (record { state_is = refl; nothing = refl; nobody = popped-answered e.stack nobody })))) is
  ended_step link event.flush output is =
      provided-gives (StaysOver e) (returns.may_flush e) returns.flush e output (λ may. let k : true ≡ false = sym (and-left (is_open e.state) (not (returns.is_empty e.outbox)) may) ∙ over in cc) is
