-- In a run of a valid script what a side does next is possible.
use Rattle.std.proofs.Common.{◌≡◌, ℕ, ℤ, Bool, true, false, not, ◌&&◌, ◌||◌, if◌then◌else◌, List, [], ◌∷◌, map, Option, Some, None, is_some, is_none, option_and_then, refl, sym, ap, subst, ◌∙◌}
use Rattle.std.specs.Prelude.{IsTrue, IsSomeAnd, option_map}
use Rattle.std.specs.List.{AllByRecursion, AllZip}
use Rattle.std.specs.Option.{option_map_or}
use Rattle.handler_script.specs.declared.action.Action.{Action}
use Rattle.handler_script.specs.declared.action.Action.TheVariants as action
use Rattle.handler_script.specs.declared.term.Terms.{Terms}
use Rattle.handler_script.specs.Blocks.{BlockContext, in_main, in_handler, side_of, handled_in}
use Rattle.handler_script.specs.Messages as messages
use Rattle.handler_script.specs.Messages.{if_async, if_sync, resolves, replies}
use Rattle.handler_script.specs.ScriptOf.{reply_at}
use Rattle.handler_script.specs.Valid.{EachTermFits, IsSendable, IsValidAction, IsValid, answers_handled}
use Rattle.handler_script.specs.ValueOf.{TermContext, no_id, id_of, values_of}
use Rattle.ipdl_base.specs.declared.kinds.Semantics.{Semantics}
use Rattle.ipdl_base.specs.declared.kinds.Semantics.TheVariants.{Async, Sync}
use Rattle.ipdl_base.specs.declared.kinds.Side.{Side}
use Rattle.ipdl_base.specs.declared.schema.Kind.{Kind}
use Rattle.ipdl_base.specs.declared.schema.Kind.TheVariants.{Normal, Constructor, Delete}
use Rattle.ipdl_base.specs.declared.schema.MessageRow.{MessageRow}
use Rattle.ipdl_base.specs.declared.schema.ParamRow.{ParamRow}
use Rattle.ipdl_base.specs.declared.schema.Schema.{Schema}
use Rattle.ipdl_base.specs.Sound.{IsSound, is_sync, message_of}
use Rattle.nesting_core.specs.declared.frame.Head.{Head}
use Rattle.nesting_core.specs.declared.frame.StackFrame.{StackFrame}
use Rattle.nesting_core.specs.declared.frame.StackFrame.TheVariants.{Dispatch, Wait}
use Rattle.nesting_core.specs.declared.frame.StackTop.{StackTop}
use Rattle.nesting_core.specs.declared.frame.StackTop.TheVariants as top
use Rattle.nesting_core.specs.Top.{top_of}
use Rattle.pending_queue.specs.declared.item.Item.{Item}
use Rattle.channel_model.specs.Acts as acts
use Rattle.channel_model.specs.Answers.{resolver_in, handled_resolver, answered_row, may_answer, may_keep, answer, keep}
use Rattle.channel_model.specs.Deliveries.{deliver}
use Rattle.channel_model.specs.Ends.{End, Packet, StackEntry, Resolver, end_of, link_to}
use Rattle.channel_model.specs.Events.{Event, handled, kept}
use Rattle.channel_model.specs.Events as event
use Rattle.channel_model.specs.Fitting.{FitsEntry, IsFitting}
use Rattle.ipdl_base.specs.Sides.{sends}
use Rattle.channel_model.specs.Numbers.{is_constructor, makes_promise, request_row}
use Rattle.channel_model.specs.Outputs.{Output, Change, is_open, is_dead_end}
use Rattle.channel_model.specs.Returns.{AnsweredWait, dispatch_on_top, may_return, return, answered_wait_on_top, resume, may_flush, flush}
use Rattle.channel_model.specs.Runs.{RunState}
use Rattle.channel_model.specs.Sends.{frames_of, may_act, may_send, send, is_wait_on_top}
use Rattle.channel_model.specs.Steps.{step, provided, first_packet}
use Rattle.channel_model.specs.Takes.{taken_next, take}
use Rattle.channel_model.specs.Typed.{have_types}
use Rattle.channel_model.proofs.TypesDecided.{decides_types}
use Rattle.schedules.specs.declared.turn.Turn.{Turn}
use Rattle.script_steps.specs.Choices.{Setting, Choice, own_event, may_deliver, is_within, is_doable, chosen}
use Rattle.script_steps.specs.Laws.{TurnIsChoice}
use Rattle.script_steps.specs.NextEvent.{context_of, event_of, block_for, handler_action}
use Rattle.script_steps.specs.Progress.{HandledRequest, Progress, progress_of}
use Rattle.script_steps.specs.Turns.{leads, exceeds, outcome, outcome_by, turn_choice, led_to}
use Rattle.script_steps.proofs.TurnChoices.{turns_are_choices}
use Rattle.script_runs.specs.Allowed.{IsAllowed}
use Rattle.script_runs.specs.Contexts.{FitsContext}
use Rattle.script_runs.specs.Dispatches.{dispatches}
use Rattle.script_runs.specs.Handlers.{IsHandlerOf}
use Rattle.script_runs.specs.Laws.{HasLimit, EventsArePossible, ScriptEventsArePossible}
use Rattle.script_runs.proofs.CaseRuns.{IsCase, case-fits}
use Rattle.script_runs.proofs.Contexts.{main-context, handler-context}
use Rattle.script_runs.proofs.Handlers.{HasDispatchOnTop, dispatch-top}
use Rattle.script_runs.proofs.KeptRuns.{case-keeps, case-side, case-stands}
use Rattle.script_runs.proofs.Leaves.{NameNoNulls}
use Rattle.script_runs.proofs.NextSteps.{IsNext, next-is}
use Rattle.script_runs.proofs.NextSteps as next
use Rattle.script_runs.proofs.Rest.{and-true, all-true}
use Rattle.script_runs.proofs.Terms.{terms_stand_for_values}
use Rattle.script_runs.proofs.ValidBlocks.{same-row, row-found, IsHandlerAction, handler-action, main-action, IsHandlerReply, handler-reply, answering-row}

-- What is allowed is possible

provided-some : (b : Bool) (change : Change) (e : End) → b ≡ true → is_some (provided b change e) ≡ true
provided-some true change e h = refl
provided-some false change e h = cc

found-some : {A : Type 0} (f : A → Option Output) (found : Option A) (x : A) → found ≡ Some x → is_some (f x) ≡ true → is_some (option_and_then f found) ≡ true
found-some f found x is h = ap (λ o. is_some (option_and_then f o)) is ∙ h

delivered-some : (b : Bool) (change : Packet → Change) (e : End) (found : Option Packet) → (b && is_some found) ≡ true → is_some (option_and_then (λ packet. provided b (change packet) e) found) ≡ true
delivered-some true change e (Some packet) h = refl
delivered-some true change e None h = cc
delivered-some false change e found h = cc

-- an event that is not a delivery
abbrev pub IsNoDelivery : Event → Type 0
IsNoDelivery event.deliver = ⊥
IsNoDelivery _ = Unit {0}

pub allowed-possible : (schema : Schema) (e : End) (link : List Packet) (x : Event) → IsNoDelivery x → IsAllowed schema e x → is_some (step schema e link x) ≡ true
allowed-possible schema e link (event.send route number vs name) own h = found-some (λ row. provided (may_send schema e row vs name) (send schema e row route vs name) e) (request_row schema number) h.0 h.1 (provided-some (may_send schema e h.0 vs name) (send schema e h.0 route vs name) e h.2)
allowed-possible schema e link (event.answer by vs) own h = found-some (λ row. provided (may_answer schema e row vs) (answer schema e row by vs) e) (answered_row schema e by) h.0 h.1 (provided-some (may_answer schema e h.0 vs) (answer schema e h.0 by vs) e h.2)
allowed-possible schema e link (event.keep seq name) own h = provided-some (may_keep e seq) (keep e seq name) e h
allowed-possible schema e link (event.name name id) own h = provided-some (may_act e) (acts.name_actor name id) e h
allowed-possible schema e link event.close own h = provided-some (may_act e) (acts.close e) e h
allowed-possible schema e link event.die own h = provided-some (acts.may_die e) acts.die e h
allowed-possible schema e link event.deliver own h = absurd own
allowed-possible schema e link event.take own h = found-some (λ item. provided true (take schema item) e) (taken_next e) h.0 h.1 refl
allowed-possible schema e link (event.return vs) own h =
    found-some (λ entry. option_and_then (λ row. provided (may_return schema row vs) (return schema e row entry vs) e) (request_row schema entry.number)) (dispatch_on_top e.stack) h.0 h.2
    (found-some (λ row. provided (may_return schema row vs) (return schema e row h.0 vs) e) (request_row schema h.0.number) h.1 h.3 (provided-some (may_return schema h.1 vs) (return schema e h.1 h.0 vs) e h.4))
allowed-possible schema e link event.resume own h =
    found-some (λ wait. option_and_then (λ row. provided true (resume schema e wait row) e) (request_row schema wait.number)) (answered_wait_on_top e.stack) h.0 h.2 (found-some (λ row. provided true (resume schema e h.0 row) e) (request_row schema h.0.number) h.1 h.3 refl)
allowed-possible schema e link event.flush own h = provided-some (may_flush e) flush e h

-- Rows

same-constructor : (kind : Kind) → messages.is_constructor kind ≡ is_constructor kind
same-constructor Normal = refl
same-constructor (Constructor p) = refl
same-constructor Delete = refl

one-row : (o : Option MessageRow) (row other : MessageRow) → o ≡ Some row → o ≡ Some other → row ≡ other
one-row o row other h k = let both : Some row ≡ Some other = sym h ∙ k in cc

-- Acts

module _ (schema : Schema) (e : End) (block : BlockContext) (context : TermContext) (seen : FitsContext schema block context) (own : side_of block ≡ e.side) (may : may_act e ≡ true) where
  typed : (types : List ParamRow) (ts : Terms) → EachTermFits schema block types ts → have_types schema types (values_of context ts) ≡ true
  typed types ts h = (decides_types.values schema types (values_of context ts)).1 (terms_stand_for_values schema block context types ts seen h)

  -- terms that resolve, and that are returned
  resolved-types : (s : Semantics) (r : Option (List ParamRow)) (ts : Terms) → IsSomeAnd (if_async s r) (λ types. EachTermFits schema block types ts) → have_types schema (option_map_or (λ types. types) r []) (values_of context ts) ≡ true
  resolved-types Sync r ts h = absurd h
  resolved-types Async None ts h = absurd h
  resolved-types Async (Some types) ts h = typed types ts h

  returned-types : (s : Semantics) (r : Option (List ParamRow)) (ts : Terms) → IsSomeAnd (if_sync s r) (λ types. EachTermFits schema block types ts) → (is_sync s && (is_some r && have_types schema (option_map_or (λ types. types) r []) (values_of context ts))) ≡ true
  returned-types Async r ts h = absurd h
  returned-types Sync None ts h = absurd h
  returned-types Sync (Some types) ts h = typed types ts h

  -- the message of a resolver makes promises
  promises : (row : MessageRow) (s : Semantics) (r : Option (List ParamRow)) → row.semantics ≡ s → row.returns ≡ r → is_some (if_async s r) ≡ true → makes_promise row ≡ true
  promises row Async None is_s is_r h = cc
  promises row Async (Some types) is_s is_r h = ap (λ (x : Semantics). makes_promise (record row { semantics = x })) is_s ∙ ap (λ (o : Option (List ParamRow)). makes_promise (record row { semantics = Async; returns = o })) is_r
  promises row Sync r is_s is_r h = cc

  some-of : {X : Type 0} (P : X → Type 0) (o : Option X) → IsSomeAnd o P → is_some o ≡ true
  some-of P None h = absurd h
  some-of P (Some x) h = refl

  sends-row : (who : ℤ) (number : ℕ) (ts : Terms) (name : Option (List ℕ)) (row : MessageRow) → message_of schema number ≡ Some row → IsSendable schema block number ts row → (is_none name || is_constructor row.kind) ≡ true → IsAllowed schema e (event.send who number (values_of context ts) name)
  sends-row who number ts name row found s named = (
    row,
    row-found schema number row found s.0,
    all-true (may_act e) row.carried (sends e.side row.direction) (have_types schema row.params (values_of context ts)) (is_none name || is_constructor row.kind) may s.2
        (ap (λ side. sends side row.direction) (sym own) ∙ s.1) (typed row.params ts s.3) named,
  )

  sends-found : (who : ℤ) (number : ℕ) (ts : Terms) (name : Option (List ℕ)) (P : MessageRow → Type 0) (found : Option MessageRow) → message_of schema number ≡ found
      → ((row : MessageRow) → P row → IsSendable schema block number ts row × ((is_none name || is_constructor row.kind) ≡ true)) → IsSomeAnd found P → IsAllowed schema e (event.send who number (values_of context ts) name)
  sends-found who number ts name P None is f h = absurd h
  sends-found who number ts name P (Some row) is f h = sends-row who number ts name row is (f row h).0 (f row h).1

  -- What answers the handled message has its resolver.
  record HasResolverOf (seq : ℤ) (row : MessageRow) : Type 0 where
    handles : handled_in block ≡ Some row
    answers : answered_row schema e (handled seq) ≡ Some row
    there : is_some (handled_resolver e seq) ≡ true

  named-row : (number : ℕ) (row : MessageRow) → message_of schema number ≡ Some row → row.number ≡ number → makes_promise row ≡ true → (name : List ℕ) → answered_row schema e (kept name number) ≡ Some row
  named-row number row found is promised name = ap (option_and_then (λ (r : MessageRow). if makes_promise r then Some r else None)) (row-found schema number row found is) ∙ same-row (makes_promise row) row promised

  named-resolves : (name : List ℕ) (number : ℕ) (ts : Terms) (found : Option MessageRow) → message_of schema number ≡ found → IsSomeAnd found (λ row. (row.number ≡ number) × IsSomeAnd (resolves row) (λ types. EachTermFits schema block types ts))
      → IsAllowed schema e (event.answer (kept name number) (Some (values_of context ts)))
  named-resolves name number ts None is h = absurd h
  named-resolves name number ts (Some row) is h = (
    row,
    named-row number row is h.0 (promises row row.semantics row.returns refl refl (some-of (λ types. EachTermFits schema block types ts) (resolves row) h.1)) name,
    and-true (may_act e) _ may (resolved-types row.semantics row.returns ts h.1),
  )

  named-rejects : (name : List ℕ) (number : ℕ) (found : Option MessageRow) → message_of schema number ≡ found → IsSomeAnd found (λ row. (row.number ≡ number) × (is_some (resolves row) ≡ true)) → IsAllowed schema e (event.answer (kept name number) None)
  named-rejects name number None is h = absurd h
  named-rejects name number (Some row) is h = (row, named-row number row is h.0 (promises row row.semantics row.returns refl refl h.1) name, and-true (may_act e) true may refl)

  handled-resolves : (seq : ℤ) (ts : Terms) (row : MessageRow) → HasResolverOf seq row → IsSomeAnd (option_and_then resolves (handled_in block)) (λ types. EachTermFits schema block types ts) → IsAllowed schema e (event.answer (handled seq) (Some (values_of context ts)))
  handled-resolves seq ts row r h = (
    row,
    r.answers,
    and-true (may_act e) _ may (resolved-types row.semantics row.returns ts (subst (λ (o : Option MessageRow). IsSomeAnd (option_and_then resolves o) (λ types. EachTermFits schema block types ts)) r.handles h)),
  )

  action-allowed : (seq : ℤ) (a : Action) → IsValidAction schema block a → (answers_handled a ≡ true → (row : MessageRow) × HasResolverOf seq row) → IsAllowed schema e (event_of context seq a)
  action-allowed seq (action.Send who number ts) v r = sends-found (id_of context who) number ts None (IsSendable schema block number ts) (message_of schema number) refl (λ row s. (s, refl)) v.1
  action-allowed seq (action.New name who number ts) v r =
      sends-found (id_of context who) number ts (Some name) (λ row. IsSendable schema block number ts row × IsTrue (messages.is_constructor row.kind)) (message_of schema number) refl (λ row s. (s.0, sym (same-constructor row.kind) ∙ s.1)) v.2
  action-allowed seq (action.Let name who) v r = may
  action-allowed seq (action.Resolve ts) v r = let x = r refl in handled-resolves seq ts x.0 x.1 v
  action-allowed seq action.Reject v r = let x = r refl in (x.0, x.1.answers, and-true (may_act e) true may refl)
  action-allowed seq (action.Keep name) v r = let x = r refl in and-true (may_act e) (is_some (handled_resolver e seq)) may x.1.there
  action-allowed seq (action.ResolveNamed name number ts) v r = named-resolves name number ts (message_of schema number) refl v.1
  action-allowed seq (action.RejectNamed name number) v r = named-rejects name number (message_of schema number) refl v.1
  action-allowed seq action.Close v r = may
  action-allowed seq action.Die v r = dies (is_dead_end e.state) refl
    where
      dies : (dead : Bool) → is_dead_end e.state ≡ dead → not (is_dead_end e.state) ≡ true
      dies false is = ap not is
      dies true is = let no : not true && not (is_wait_on_top (top_of (frames_of e))) ≡ true = ap (λ b. not b && not (is_wait_on_top (top_of (frames_of e)))) (sym is) ∙ may in cc

-- Ends in runs

wait-found : (x : StackEntry) (xs : List StackEntry) (head : Head) (f : StackFrame) → x.frame ≡ f → top_of (f ∷ map (λ (y : StackEntry). y.frame) xs) ≡ top.Answered head → (wait : AnsweredWait) × (answered_wait_on_top (x ∷ xs) ≡ Some wait) × (wait.number ≡ x.number)
wait-found x xs head (Dispatch own) is h = cc
wait-found x xs head (Wait own None) is h = cc
wait-found x xs head (Wait own (Some a)) is h = (record { seq = own.seq; number = x.number; given = a }, ap (λ (g : StackFrame). answered_wait_on_top (record x { frame = g } ∷ xs)) is, refl)

dispatch-found : (x : StackEntry) (xs : List StackEntry) (head : Head) → x.frame ≡ Dispatch head → dispatch_on_top (x ∷ xs) ≡ Some x
dispatch-found x xs head is = ap (λ (g : StackFrame). dispatch_on_top (record x { frame = g } ∷ xs)) is ∙ ap (λ (g : StackFrame). Some (record x { frame = g })) (sym is)

none-returned : (row : MessageRow) (schema : Schema) → may_return schema row None ≡ true
none-returned row schema = refl

module _ (setting : Setting) (e : End) (p : Progress) (valid : IsValid setting.schema setting.script) (fits : IsFitting setting.schema e) (names : NameNoNulls e) (stands : AllZip (IsHandlerOf setting.schema setting.script e.side e) (dispatches e.stack) p.handled)
    (alive : is_dead_end e.state ≡ false) where
  may-act-on : (found : StackTop) → top_of (frames_of e) ≡ found → is_wait_on_top found ≡ false → may_act e ≡ true
  may-act-on found is none = and-true (not (is_dead_end e.state)) (not (is_wait_on_top (top_of (frames_of e)))) (ap not alive) (ap (λ (t : StackTop). not (is_wait_on_top t)) is ∙ ap not none)

  -- no main has a message to answer
  main-answers : (a : Action) → IsValidAction setting.schema (in_main e.side) a → answers_handled a ≡ true → ⊥
  main-answers (action.Resolve ts) v h = v
  main-answers action.Reject v h = cc
  main-answers (action.Keep name) v h = let no : is_some (option_and_then resolves None) ≡ true = v.1 in cc
  main-answers (action.Send who number ts) v h = cc
  main-answers (action.New name who number ts) v h = cc
  main-answers (action.Let name who) v h = cc
  main-answers (action.ResolveNamed name number ts) v h = cc
  main-answers (action.RejectNamed name number) v h = cc
  main-answers action.Close v h = cc
  main-answers action.Die v h = cc

  main-allowed : (a : Action) → may_act e ≡ true → IsValidAction setting.schema (in_main e.side) a → IsAllowed setting.schema e (event_of (context_of e []) no_id a)
  main-allowed a may v = action-allowed setting.schema e (in_main e.side) (context_of e []) (main-context setting.schema e.side e names) refl may no_id a v (λ h. absurd (main-answers a v h))

  module _ (head : Head) (t : HasDispatchOnTop e.stack head) where
    top-fits : FitsEntry setting.schema t.entry
    top-fits = (subst (λ (xs : List StackEntry). AllByRecursion (FitsEntry setting.schema) xs) t.is fits.stack).0

    top-dispatch : dispatch_on_top e.stack ≡ Some t.entry
    top-dispatch = ap dispatch_on_top t.is ∙ dispatch-found t.entry t.below head t.frame

    none-allowed : IsAllowed setting.schema e (event.return None)
    none-allowed = (t.entry, top-fits.row, top-dispatch, top-fits.request.found, none-returned top-fits.row setting.schema)

    module _ (request : HandledRequest) (rest : List HandledRequest) (is : p.handled ≡ request ∷ rest) where
      top-handler : IsHandlerOf setting.schema setting.script e.side e t.entry request
      top-handler =
          (subst (λ (hs : List HandledRequest). AllZip (IsHandlerOf setting.schema setting.script e.side e) (t.entry ∷ dispatches t.below) hs) is
          (subst (λ (es : List StackEntry). AllZip (IsHandlerOf setting.schema setting.script e.side e) es p.handled) t.entries stands)).0

      context-fits : FitsContext setting.schema (in_handler e.side top-handler.row) (context_of e (request ∷ rest))
      context-fits = handler-context setting.schema e.side e t.entry t.below top-handler.row request rest names t.is top-handler.given top-handler.made top-handler.route

      handler-allowed : (a : Action) → may_act e ≡ true → handler_action setting.script e.side request ≡ Some a → IsAllowed setting.schema e (event_of (context_of e (request ∷ rest)) request.seq a)
      handler-allowed a may found =
          let k : IsHandlerAction setting.schema setting.script e.side request a = handler-action setting.schema setting.script e.side request a valid found in
          let same : k.row ≡ top-handler.row = one-row (request_row setting.schema request.number) k.row top-handler.row k.found top-handler.found in
          let v : IsValidAction setting.schema (in_handler e.side top-handler.row) a = subst (λ (r : MessageRow). IsValidAction setting.schema (in_handler e.side r) a) same k.valid in
          action-allowed setting.schema e (in_handler e.side top-handler.row) (context_of e (request ∷ rest)) context-fits refl may request.seq a v
          (λ answers.
          let promised : makes_promise top-handler.row ≡ true = answering-row setting.schema e.side top-handler.row a answers v in
          let found_by : handled_resolver e request.seq ≡ Some (resolver_in t.entry) = top-handler.resolver (top-handler.unused promised (k.once answers)) in (
            top-handler.row,
            record {
              handles = refl;
              answers = ap (option_and_then (λ (r : Resolver). request_row setting.schema r.number)) found_by ∙ ap (request_row setting.schema) top-handler.is_dispatch.1 ∙ top-handler.found;
              there = ap is_some found_by;
            },
          ))

      reply-allowed : (found : Option Terms) → reply_at setting.script e.side request.number (block_for setting.script e.side request) ≡ found → may_act e ≡ true → IsAllowed setting.schema e (event.return (option_map (values_of (context_of e (request ∷ rest))) found))
      reply-allowed None is may = none-allowed
      reply-allowed (Some ts) is may =
          let k : IsHandlerReply setting.schema e.side request.number ts = handler-reply setting.schema setting.script e.side request.number (block_for setting.script e.side request) ts valid is in
          let same : k.row ≡ top-handler.row = one-row (request_row setting.schema request.number) k.row top-handler.row k.found top-handler.found in
          let v : IsSomeAnd (replies top-handler.row) (λ types. EachTermFits setting.schema (in_handler e.side top-handler.row) types ts) = subst (λ (r : MessageRow). IsSomeAnd (replies r) (λ types. EachTermFits setting.schema (in_handler e.side r) types ts)) same k.valid in (
            t.entry,
            top-handler.row,
            top-dispatch,
            ap (request_row setting.schema) top-handler.is_dispatch.1 ∙ top-handler.found,
            returned-types setting.schema e (in_handler e.side top-handler.row) (context_of e (request ∷ rest)) context-fits refl may top-handler.row.semantics top-handler.row.returns ts v,
          )

  resume-allowed : (head : Head) (stack : List StackEntry) → e.stack ≡ stack → top_of (map (λ (y : StackEntry). y.frame) stack) ≡ top.Answered head → AllByRecursion (FitsEntry setting.schema) stack → IsAllowed setting.schema e event.resume
  resume-allowed head [] is h f = cc
  resume-allowed head (x ∷ xs) is h f =
      let w = wait-found x xs head x.frame refl h in
      (w.0, f.0.row, ap answered_wait_on_top is ∙ w.1, ap (request_row setting.schema) w.2 ∙ f.0.request.found)

  take-allowed : (found : Option Item) → taken_next e ≡ found → is_some found ≡ true → IsAllowed setting.schema e event.take
  take-allowed None is h = cc
  take-allowed (Some item) is h = (item, is)

  pub next-allowed : (x : Event) → IsNext setting.script e p x → IsAllowed setting.schema e x
  next-allowed _ next.stops = ap not alive
  next-allowed _ (next.acts head request below a on_top is found) = handler-allowed head (dispatch-top e.stack head on_top) request below is a (may-act-on (top.Dispatch head) on_top refl) found
  next-allowed _ (next.returns head request below on_top is) =
      reply-allowed head (dispatch-top e.stack head on_top) request below is (reply_at setting.script e.side request.number (block_for setting.script e.side request)) refl (may-act-on (top.Dispatch head) on_top refl)
  next-allowed _ (next.returns_none head on_top) = none-allowed head (dispatch-top e.stack head on_top)
  next-allowed _ (next.takes some) = take-allowed (taken_next e) refl some
  next-allowed _ (next.acts_in_main a on_top opened is) = main-allowed a (may-act-on top.Empty on_top refl) (main-action setting.schema setting.script e.side p.main a valid is)
  next-allowed _ (next.resumes head on_top) = resume-allowed head e.stack refl on_top fits.stack
  next-allowed _ (next.flushes may) = may

-- no step that an end makes on its own is a delivery

action-own : (context : TermContext) (seq : ℤ) (a : Action) → IsNoDelivery (event_of context seq a)
action-own context seq (action.Send who number terms) = tt
action-own context seq (action.New name who number terms) = tt
action-own context seq (action.Let name who) = tt
action-own context seq (action.Resolve terms) = tt
action-own context seq action.Reject = tt
action-own context seq (action.Keep name) = tt
action-own context seq (action.ResolveNamed name number terms) = tt
action-own context seq (action.RejectNamed name number) = tt
action-own context seq action.Close = tt
action-own context seq action.Die = tt

pub next-own : (setting : Setting) (e : End) (p : Progress) (x : Event) → IsNext setting.script e p x → IsNoDelivery x
next-own setting e p _ next.stops = tt
next-own setting e p _ (next.acts head request below a on_top is found) = action-own (context_of e (request ∷ below)) request.seq a
next-own setting e p _ (next.returns head request below on_top is) = tt
next-own setting e p _ (next.returns_none head on_top) = tt
next-own setting e p _ (next.takes some) = tt
next-own setting e p _ (next.acts_in_main a on_top opened is) = action-own (context_of e []) no_id a
next-own setting e p _ (next.resumes head on_top) = tt
next-own setting e p _ (next.flushes may) = tt

-- The law

module _ (setting : Setting) (state : RunState) (sound : IsSound setting.schema) (valid : IsValid setting.schema setting.script) (limit : HasLimit setting) (c : IsCase setting state) where
  own-allowed : (side : Side) (x : Event) → own_event setting side state ≡ Some x → IsAllowed setting.schema (end_of side state.world) x
  own-allowed side x h =
      let e : End = end_of side state.world in
      let p : Progress = progress_of side state.lines in
      let n = next-is setting.script setting.stop e p x h in
      let stands : AllZip (IsHandlerOf setting.schema setting.script e.side e) (dispatches e.stack) p.handled =
      subst (λ (s : Side). AllZip (IsHandlerOf setting.schema setting.script s e) (dispatches e.stack) p.handled) (sym (case-side setting sound state side c)) (case-stands setting state side sound valid limit c)
      in
      next-allowed setting e p valid (case-fits setting state side sound limit c).end (case-keeps setting sound state side c).names stands n.0 x n.1

  own-doable : (side : Side) (x : Event) → own_event setting side state ≡ Some x → is_doable setting side state x ≡ true
  own-doable side x h =
      let e : End = end_of side state.world in
      let n = next-is setting.script setting.stop e (progress_of side state.lines) x h in
      allowed-possible setting.schema e (link_to side state.world) x (next-own setting e (progress_of side state.lines) x n.1) (own-allowed side x h)

  delivery-doable : (side : Side) → may_deliver side state.world ≡ true → is_doable setting side state event.deliver ≡ true
  delivery-doable side h = delivered-some (is_open (end_of side state.world).state) (deliver setting.schema) (end_of side state.world) (first_packet (link_to side state.world)) h

  if-delivers : (side : Side) (x : Event) (b : Bool) → may_deliver side state.world ≡ b → (if b then Some event.deliver else None) ≡ Some x → is_doable setting side state x ≡ true
  if-delivers side x true may h =
      let same : event.deliver ≡ x = cc in
      subst (λ y. is_doable setting side state y ≡ true) same (delivery-doable side may)
  if-delivers side x false may h = cc

  event-doable : (choice : Choice) (x : Event) (delivers : Bool) → (if delivers then (if may_deliver choice.side state.world then Some event.deliver else None) else own_event setting choice.side state) ≡ Some x → is_doable setting choice.side state x ≡ true
  event-doable choice x true h = if-delivers choice.side x (may_deliver choice.side state.world) refl h
  event-doable choice x false h = own-doable choice.side x h

  turn-plays : (turn : Turn) (choice : Choice) → turn_choice setting turn state ≡ Some choice → is_within setting turn.side state ≡ true → chosen setting choice state ≡ Some (led_to setting choice state)
  turn-plays turn choice chooses within =
      let leading : outcome setting turn state ≡ leads (led_to setting choice state) =
      ap (outcome_by setting turn.side state) chooses ∙ ap (λ b. if b then leads (led_to setting choice state) else exceeds) within
      in
      let t : TurnIsChoice setting turn state (led_to setting choice state) = turns_are_choices setting turn state (led_to setting choice state) leading in
      let same : t.choice ≡ choice = let both : Some t.choice ≡ Some choice = sym t.chooses ∙ chooses in cc in
      let doable : is_doable setting turn.side state t.event ≡ true = subst (λ (s : Side). is_doable setting s state t.event ≡ true) t.side (event-doable t.choice t.event t.choice.delivers t.does) in
      subst (λ (x : Choice). chosen setting x state ≡ Some (led_to setting choice state)) same (t.plays doable)

  pub case-possible : EventsArePossible setting state
  case-possible = record { allowed = own-allowed; own = own-doable; delivery = delivery-doable; turn = turn-plays }

pub script_events_are_possible : ScriptEventsArePossible
script_events_are_possible setting choices state sound valid limit h = case-possible setting state sound valid limit (record { choices = choices; plays = h })
