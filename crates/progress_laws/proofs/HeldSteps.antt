-- While an end is open every step of it keeps a resolver, or sends its answer; and no two names of an end are the same.
use Rattle.std.proofs.Common.{◌≡◌, ℕ, ◌+◌, ◌≤◌, ◌⊎◌, inl, inr, ℤ, pos, Bool, true, false, not, ◌&&◌, ◌||◌, if◌then◌else◌, int_eq, List, [], ◌∷◌, ◌++◌, drop, Option, Some, None, is_some, option_and_then, refl, sym, ap, subst, ◌∙◌}
use Rattle.std.specs.Option.{option_map_or}
use Rattle.std.proofs.lemmas.Bool.{cases_Bool, or_right}
use Rattle.std.proofs.lemmas.Bool.Decides.{Decides-int_eq}
use Rattle.std.proofs.lemmas.Option.{same_Some}
use Rattle.ipdl_base.specs.declared.kinds.Destroy.{Destroy}
use Rattle.ipdl_base.specs.declared.kinds.Destroy.TheVariants.{NormalShutdown, AbnormalShutdown}
use Rattle.ipdl_base.specs.declared.kinds.EndState.{EndState}
use Rattle.ipdl_base.specs.declared.kinds.EndState.TheVariants.{Open, Draining, Closed, Dead}
use Rattle.ipdl_base.specs.declared.kinds.Reason.TheVariants.{ActorDestroyed, ResolverDestroyed, HandlerRejected}
use Rattle.ipdl_base.specs.declared.kinds.SendRefusal.{SendRefusal}
use Rattle.ipdl_base.specs.declared.line.What.{What}
use Rattle.ipdl_base.specs.declared.line.What.TheVariants as what
use Rattle.ipdl_base.specs.declared.message.Body.{Body}
use Rattle.ipdl_base.specs.declared.message.Body.TheVariants.{Request, Reply, Fault, Goodbye}
use Rattle.ipdl_base.specs.declared.message.Message.{Message}
use Rattle.ipdl_base.specs.declared.schema.MessageRow.{MessageRow}
use Rattle.ipdl_base.specs.declared.schema.Schema.{Schema}
use Rattle.ipdl_base.specs.declared.value.Values.{Values}
use Rattle.ipdl_base.specs.Sound.{message_of}
use Rattle.nesting_core.specs.declared.frame.Answer.{Answer}
use Rattle.nesting_core.specs.declared.frame.Answer.TheVariants as answer
use Rattle.nesting_core.specs.declared.frame.StackFrame.{StackFrame}
use Rattle.nesting_core.specs.declared.frame.StackFrame.TheVariants.{Dispatch, Wait}
use Rattle.nesting_core.specs.Frames.{head_of, is_dispatch}
use Rattle.pending_queue.specs.declared.item.Item.{Item}
use Rattle.pending_queue.specs.declared.item.Item.TheVariants as item
use Rattle.channel_model.specs.Acts as acts
use Rattle.channel_model.specs.Answers as answers
use Rattle.channel_model.specs.Answers.{has_resolver, resolver_in, released}
use Rattle.channel_model.specs.Ends.{End, Packet, message, mark, StackEntry, Naming, NameContent, actor, resolver, Resolver}
use Rattle.channel_model.specs.Events.{Event, Answering, handled, kept}
use Rattle.channel_model.specs.Events as event
use Rattle.channel_model.specs.Falls as falls
use Rattle.channel_model.specs.Names.{has_name, held_by_name, without_name, let_go, holding, renamed}
use Rattle.channel_model.specs.Numbers.{counting, request_row, is_sync_row, makes_promise}
use Rattle.channel_model.specs.Outputs.{Output, beginning, is_open, is_closed, unchanged, ◌▷◌, when, on_end, line, put, answered, request_answered, resolver_answered, reply_to}
use Rattle.channel_model.specs.Parts.{left_end}
use Rattle.channel_model.specs.Returns as returns
use Rattle.channel_model.specs.Sends as sends
use Rattle.channel_model.specs.Steps.{step, provided}
use Rattle.channel_model.specs.Takes as takes
use Rattle.channel_model.specs.ValueActors.{nulled, received}
use Rattle.channel_laws.specs.AnswersOnce.{owes_answer}
use Rattle.channel_laws.specs.Counts.{how_many}
use Rattle.channel_laws.specs.Notes.{In, here, there}
use Rattle.channel_laws.proofs.Answering.{used-held}
use Rattle.channel_laws.proofs.ArrivalParts.{taken-first}
use Rattle.channel_laws.proofs.Growing.{in-before, in-following}
use Rattle.channel_laws.proofs.Rows.{request-message}
use Rattle.channel_model.proofs.Provided.{provided-gives, found-gives}
use Rattle.channel_model.proofs.Tests.{and-left, and-right}
use Rattle.progress_laws.specs.Promises.{BringsResolver, AnswersFor, MayAnswer, has_arrived, is_handled, is_kept}
use Rattle.progress_laws.proofs.HeldResolvers.{NamesDiffer, filter-differ, holding-differ, name-finds, in-released, resolver-found, IsAnswered, answered-more, Grows, Growing, grow-chain, grow-same, grow-line, grow-put, grow-when, grow-answered, grow-let_go, grow-constructs, grow-deletes, answer-sent, resolver-answered, answers-request, same-resolver}
use Rattle.progress_laws.proofs.Members.{in-filter, in-taken}

module _ (schema : Schema) (e : End) (r : Resolver) where
  -- An open end may answer by a resolver, which no other frame has, and which a message that makes a promise brings.
  pub record IsHeld : Type 0 where
    pub opened : is_open e.state ≡ true
    pub few : (n : ℤ) → how_many (owes_answer n) e.stack ≤ 1
    pub row : MessageRow
    pub found : request_row schema r.number ≡ Some row
    pub promised : makes_promise row ≡ true
    pub may : MayAnswer e.arrived e.stack e.names r

  -- the end may still answer, or has answered
  abbrev pub StillOrAnswered : Output → Type 0
  StillOrAnswered o = MayAnswer o.end.arrived o.end.stack o.end.names r ⊎ IsAnswered r o.packets

  -- what is kept of the beginning of a step: names differ, and while the end is open its resolver is still there, or
  -- answered
  abbrev pub Kept : Output → Type 0
  Kept o = NamesDiffer o.end.names × (IsHeld → is_open o.end.state ≡ true → StillOrAnswered o)

  still-grows : (a b : Output) → Grows a b → StillOrAnswered a → StillOrAnswered b
  still-grows a b g (inl (has_arrived m sync level i brings)) = inl (has_arrived m sync level (g.arrived (item.Message m sync level) i) brings)
  still-grows a b g (inl (is_handled entry i has is)) = inl (is_handled entry (g.stack entry i) has is)
  still-grows a b g (inl (is_kept naming i holds)) = inl (is_kept naming (subst (In naming) (sym g.names) i) holds)
  still-grows a b g (inr h) = inr (answered-more r a.packets b.packets g.packets h)

  kept-grows : (a b : Output) → Grows a b → Kept a → Kept b
  kept-grows a b g k = (subst NamesDiffer (sym g.names) k.0, λ held opened. still-grows a b g (k.1 held (ap is_open (sym g.state) ∙ opened)))

  -- an end that has closed is not open
  kept-closed : (why : Destroy) (o : Output) → NamesDiffer o.end.names → Kept (falls.closed why o)
  kept-closed why o differ = (filter-differ _ o.end.names differ, λ held opened. cc)

  -- Names that get a new content

  module _ (name : List ℕ) (holds : Option NameContent) (o : Output) where
    abbrev unnamed : Output
    unnamed = on_end (λ e. record e { names = without_name name e.names }) o

    abbrev gone : Output
    gone = let_go (held_by_name name o.end.names) unnamed

    lets-go : Grows unnamed gone
    lets-go = grow-let_go (held_by_name name o.end.names) unnamed

    renamed-differ : NamesDiffer o.end.names → NamesDiffer (renamed name holds o).end.names
    renamed-differ h = subst (λ (names : List Naming). NamesDiffer (names ++ holding name holds)) (sym lets-go.names) (holding-differ name holds o.end.names h)

    -- a resolver that the name had is answered
    let_go-answers : (before : Option NameContent) → before ≡ Some (resolver r) → is_open o.end.state ≡ true → IsAnswered r (let_go before unnamed).packets
    let_go-answers None is opened = cc
    let_go-answers (Some (actor id)) is opened = cc
    let_go-answers (Some (resolver q)) is opened = let same : q ≡ r = cc in subst (λ (x : Resolver). IsAnswered x (let_go (Some (resolver q)) unnamed).packets) same (resolver-answered q (answer.Fault ResolverDestroyed) unnamed opened)

    renamed-still : NamesDiffer o.end.names → is_open o.end.state ≡ true → StillOrAnswered o → StillOrAnswered (renamed name holds o)
    renamed-still differ opened (inl (has_arrived m sync level i brings)) = inl (has_arrived m sync level (lets-go.arrived (item.Message m sync level) i) brings)
    renamed-still differ opened (inl (is_handled entry i has is)) = inl (is_handled entry (lets-go.stack entry i) has is)
    renamed-still differ opened (inl (is_kept naming i is)) = elim (cases_Bool (has_name name naming)) [
      | inl same ↦ inr (let_go-answers (held_by_name name o.end.names) (name-finds name o.end.names naming differ i same ∙ ap (λ (c : NameContent). Some c) is) opened)
      | inr other ↦ inl (is_kept naming (in-before (holding name holds) (subst (In naming) (sym lets-go.names) (in-filter _ o.end.names naming i (ap not other)))) is)
    ]
    renamed-still differ opened (inr h) = inr (answered-more r o.packets gone.packets lets-go.packets h)

    -- a resolver goes to the name
    renamed-holds : holds ≡ Some (resolver r) → StillOrAnswered (renamed name holds o)
    renamed-holds is = inl (is_kept (record { name = name; holds = resolver r }) (in-following gone.end.names (subst (λ (h : Option NameContent). In (record { name = name; holds = resolver r }) (holding name h)) (sym is) here)) refl)

    kept-renamed : Kept o → Kept (renamed name holds o)
    kept-renamed k = (renamed-differ k.0, λ held opened. let before : is_open o.end.state ≡ true = ap is_open (sym lets-go.state) ∙ opened in renamed-still k.0 before (k.1 held before))

  -- Acts

  kept-names : (id : ℤ) (name : Option (List ℕ)) (o : Output) → Kept o → Kept (sends.names_actor id name o)
  kept-names id None o k = k
  kept-names id (Some name) o k = kept-renamed name (Some (actor id)) o k

  grow-posted : (lazy : Bool) (m : Message) → Growing (sends.posted_by lazy m)
  grow-posted true m o = record { arrived = λ x i. i; stack = λ x i. i; names = refl; state = refl; packets = λ x i. i }
  grow-posted false m o = grow-put (message m) o

  grow-waits : (b : Bool) (entry : StackEntry) → Growing (when b (on_end (λ e. record e { stack = entry ∷ e.stack })))
  grow-waits b entry = grow-when b _ (λ o. record { arrived = λ x i. i; stack = λ x i. there i; names = refl; state = refl; packets = λ x i. i })

  grow-awaits : (row : MessageRow) (m : Message) → Growing (sends.awaits_reply row m)
  grow-awaits row m o =
      grow-chain o _ _ (grow-waits (is_sync_row row) (sends.wait_for row m) o)
      (grow-when (makes_promise row) _ (λ n. record { arrived = λ x i. i; stack = λ x i. i; names = refl; state = refl; packets = λ x i. i }) (when (is_sync_row row) (on_end (λ e. record e { stack = sends.wait_for row m ∷ e.stack })) o))

  kept-sent : (refused : Option SendRefusal) (row : MessageRow) (m : Message) (vs : Values) (name : Option (List ℕ)) → Kept (beginning e) → Kept (sends.sent_unless refused row m vs name (beginning e))
  kept-sent (Some cause) row m vs name k = k
  kept-sent None row m vs name k =
      let first : Output = (line (sends.send_line row m vs) ▷ on_end (λ x. record x { sent = x.sent + 1; constructors_sent = counting row.kind x.constructors_sent })) (beginning e) in
      let posted : Output = sends.posted row m first in
      let waiting : Output = sends.awaits_reply row m posted in
      let named : Output = sends.names_actor m.made name waiting in
      let built : Output = sends.constructs m.made m.route row.kind named in
      kept-grows named _ (grow-chain named built _ (grow-constructs m.made m.route row.kind named) (grow-deletes m.route row.kind built))
      (kept-names m.made name waiting (kept-grows first waiting (grow-chain first posted waiting (grow-posted row.lazy m first) (grow-awaits row m posted)) k))

  answers-for : (q : Resolver) (vs : Option Values) → AnswersFor q (reply_to (resolver_answered q) (answers.answer_body vs))
  answers-for q None = record { answer = answer.Fault HandlerRejected; body = refl; seq = refl; route = refl; number = refl }
  answers-for q (Some vs) = record { answer = answer.Ok vs; body = refl; seq = refl; route = refl; number = refl }

  -- an answer by another resolver, or by this one
  resolved-still : (by : Answering) (vs : Option Values) (used : Resolver) → answers.resolver_used e by ≡ Some used → NamesDiffer e.names → IsHeld → StillOrAnswered (answers.resolved by vs used (beginning e))
  resolved-still way vs used is differ held = from way is held.may
    where
      sent : (way : Answering) → used ≡ r → StillOrAnswered (answers.resolved way vs used (beginning e))
      sent way same = inr (subst (λ (q : Resolver). IsAnswered q (answers.resolved way vs used (beginning e)).packets) same
          (record { reply = reply_to (resolver_answered used) (answers.answer_body vs); sent = in-following _ here; answers = answers-for used vs }))

      from : (way : Answering) → answers.resolver_used e way ≡ Some used → MayAnswer e.arrived e.stack e.names r → StillOrAnswered (answers.resolved way vs used (beginning e))
      from (handled seq) is (has_arrived m sync level i brings) = inl (has_arrived m sync level i brings)
      from (kept name number) is (has_arrived m sync level i brings) = inl (has_arrived m sync level i brings)
      from (handled seq) is (is_handled entry i has same) = elim (cases_Bool (has_resolver seq entry)) [
        | inl found ↦ sent (handled seq) (sym (resolver-found seq e.stack entry used (held.few seq) i found is) ∙ same)
        | inr other ↦ inl (is_handled entry (in-released seq e.stack entry i other) has same)
      ]
      from (kept name number) is (is_handled entry i has same) = inl (is_handled entry i has same)
      from (handled seq) is (is_kept naming i holds) = inl (is_kept naming i holds)
      from (kept name number) is (is_kept naming i holds) = elim (cases_Bool (has_name name naming)) [
        | inl found ↦
            let a : Some naming.holds ≡ Some (resolver used) = sym (name-finds name e.names naming differ i found) ∙ used-held number used (held_by_name name e.names) is in
            let b : used ≡ r = let c : resolver used ≡ resolver r = sym (same_Some naming.holds (resolver used) a) ∙ holds in cc in
            sent (kept name number) b
        | inr other ↦ inl (is_kept naming (in-filter _ e.names naming i (ap not other)) holds)
      ]

  used-differ : (by : Answering) → NamesDiffer e.names → NamesDiffer (answers.without_resolver by e).names
  used-differ (handled seq) h = h
  used-differ (kept name number) h = filter-differ _ e.names h

  kept-answered : (refused : Option SendRefusal) (by : Answering) (vs : Option Values) (used : Option Resolver) → answers.resolver_used e by ≡ used → Kept (beginning e) → Kept (answers.answered_unless refused by vs used (beginning e))
  kept-answered (Some cause) by vs used is k = k
  kept-answered None by vs None is k = k
  kept-answered None by vs (Some used) is k = (used-differ by k.0, λ held opened. resolved-still by vs used is k.0 held)

  open-not_closed : (state : EndState) → is_open state ≡ true → is_closed state ≡ false
  open-not_closed Open opened = refl
  open-not_closed Draining opened = refl
  open-not_closed Closed opened = cc
  open-not_closed Dead opened = refl

  -- a resolver is kept under a name: this one or another
  module _ (seq : ℤ) (name : List ℕ) where
    abbrev released_end : Output
    released_end = (line (what.Keep seq name) ▷ on_end (λ x. record x { stack = released seq x.stack })) (beginning e)

    kept-still : (found : Resolver) → answers.handled_resolver e seq ≡ Some found → NamesDiffer e.names → IsHeld → StillOrAnswered (renamed name (answers.kept_by e found) released_end)
    kept-still found is differ held = from held.may
      where
        holds : Option NameContent
        holds = answers.kept_by e found

        from : MayAnswer e.arrived e.stack e.names r → StillOrAnswered (renamed name (answers.kept_by e found) released_end)
        from (has_arrived m sync level i brings) = renamed-still name (answers.kept_by e found) released_end differ held.opened (inl (has_arrived m sync level i brings))
        from (is_kept naming i kept_is) = renamed-still name (answers.kept_by e found) released_end differ held.opened (inl (is_kept naming i kept_is))
        from (is_handled entry i has same) = elim (cases_Bool (has_resolver seq entry)) [
          | inl own ↦
              let this : found ≡ r = sym (resolver-found seq e.stack entry found (held.few seq) i own is) ∙ same in
              renamed-holds name (answers.kept_by e found) released_end
              (ap (λ (b : Bool). if b then None else Some (resolver found)) (open-not_closed e.state held.opened) ∙ ap (λ (q : Resolver). Some (resolver q)) this)
          | inr other ↦ renamed-still name (answers.kept_by e found) released_end differ held.opened (inl (is_handled entry (in-released seq e.stack entry i other) has same))
        ]

    kept-kept : (found : Option Resolver) → answers.handled_resolver e seq ≡ found → is_some found ≡ true → Kept (beginning e) → Kept (renamed name (option_and_then (answers.kept_by e) found) released_end)
    kept-kept None is some k = cc
    kept-kept (Some found) is some k = (renamed-differ name (answers.kept_by e found) released_end k.0, λ held opened. kept-still found is k.0 held)

  kept-close : (refused : Option SendRefusal) → Kept (beginning e) → Kept (acts.close_unless refused (beginning e))
  kept-close None k = kept-closed NormalShutdown ((line what.Close ▷ put (message acts.goodbye)) (beginning e)) k.0
  kept-close (Some cause) k = k

  kept-death : Kept (beginning e) → Kept (acts.die (beginning e))
  kept-death k = (subst NamesDiffer (sym (grow-when (is_open e.state) (put mark) (grow-put mark) (line what.Die (beginning e))).names) k.0, λ held opened. cc)

  -- Takes

  -- an output grows, or its end is no longer open
  data Goes (a b : Output) : Type 0 where
    on : Grows a b → Goes a b
    out : is_open b.end.state ≡ false → (NamesDiffer a.end.names → NamesDiffer b.end.names) → Goes a b

  goes-differ : (a b : Output) → Goes a b → NamesDiffer a.end.names → NamesDiffer b.end.names
  goes-differ a b (on g) h = subst NamesDiffer (sym g.names) h
  goes-differ a b (out shut keeps) h = keeps h

  goes-still : (a b : Output) → Goes a b → is_open b.end.state ≡ true → StillOrAnswered a → StillOrAnswered b
  goes-still a b (on g) opened h = still-grows a b g h
  goes-still a b (out shut keeps) opened h = let k : true ≡ false = sym opened ∙ shut in cc

  -- the same if a line is printed first
  line-goes : (w : What) (o b : Output) → Goes (line w o) b → Goes o b
  line-goes w o b (on g) = on (grow-chain o (line w o) b (grow-line w o) g)
  line-goes w o b (out shut keeps) = out shut keeps

  closed-goes : (why : Destroy) (o : Output) → Goes o (falls.closed why o)
  closed-goes why o = out refl (λ h. filter-differ _ o.end.names h)

  request-goes : (gone : Option ℤ) (row : MessageRow) (m : Message) (vs : Values) (o : Output) → Goes o (takes.dropped_or_handled gone row m vs o)
  request-goes None row m vs o =
      let pushed : Output = (line (what.Take m.seq m.route m.number vs) ▷ on_end (λ x. record x { stack = takes.dispatch_of row m ∷ x.stack })) o in
      on (grow-chain o pushed _ (record { arrived = λ x i. i; stack = λ x i. there i; names = refl; state = refl; packets = λ x i. i }) (grow-constructs m.made m.route row.kind pushed))
  request-goes (Some id) row m vs o =
      let told : Output = line (what.Drop m.seq m.route m.number id) o in
      on (grow-chain o told _ (grow-line (what.Drop m.seq m.route m.number id) o) (grow-when (is_sync_row row || makes_promise row) (answered (request_answered m) (answer.Fault ActorDestroyed)) (grow-answered (request_answered m) (answer.Fault ActorDestroyed)) told))

  row-goes : (m : Message) (vs : Values) (row : Option MessageRow) (o : Output) → Goes o (option_map_or (takes.request_taken schema m vs) row (line (what.Drop m.seq m.route m.number m.route)) o)
  row-goes m vs None o = on (grow-line (what.Drop m.seq m.route m.number m.route) o)
  row-goes m vs (Some row) o = request-goes (takes.dropped_for schema o.end row m vs) row m (nulled schema o.end.actors row.params vs) o

  reply-goes : (m : Message) (a : Answer) (row : Option MessageRow) (o : Output) → Goes o (option_map_or (takes.reply_taken schema m a) row unchanged o)
  reply-goes m a None o = on (grow-same o)
  reply-goes m a (Some row) o =
      on (grow-when (takes.is_awaited m.seq o.end.promises) (takes.settles m.seq (takes.outcome_of (received schema o.end.actors row a))) (λ n. record { arrived = λ x i. i; stack = λ x i. i; names = refl; state = refl; packets = λ x i. i }) o)

  body-goes : (m : Message) (body : Body) (o : Output) → Goes o (takes.body_taken schema m body o)
  body-goes m (Request vs) o = row-goes m vs (message_of schema m.number) o
  body-goes m (Reply vs) o = line-goes (what.TakeReply m.seq) o _ (reply-goes m (answer.Ok vs) (message_of schema m.number) (line (what.TakeReply m.seq) o))
  body-goes m (Fault reason) o = line-goes (what.TakeReply m.seq) o _ (reply-goes m (answer.Fault reason) (message_of schema m.number) (line (what.TakeReply m.seq) o))
  body-goes m Goodbye o = line-goes what.ShutNormal o _ (closed-goes NormalShutdown (line what.ShutNormal o))

  item-goes : (x : Item) (o : Output) → Goes o (takes.item_taken schema x o)
  item-goes (item.Message m sync level) o = body-goes m m.body o
  item-goes item.Broken o = line-goes what.ShutAbnormal o _ (closed-goes AbnormalShutdown (line what.ShutAbnormal o))

  -- the request that brings the resolver is handled, or dropped with an answer
  request-taken : (held : IsHeld) (m : Message) → BringsResolver r m → (o : Output) → is_open o.end.state ≡ true → StillOrAnswered (takes.body_taken schema m m.body o)
  request-taken held m brings o opened =
      subst (λ (body : Body). StillOrAnswered (takes.body_taken schema m body o)) (sym brings.body)
      (subst (λ (row : Option MessageRow). StillOrAnswered (option_map_or (takes.request_taken schema m brings.values) row (line (what.Drop m.seq m.route m.number m.route)) o)) (sym found)
      (by (takes.dropped_for schema o.end held.row m brings.values) (nulled schema o.end.actors held.row.params brings.values)))
    where
      found : message_of schema m.number ≡ Some held.row
      found = ap (message_of schema) brings.number ∙ request-message schema r.number held.row held.found

      by : (gone : Option ℤ) (vs : Values) → StillOrAnswered (takes.dropped_or_handled gone held.row m vs o)
      by None vs =
          let pushed : Output = (line (what.Take m.seq m.route m.number vs) ▷ on_end (λ x. record x { stack = takes.dispatch_of held.row m ∷ x.stack })) o in
          inl (is_handled (takes.dispatch_of held.row m) ((grow-constructs m.made m.route held.row.kind pushed).stack (takes.dispatch_of held.row m) here)
          (ap (λ (b : Bool). b && int_eq m.seq r.seq) held.promised ∙ (Decides-int_eq m.seq r.seq).1 brings.seq)
          (same-resolver r m.seq m.route m.number brings.seq brings.route brings.number))
      by (Some id) vs =
          let told : Output = line (what.Drop m.seq m.route m.number id) o in
          let owes : is_sync_row held.row || makes_promise held.row ≡ true = or_right (is_sync_row held.row) (makes_promise held.row) held.promised in
          inr (subst (λ (b : Bool). IsAnswered r (when b (answered (request_answered m) (answer.Fault ActorDestroyed)) told).packets) (sym owes)
          (record { reply = _; sent = answer-sent (request_answered m) (answer.Fault ActorDestroyed) told opened; answers = answers-request r m (answer.Fault ActorDestroyed) brings }))

  -- an item is taken: the request that brings the resolver, or another
  take-still : (x : Item) → takes.taken_next e ≡ Some x → IsHeld → is_open (takes.take schema x (beginning e)).end.state ≡ true → StillOrAnswered (takes.take schema x (beginning e))
  take-still x next held opened = from held.may
    where
      left : Output
      left = on_end left_end (beginning e)

      goes : StillOrAnswered left → StillOrAnswered (takes.item_taken schema x left)
      goes h = goes-still left (takes.item_taken schema x left) (item-goes x left) opened h

      from : MayAnswer e.arrived e.stack e.names r → StillOrAnswered (takes.item_taken schema x left)
      from (has_arrived m sync level i brings) = elim (in-taken e.arrived (left_end e).arrived x (item.Message m sync level) (taken-first e x next).taken i) [
        | inl same ↦ subst (λ (y : Item). StillOrAnswered (takes.item_taken schema y left)) same (request-taken held m brings left held.opened)
        | inr j ↦ goes (inl (has_arrived m sync level j brings))
      ]
      from (is_handled entry i has same) = goes (inl (is_handled entry i has same))
      from (is_kept naming i holds) = goes (inl (is_kept naming i holds))

  kept-taken : (x : Item) → takes.taken_next e ≡ Some x → Kept (beginning e) → Kept (takes.take schema x (beginning e))
  kept-taken x next k =
      let left : Output = on_end left_end (beginning e) in
      (goes-differ left (takes.item_taken schema x left) (item-goes x left) k.0, λ held opened. take-still x next held opened)

  -- Returns, and calls that continue

  -- a frame of a stack is the dispatch on top, or below it
  below-or_on : (stack : List StackEntry) (top entry : StackEntry) → returns.dispatch_on_top stack ≡ Some top → In entry stack → (entry ≡ top) ⊎ In entry (drop 1 stack)
  below-or_on [] top entry is i = elim i [ ]
  below-or_on (first ∷ stack) top entry is here = inl (by first.frame is)
    where
      by : (f : StackFrame) → elim f [ Dispatch head ↦ Some first | Wait head a ↦ None ] ≡ Some top → first ≡ top
      by (Dispatch head) is = same_Some first top is
      by (Wait head a) is = cc
  below-or_on (first ∷ stack) top entry is (there i) = inr i

  -- where a wait is on top, a dispatch is below it
  below-wait : (stack : List StackEntry) (wait : returns.AnsweredWait) (entry : StackEntry) → returns.answered_wait_on_top stack ≡ Some wait → is_dispatch entry.frame ≡ true → In entry stack → In entry (drop 1 stack)
  below-wait [] wait entry is dispatch i = elim i [ ]
  below-wait (first ∷ stack) wait entry is dispatch here = absurd (by first.frame dispatch is)
    where
      by : (f : StackFrame) → is_dispatch f ≡ true → returns.answered_wait_of first.number f ≡ Some wait → ⊥
      by (Dispatch head) dispatch is = cc
      by (Wait head a) dispatch is = cc
  below-wait (first ∷ stack) wait entry is dispatch (there i) = i

  module _ (row : MessageRow) (top : StackEntry) (vs : Option Values) where
    abbrev popped : Output
    popped = (returns.popped ▷ line (what.Return (head_of top.frame).seq)) (beginning e)

    abbrev told : Output
    told = when (is_sync_row row) (answered (returns.dispatch_answered top) (returns.return_answer schema e row top vs)) popped

    abbrev lost : Output
    lost = when top.resolves (answered (resolver_answered (resolver_in top)) (answer.Fault ResolverDestroyed)) told

    told-grows : Grows popped told
    told-grows = grow-when (is_sync_row row) (answered (returns.dispatch_answered top) (returns.return_answer schema e row top vs)) (grow-answered (returns.dispatch_answered top) (returns.return_answer schema e row top vs)) popped

    lost-grows : Grows told lost
    lost-grows = grow-when top.resolves (answered (resolver_answered (resolver_in top)) (answer.Fault ResolverDestroyed)) (grow-answered (resolver_answered (resolver_in top)) (answer.Fault ResolverDestroyed)) told

    return-grows : Grows popped (returns.return schema e row top vs (beginning e))
    return-grows = grow-chain popped told _ told-grows (grow-chain told lost _ lost-grows (grow-deletes top.route row.kind lost))

    -- the resolver of the handler that returns is destroyed
    lost-answered : top.resolves ≡ true → resolver_in top ≡ r → is_open e.state ≡ true → IsAnswered r lost.packets
    lost-answered resolves same opened =
        subst (λ (b : Bool). IsAnswered r (when b (answered (resolver_answered (resolver_in top)) (answer.Fault ResolverDestroyed)) told).packets) (sym resolves)
        (subst (λ (q : Resolver). IsAnswered q (answered (resolver_answered (resolver_in top)) (answer.Fault ResolverDestroyed) told).packets) same
        (resolver-answered (resolver_in top) (answer.Fault ResolverDestroyed) told (ap is_open told-grows.state ∙ opened)))

    return-still : returns.dispatch_on_top e.stack ≡ Some top → IsHeld → StillOrAnswered (returns.return schema e row top vs (beginning e))
    return-still on_top held = from held.may
      where
        goes : StillOrAnswered popped → StillOrAnswered (returns.return schema e row top vs (beginning e))
        goes h = still-grows popped (returns.return schema e row top vs (beginning e)) return-grows h

        from : MayAnswer e.arrived e.stack e.names r → StillOrAnswered (returns.return schema e row top vs (beginning e))
        from (has_arrived m sync level i brings) = goes (inl (has_arrived m sync level i brings))
        from (is_kept naming i holds) = goes (inl (is_kept naming i holds))
        from (is_handled entry i has same) = elim (below-or_on e.stack top entry on_top i) [
          | inl this ↦
              let resolves : entry.resolves ≡ true = and-left entry.resolves (int_eq (head_of entry.frame).seq r.seq) (and-right (is_dispatch entry.frame) (entry.resolves && int_eq (head_of entry.frame).seq r.seq) has) in
              still-grows lost (returns.return schema e row top vs (beginning e)) (grow-deletes top.route row.kind lost) (inr (lost-answered (ap (λ (x : StackEntry). x.resolves) (sym this) ∙ resolves) (ap resolver_in (sym this) ∙ same) held.opened))
          | inr j ↦ goes (inl (is_handled entry j has same))
        ]

    kept-returned : returns.dispatch_on_top e.stack ≡ Some top → Kept (beginning e) → Kept (returns.return schema e row top vs (beginning e))
    kept-returned on_top k = (subst NamesDiffer (sym return-grows.names) k.0, λ held opened. return-still on_top held)

  resume-still : (wait : returns.AnsweredWait) (row : MessageRow) → returns.answered_wait_on_top e.stack ≡ Some wait → MayAnswer e.arrived e.stack e.names r → StillOrAnswered (returns.resume schema e wait row (beginning e))
  resume-still wait row on_top (has_arrived m sync level i brings) = inl (has_arrived m sync level i brings)
  resume-still wait row on_top (is_handled entry i has same) = inl (is_handled entry (below-wait e.stack wait entry on_top (and-left (is_dispatch entry.frame) (entry.resolves && int_eq (head_of entry.frame).seq r.seq) has) i) has same)
  resume-still wait row on_top (is_kept naming i holds) = inl (is_kept naming i holds)

  -- Steps

  -- a step that delivers nothing
  pub own-kept : (link : List Packet) (ev : Event) (output : Output) → step schema e link ev ≡ Some output → (ev ≡ event.deliver → ⊥) → NamesDiffer e.names → Kept output
  own-kept link ev output is other differ = by ev is other
    where
      k : Kept (beginning e)
      k = (differ, λ held opened. inl held.may)

      by : (ev : Event) → step schema e link ev ≡ Some output → (ev ≡ event.deliver → ⊥) → Kept output
      by (event.send route number vs name) is other =
          found-gives Kept (request_row schema number) (λ row. provided (sends.may_send schema e row vs name) (sends.send schema e row route vs name) e) output
          (λ row found. provided-gives Kept (sends.may_send schema e row vs name) (sends.send schema e row route vs name) e output
          (λ may. kept-sent (sends.send_refusal schema e row route vs) row (sends.request_of e row route vs) vs name k)) is
      by (event.answer way vs) is other =
          found-gives Kept (answers.answered_row schema e way) (λ row. provided (answers.may_answer schema e row vs) (answers.answer schema e row way vs) e) output
          (λ row found. provided-gives Kept (answers.may_answer schema e row vs) (answers.answer schema e row way vs) e output
          (λ may. kept-answered (answers.answer_refusal schema e row way vs) way vs (answers.resolver_used e way) refl k)) is
      by (event.keep seq name) is other =
          provided-gives Kept (answers.may_keep e seq) (answers.keep e seq name) e output
          (λ may. kept-kept seq name (answers.handled_resolver e seq) refl (and-right (sends.may_act e) (is_some (answers.handled_resolver e seq)) may) k) is
      by (event.name name id) is other =
          provided-gives Kept (sends.may_act e) (acts.name_actor name id) e output
          (λ may. kept-renamed name (if acts.is_positive id then Some (actor id) else None) (line (what.Let name (if acts.is_positive id then id else pos 0)) (beginning e)) k) is
      by event.close is other = provided-gives Kept (sends.may_act e) (acts.close e) e output (λ may. kept-close (acts.close_refusal e) k) is
      by event.die is other = provided-gives Kept (acts.may_die e) acts.die e output (λ may. kept-death k) is
      by event.deliver is other = absurd (other refl)
      by event.take is other =
          found-gives Kept (takes.taken_next e) (λ x. provided true (takes.take schema x) e) output
          (λ x next. provided-gives Kept true (takes.take schema x) e output (λ may. kept-taken x next k)) is
      by (event.return vs) is other =
          found-gives Kept (returns.dispatch_on_top e.stack) (λ entry. option_and_then (λ row. provided (returns.may_return schema row vs) (returns.return schema e row entry vs) e) (request_row schema entry.number)) output
          (λ entry on_top. found-gives Kept (request_row schema entry.number) (λ row. provided (returns.may_return schema row vs) (returns.return schema e row entry vs) e) output
          (λ row found. provided-gives Kept (returns.may_return schema row vs) (returns.return schema e row entry vs) e output
          (λ may. kept-returned row entry vs on_top k))) is
      by event.resume is other =
          found-gives Kept (returns.answered_wait_on_top e.stack) (λ wait. option_and_then (λ row. provided true (returns.resume schema e wait row) e) (request_row schema wait.number)) output
          (λ wait on_top. found-gives Kept (request_row schema wait.number) (λ row. provided true (returns.resume schema e wait row) e) output
          (λ row found. provided-gives Kept true (returns.resume schema e wait row) e output
          (λ may. (k.0, λ held opened. resume-still wait row on_top held.may)))) is
      by event.flush is other =
          provided-gives Kept (returns.may_flush e) returns.flush e output
          (λ may. kept-grows (beginning e) (returns.flush (beginning e)) (record { arrived = λ x i. i; stack = λ x i. i; names = refl; state = refl; packets = λ x i. elim i [ ] }) k) is
