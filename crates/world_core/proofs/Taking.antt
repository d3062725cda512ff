-- A take of a half, from the step of its end and from what its counts say of it.
use Rattle.std.proofs.Common.{◌≡◌, inl, inr, ℕ, ◌+◌, ℤ, List, [], ◌∷◌, ◌++◌, map, reverse, Option, Some, None, option_and_then, refl, sym, ap, subst, ◌∙◌}
use Rattle.std.specs.Prelude.{slice_get}
use Rattle.std.specs.List.{cons_option}
use Rattle.std.specs.Option.{option_map_or}
use Rattle.handler_script.specs.declared.action.Block.{Block}
use Rattle.handler_script.specs.declared.script.Script.{Script}
use Rattle.ipdl_base.specs.declared.kinds.Side.{Side}
use Rattle.ipdl_base.specs.declared.message.Body.{Body}
use Rattle.ipdl_base.specs.declared.message.Body.TheVariants.{Request, Reply, Fault, Goodbye}
use Rattle.ipdl_base.specs.declared.message.Message.{Message}
use Rattle.ipdl_base.specs.declared.schema.MessageRow.{MessageRow}
use Rattle.ipdl_base.specs.declared.value.Values.{Values}
use Rattle.ipdl_base.specs.Plain.{plain_values}
use Rattle.ipdl_base.specs.Sound.{message_of}
use Rattle.pending_queue.specs.declared.item.Item.{Item}
use Rattle.pending_queue.specs.declared.item.Item.TheVariants as item
use Rattle.script_parts.specs.declared.blocks.BlockTable.{BlockTable}
use Rattle.script_parts.specs.Tables.{IsTableOf, block_after}
use Rattle.value_types.specs.Fits.{IsMadeBy}
use Rattle.channel_model.specs.Ends.{Resolver, StackEntry}
use Rattle.channel_model.specs.Events as event
use Rattle.channel_model.specs.Fitting.{IsFitting}
use Rattle.channel_model.specs.Outputs.{Output}
use Rattle.channel_model.specs.Steps.{step}
use Rattle.channel_model.specs.Takes.{dispatch_of, dropped_for, taken_next}
use Rattle.channel_model.specs.ValueActors.{nulled}
use Rattle.channel_model.proofs.FittingEnds.{taken-fits}
use Rattle.channel_model.proofs.FittingRequests.{request-of}
use Rattle.channel_core.specs.declared.answers.Handling.{Handling}
use Rattle.channel_core.specs.declared.answers.TakeAnswer.TheVariants as take
use Rattle.channel_core.specs.EndView.{EndView}
use Rattle.channel_core.specs.Taken.{TakeKind, handle, drop, settle, shut, nothing, IsKindOf, kind_of, item_kind, body_kind, request_kind, resolver_for}
use Rattle.script_runs.specs.Dispatches.{body_dispatch, dispatches, dispatches_after, item_dispatch, request_dispatch}
use Rattle.script_runs.proofs.Shows.{ShowsHandling, TakeShows, step-shows, taken_dispatch}
use Rattle.script_steps.proofs.StepLines.{step-prints}
use Rattle.script_steps.specs.Progress.{Progress, one_event}
use Rattle.world_core.specs.declared.answers.StepAnswer.{StepAnswer}
use Rattle.world_core.specs.declared.answers.StepAnswer.TheVariants as answer
use Rattle.world_core.specs.declared.counts.RunningRequest.{RunningRequest}
use Rattle.world_core.specs.declared.half.next.NextStep.TheVariants as next
use Rattle.world_core.specs.Counted.{AreCountsOf}
use Rattle.world_core.specs.CountsSteps.{with_event}
use Rattle.world_core.specs.CountsView.{CountsView, RunningView, view_of}
use Rattle.world_core.specs.HalfSteps.{IsHalfStep, MayGoOn, StepGives}
use Rattle.world_core.specs.HalfView.{HalfView, IsCountedBy}
use Rattle.world_core.specs.NextSteps.{IsDue}
use Rattle.world_core.specs.Resolvers.{resolver_of}
use Rattle.world_core.specs.TakeSteps.{HalfTakes, HasBegun, HasTaken, IsCountedTake, begun}
use Rattle.world_core.proofs.CountsLemmas.{event-counted, newest-first}
use Rattle.world_core.proofs.EventLines.{passing-begins}
use Rattle.world_core.proofs.HalfLemmas.{made-step, stepped}
use Rattle.world_core.proofs.StepProgress.{Begins, Makes}
use Rattle.world_core.proofs.TakeLines.{handling-makes, with_taken}

-- Kinds of takes, and the dispatches that they add

-- the dispatch that a take of a kind adds, if it adds one
abbrev added_by : TakeKind → Option StackEntry
added_by (handle m row vs) = Some (dispatch_of row m)
added_by _ = None

module _ (seen : EndView) where
  adds-request : (m : Message) (vs : Values) (row : MessageRow) (gone : Option ℤ) → dropped_for seen.schema seen.end row m vs ≡ gone → added_by (request_kind seen m vs row) ≡ request_dispatch seen.schema seen.end m vs row
  adds-request m vs row gone is =
      ap (λ (o : Option ℤ). added_by (option_map_or (λ id. drop) o (handle m row (nulled seen.schema seen.end.actors row.params vs)))) is
      ∙ by gone
      ∙ ap (λ (o : Option ℤ). option_map_or (λ id. None) o (Some (dispatch_of row m))) (sym is)
    where
      by : (o : Option ℤ) → added_by (option_map_or (λ id. drop) o (handle m row (nulled seen.schema seen.end.actors row.params vs))) ≡ option_map_or (λ id. None) o (Some (dispatch_of row m))
      by None = refl
      by (Some id) = refl

  adds-body : (m : Message) (body : Body) → added_by (body_kind seen m body) ≡ body_dispatch seen.schema seen.end m body
  adds-body m (Request vs) = by (message_of seen.schema m.number)
    where
      by : (found : Option MessageRow) → added_by (option_map_or (request_kind seen m vs) found drop) ≡ option_and_then (request_dispatch seen.schema seen.end m vs) found
      by None = refl
      by (Some row) = adds-request m vs row (dropped_for seen.schema seen.end row m vs) refl
  adds-body m (Reply vs) = refl
  adds-body m (Fault why) = refl
  adds-body m Goodbye = refl

  adds-next : added_by (kind_of seen) ≡ taken_dispatch seen.schema seen.end
  unfolding kind_of
  adds-next = by (taken_next seen.end)
    where
      by : (next : Option Item) → added_by (option_map_or (item_kind seen) next nothing) ≡ option_and_then (item_dispatch seen.schema seen.end) next
      by None = refl
      by (Some (item.Message m sync level)) = adds-body m m.body
      by (Some item.Broken) = refl

  -- where something can be taken, the kind is not that of nothing
  pub something : kind_of seen ≡ nothing → taken_next seen.end ≡ None
  unfolding kind_of
  something none = by (taken_next seen.end) none
    where
      requests : (o : Option ℤ) (k : TakeKind) → (k ≡ nothing → ⊥) → option_map_or (λ id. drop) o k ≡ nothing → ⊥
      requests None k isnt h = isnt h
      requests (Some id) k isnt h = cc

      rows : (m : Message) (vs : Values) (found : Option MessageRow) → option_map_or (request_kind seen m vs) found drop ≡ nothing → ⊥
      rows m vs None h = cc
      rows m vs (Some row) h = requests (dropped_for seen.schema seen.end row m vs) (handle m row (nulled seen.schema seen.end.actors row.params vs)) (λ e. cc) h

      bodies : (m : Message) (body : Body) → body_kind seen m body ≡ nothing → ⊥
      bodies m (Request vs) h = rows m vs (message_of seen.schema m.number) h
      bodies m (Reply vs) h = cc
      bodies m (Fault why) h = cc
      bodies m Goodbye h = cc

      by : (next : Option Item) → option_map_or (item_kind seen) next nothing ≡ nothing → next ≡ None
      by None h = refl
      by (Some (item.Message m sync level)) h = absurd (bodies m m.body h)
      by (Some item.Broken) h = cc

  -- what is shown to be handled is handled
  module _ {output : Output} (shows : ShowsHandling seen.schema seen.end output) where
    abbrev shown_values : Values
    shown_values = nulled seen.schema seen.end.actors shows.row.params shows.vs

    stays : dropped_for seen.schema seen.end shows.row shows.m shows.vs ≡ None
    stays = by (dropped_for seen.schema seen.end shows.row shows.m shows.vs) (sym request ∙ shows.adds)
      where
        request : taken_dispatch seen.schema seen.end ≡ request_dispatch seen.schema seen.end shows.m shows.vs shows.row
        request =
            ap (option_and_then (item_dispatch seen.schema seen.end)) shows.next
            ∙ ap (body_dispatch seen.schema seen.end shows.m) shows.body
            ∙ ap (option_and_then (request_dispatch seen.schema seen.end shows.m shows.vs)) shows.found

        by : (gone : Option ℤ) → option_map_or (λ id. None) gone (Some (dispatch_of shows.row shows.m)) ≡ Some (dispatch_of shows.row shows.m) → gone ≡ None
        by None h = refl
        by (Some id) h = cc

    shown-kind : kind_of seen ≡ handle shows.m shows.row shown_values
    unfolding kind_of
    shown-kind =
        ap (λ (next : Option Item). option_map_or (item_kind seen) next nothing) shows.next
        ∙ ap (body_kind seen shows.m) shows.body
        ∙ ap (λ (found : Option MessageRow). option_map_or (request_kind seen shows.m shows.vs) found drop) shows.found
        ∙ ap (λ (gone : Option ℤ). option_map_or (λ id. drop) gone (handle shows.m shows.row shown_values)) stays

    -- it has made what its kind makes
    made-by-kind : IsFitting seen.schema seen.end → IsMadeBy shows.row.kind shows.m.made
    made-by-kind fits =
        (request-of seen.schema shows.row shows.m shows.vs (taken-fits seen.schema seen.end (item.Message shows.m shows.sync shows.level) fits shows.next).0 shows.body shows.found).made

-- Counts

-- a take that adds no dispatch is an event and no more
event-only : (k : TakeKind) (before after : CountsView) → added_by k ≡ None → IsCountedTake k before after → after ≡ with_event before
event-only (handle m row vs) before after none is = cc
event-only drop before after none is = is
event-only settle before after none is = is
event-only shut before after none is = is
event-only nothing before after none is = absurd is

module _ (script : Script) (side : Side) (p : Progress) (before after : CountsView) (m : Message) (row : MessageRow) (vs : Values) (has : HasBegun before m row vs after) where
  -- a request whose handler begins runs after the take
  begun-counted : AreCountsOf script side p before → AreCountsOf script side (with_taken m vs p) after
  begun-counted counted =
      let served = has.serves script.blocks side p.taken counted.table in
      subst (λ (c : CountsView). AreCountsOf script side (with_taken m vs p) c) (sym has.is)
      (record {
        events = ap (λ (n : ℕ). n + 1) counted.events;
        main = counted.main;
        table = served.0;
        running = (record { block = served.1; acts = refl; given = refl; made = refl }, counted.running);
      })

-- the resolvers after a take: one more where it handles a request
take-resolvers : (k : TakeKind) (before after : CountsView) (entries : List StackEntry) → IsCountedTake k before after → map (λ (r : RunningView). r.resolver) before.running ≡ map resolver_of entries
    → map (λ (r : RunningView). r.resolver) after.running ≡ map resolver_of (cons_option (added_by k) entries)
take-resolvers (handle m row vs) before after entries is held = ap (λ (c : CountsView). map (λ (r : RunningView). r.resolver) c.running) is.is ∙ ap (λ (rs : List (Option Resolver)). resolver_for m row ∷ rs) held
take-resolvers drop before after entries is held = ap (λ (c : CountsView). map (λ (r : RunningView). r.resolver) c.running) is ∙ held
take-resolvers settle before after entries is held = ap (λ (c : CountsView). map (λ (r : RunningView). r.resolver) c.running) is ∙ held
take-resolvers shut before after entries is held = ap (λ (c : CountsView). map (λ (r : RunningView). r.resolver) c.running) is ∙ held
take-resolvers nothing before after entries is held = absurd is

-- Steps

module _ (before after : HalfView) (p : Progress) (counted : IsCountedBy before p) (taken : HasTaken before after) where
  abbrev output : Output
  output = taken.is.output

  held : map (λ (r : RunningView). r.resolver) after.counts.running ≡ map resolver_of (dispatches_after before.end.schema before.end.end event.take)
  held =
      take-resolvers (kind_of before.end) before.counts after.counts (dispatches before.end.end.stack) taken.counts counted.held
      ∙ ap (λ (o : Option StackEntry). map resolver_of (cons_option o (dispatches before.end.end.stack))) (adds-next before.end)

  passes : added_by (kind_of before.end) ≡ None → (made : Output) → step before.end.schema before.end.end [] event.take ≡ Some made → Begins made (Makes one_event)
  passes none made is = by (step-shows before.end.schema before.end.end [] event.take made is)
    where
      by : TakeShows before.end.schema before.end.end made → Begins made (Makes one_event)
      by (inl shows) = passing-begins before.end.end (dispatches before.end.end.stack) event.take made (step-prints before.end.schema before.end.end [] event.take made is) shows.0
      by (inr shows) = let e : None ≡ Some (dispatch_of shows.row shows.m) = sym none ∙ adds-next before.end ∙ shows.adds in cc

  passing-step : added_by (kind_of before.end) ≡ None → IsHalfStep before p [] event.take after
  passing-step none =
      made-step before after p event.take one_event (λ q. refl) (passes none) taken.is taken.same
      (subst (λ (c : CountsView). AreCountsOf before.script before.end.end.side (one_event p) c) (sym (event-only (kind_of before.end) before.counts after.counts none taken.counts))
      (event-counted before.script before.end.end.side p before.counts counted.counts))
      held

  handling-step : IsFitting before.end.schema before.end.end → ShowsHandling before.end.schema before.end.end output → IsHalfStep before p [] event.take after
  handling-step fits shows =
      let vs : Values = shown_values before.end shows in
      let has : HasBegun before.counts shows.m shows.row vs after.counts = subst (λ (k : TakeKind). IsCountedTake k before.counts after.counts) (shown-kind before.end shows) taken.counts in
      stepped [] before after p (with_taken shows.m vs p) event.take taken.is taken.same
      (handling-makes before.end.schema before.end.end output shows p (made-by-kind before.end shows fits))
      (begun-counted before.script before.end.end.side p before.counts after.counts shows.m shows.row vs has counted.counts)
      held

  pub take-step : IsFitting before.end.schema before.end.end → IsHalfStep before p [] event.take after
  take-step fits = by (step-shows before.end.schema before.end.end [] event.take output taken.is.is_step)
    where
      by : TakeShows before.end.schema before.end.end output → IsHalfStep before p [] event.take after
      by (inl shows) = passing-step (adds-next before.end ∙ shows.1)
      by (inr shows) = handling-step fits shows

-- what a take gives
pub take-gives : (before after : HalfView) (p : Progress) → IsCountedBy before p → IsFitting before.end.schema before.end.end → (a : StepAnswer) → HalfTakes before a after → StepGives before p event.take a after
take-gives before after p counted fits answer.Did h = take-step before after p counted h fits
take-gives before after p counted fits answer.Nothing h = absurd h
take-gives before after p counted fits (answer.Spent side) h = absurd h
take-gives before after p counted fits answer.NoMemory h = h

-- Counts as the code keeps them

-- the request that is handled is last, in the block that the table gives
pub handle-counts : (before after : CountsView) (k : TakeKind) (h : Handling) (block : Option ℕ) (table : BlockTable) (xs : List RunningRequest) (r : RunningRequest) → IsKindOf k (take.Handle h) → before.running ≡ map view_of (reverse xs)
    → view_of r ≡ record { block = block; acts = 0; given = plain_values h.values; made = h.made; resolver = h.resolver }
    → ((blocks : List Block) (side : Side) (taken : List ℕ) → IsTableOf blocks side taken before.table → IsTableOf blocks side (h.number ∷ taken) table × (option_and_then (slice_get blocks) block ≡ block_after blocks side h.number taken))
    → after ≡ with_event (record before { table = table; running = map view_of (reverse (xs ++ r ∷ [])) }) → IsCountedTake k before after
handle-counts before after (handle m row vs) h block table xs r is running begins serves counts =
    let number : h.number ≡ m.number = is.number in
    let begun_is : view_of r ≡ begun block m row vs = let given = is.values in let made = is.made in let resolver = is.resolver in cc in
    let running_is : map view_of (reverse (xs ++ r ∷ [])) ≡ begun block m row vs ∷ before.running = newest-first xs r ∙ ap (λ (v : RunningView). v ∷ map view_of (reverse xs)) begun_is ∙ sym (ap (λ (rs : List RunningView). begun block m row vs ∷ rs) running) in
    subst (λ (c : CountsView). HasBegun before m row vs c) (sym counts)
    (record {
      block = block;
      serves = subst
          (λ (n : ℕ). (blocks : List Block) (side : Side) (taken : List ℕ) → IsTableOf blocks side taken before.table → IsTableOf blocks side (n ∷ taken) table × (option_and_then (slice_get blocks) block ≡ block_after blocks side n taken)) number serves;
      is = ap (λ (rs : List RunningView). with_event (record before { table = table; running = rs })) running_is;
    })
handle-counts before after drop h block table xs r is running begins serves counts = absurd is
handle-counts before after settle h block table xs r is running begins serves counts = absurd is
handle-counts before after shut h block table xs r is running begins serves counts = absurd is
handle-counts before after nothing h block table xs r is running begins serves counts = absurd is

-- What is next

-- where a take is next, something can be taken
pub take-may : (half : HalfView) (p : Progress) → MayGoOn half p → IsDue half p next.Take → taken_next half.end.end ≡ None → ⊥
take-may half p may due none =
    let a = may.allowed event.take due.is_next in
    let e : None ≡ Some a.0 = sym none ∙ a.1 in
    cc
