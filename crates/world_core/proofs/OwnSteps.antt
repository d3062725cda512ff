-- Own steps of a half, from those that its calls make.
use Rattle.std.proofs.Common.{◌≡◌, ℕ, nat_lt, ℤ, true, List, [], ◌∷◌, drop, map, Option, Some, None, option_map, option_and_then, refl, sym, ap, subst, ◌∙◌}
use Rattle.std.specs.Option.{option_map_or}
use Rattle.handler_script.specs.declared.action.Action.{Action}
use Rattle.handler_script.specs.declared.action.Action.TheVariants as action
use Rattle.handler_script.specs.declared.action.Block.{Block}
use Rattle.handler_script.specs.declared.script.Script.{Script}
use Rattle.handler_script.specs.Valid.{answers_handled}
use Rattle.handler_script.specs.ValueOf.{TermContext, no_id, values_of}
use Rattle.ipdl_base.specs.declared.kinds.SendRefusal.{SendRefusal}
use Rattle.ipdl_base.specs.declared.kinds.Side.{Side}
use Rattle.ipdl_base.specs.declared.value.Values.{Values}
use Rattle.channel_model.specs.Ends.{End, StackEntry}
use Rattle.channel_model.specs.Events.{Event, handled}
use Rattle.channel_model.specs.Events as event
use Rattle.channel_model.specs.Acts.{may_die}
use Rattle.channel_model.specs.Returns.{answered_wait_on_top, may_flush}
use Rattle.channel_core.specs.Answers.{refusal_of_answer}
use Rattle.script_runs.specs.Dispatches.{dispatches, dispatches_after}
use Rattle.script_steps.specs.NextEvent.{by_handler, context_of, event_of, return_of}
use Rattle.script_steps.specs.Progress.{HandledRequest, Progress, one_act, one_event, with_handled}
use Rattle.world_core.specs.declared.answers.StepAnswer.{StepAnswer}
use Rattle.world_core.specs.declared.answers.StepAnswer.TheVariants as answer
use Rattle.world_core.specs.declared.half.next.NextStep.TheVariants as next
use Rattle.world_core.specs.Counted.{AreCountsOf, AreRunning}
use Rattle.world_core.specs.CountsSteps.{with_act, with_answer, with_death, with_event, with_return}
use Rattle.world_core.specs.CountsView.{CountsView, RunningView}
use Rattle.world_core.specs.HalfSteps.{MayGoOn, OwnGives, StepGives, next_of}
use Rattle.world_core.specs.HalfView.{HalfView, IsCountedBy}
use Rattle.world_core.specs.Resolvers.{AreApart, resolver_of}
use Rattle.world_core.specs.NextSteps.{EventGives, HasOwn, IsDue, IsNext, acting_seq, context_by, context_in, counting_of, handlers_action, main_action, reply_by, return_in}
use Rattle.world_core.proofs.CountsLemmas.{act-counted, answer-counted, death-counted, event-counted, return-counted}
use Rattle.world_core.proofs.EventLines.{die-begins, flush-begins, is_acting, resume-begins, return-begins}
use Rattle.world_core.proofs.HalfLemmas.{act-step, made-step}
use Rattle.world_core.proofs.Held.{act-resolvers, answered-resolvers, fewer-resolvers, kept-resolvers}

module _ (before after : HalfView) (p : Progress) (counted : IsCountedBy before p) where
  with-counts : (f : Progress → Progress) (c : CountsView) → AreCountsOf before.script before.end.end.side (f p) c → after.counts ≡ c → AreCountsOf before.script before.end.end.side (f p) after.counts
  with-counts f c is same = subst (λ (x : CountsView). AreCountsOf before.script before.end.end.side (f p) x) (sym same) is

  with-resolvers : (c : CountsView) (entries : List StackEntry) → after.counts ≡ c → map (λ (r : RunningView). r.resolver) c.running ≡ map resolver_of entries → map (λ (r : RunningView). r.resolver) after.counts.running ≡ map resolver_of entries
  with-resolvers c entries same held = ap (λ (x : CountsView). map (λ (r : RunningView). r.resolver) x.running) same ∙ held

  pub die-gives : (a : StepAnswer) → EventGives before event.die with_death a after → StepGives before p event.die a after
  die-gives answer.Did h =
      made-step before after p event.die (λ q. with_handled [] (one_event q)) (λ q. refl) (λ output made. die-begins before.end.schema before.end.end [] output made) h.is h.same
      (with-counts (λ q. with_handled [] (one_event q)) (with_death before.counts) (death-counted before.script before.end.end.side p before.counts counted.counts) h.counts)
      (with-resolvers (with_death before.counts) [] h.counts refl)
  die-gives answer.Nothing h = absurd h
  die-gives (answer.Spent side) h = absurd h
  die-gives answer.NoMemory h = h

  pub resume-gives : (a : StepAnswer) → EventGives before event.resume with_event a after → StepGives before p event.resume a after
  resume-gives answer.Did h =
      made-step before after p event.resume one_event (λ q. refl) (λ output made. resume-begins before.end.schema before.end.end [] output made) h.is h.same
      (with-counts one_event (with_event before.counts) (event-counted before.script before.end.end.side p before.counts counted.counts) h.counts)
      (with-resolvers (with_event before.counts) (dispatches before.end.end.stack) h.counts counted.held)
  resume-gives answer.Nothing h = absurd h
  resume-gives (answer.Spent side) h = absurd h
  resume-gives answer.NoMemory h = h

  pub flush-gives : (a : StepAnswer) → EventGives before event.flush with_event a after → StepGives before p event.flush a after
  flush-gives answer.Did h =
      made-step before after p event.flush one_event (λ q. refl) (λ output made. flush-begins before.end.schema before.end.end [] output made) h.is h.same
      (with-counts one_event (with_event before.counts) (event-counted before.script before.end.end.side p before.counts counted.counts) h.counts)
      (with-resolvers (with_event before.counts) (dispatches before.end.end.stack) h.counts counted.held)
  flush-gives answer.Nothing h = absurd h
  flush-gives (answer.Spent side) h = absurd h
  flush-gives answer.NoMemory h = h

  pub return-gives : (vs : Option Values) (a : StepAnswer) → EventGives before (event.return vs) with_return a after → StepGives before p (event.return vs) a after
  return-gives vs answer.Did h =
      made-step before after p (event.return vs) (λ q. with_handled (drop 1 q.handled) (one_event q)) (λ q. refl) (λ output made. return-begins before.end.schema before.end.end [] vs output made) h.is h.same
      (with-counts (λ q. with_handled (drop 1 q.handled) (one_event q)) (with_return before.counts) (return-counted before.script before.end.end.side p before.counts counted.counts) h.counts)
      (with-resolvers (with_return before.counts) (drop 1 (dispatches before.end.end.stack)) h.counts (fewer-resolvers before.counts.running (dispatches before.end.end.stack) counted.held))
  return-gives vs answer.Nothing h = absurd h
  return-gives vs (answer.Spent side) h = absurd h
  return-gives vs answer.NoMemory h = h

  -- an act that leaves all dispatches
  act-gives : (x : Event) → is_acting x ≡ true → dispatches_after before.end.schema before.end.end x ≡ dispatches before.end.end.stack → (a : StepAnswer) → EventGives before x with_act a after → StepGives before p x a after
  act-gives x acts leaves answer.Did h =
      act-step before after p x acts h.is h.same (with-counts (λ q. one_act q.handled (one_event q)) (with_act before.counts) (act-counted before.script before.end.end.side p before.counts counted.counts) h.counts)
      (with-resolvers (with_act before.counts) (dispatches_after before.end.schema before.end.end x) h.counts (act-resolvers before.counts ∙ counted.held ∙ ap (map resolver_of) (sym leaves)))
  act-gives x acts leaves answer.Nothing h = absurd h
  act-gives x acts leaves (answer.Spent side) h = absurd h
  act-gives x acts leaves answer.NoMemory h = h

  -- one that answers the innermost request, or keeps its resolver
  answer-gives : (x : Event) → is_acting x ≡ true → (refusal : Option SendRefusal) → map (λ (r : RunningView). r.resolver) (with_answer refusal before.counts).running ≡ map resolver_of (dispatches_after before.end.schema before.end.end x)
      → (a : StepAnswer) → EventGives before x (with_answer refusal) a after → StepGives before p x a after
  answer-gives x acts refusal held answer.Did h =
      act-step before after p x acts h.is h.same (with-counts (λ q. one_act q.handled (one_event q)) (with_answer refusal before.counts) (answer-counted before.script before.end.end.side refusal p before.counts counted.counts) h.counts)
      (with-resolvers (with_answer refusal before.counts) (dispatches_after before.end.schema before.end.end x) h.counts held)
  answer-gives x acts refusal held answer.Nothing h = absurd h
  answer-gives x acts refusal held (answer.Spent side) h = absurd h
  answer-gives x acts refusal held answer.NoMemory h = h

  module _ (apart : AreApart before.end.end) (seq : ℤ) where
    handled-gives : (vs : Option Values) → HasOwn before seq → (a : StepAnswer) → EventGives before (event.answer (handled seq) vs) (with_answer (refusal_of_answer before.end (handled seq) vs)) a after → StepGives before p (event.answer (handled seq) vs) a after
    handled-gives vs own a h =
        answer-gives (event.answer (handled seq) vs) refl (refusal_of_answer before.end (handled seq) vs) (answered-resolvers before.end before.counts own.own counted.held own.held apart seq vs own.seq_is) a h

    keep-gives : (name : List ℕ) → HasOwn before seq → (a : StepAnswer) → EventGives before (event.keep seq name) (with_answer None) a after → StepGives before p (event.keep seq name) a after
    keep-gives name own a h = answer-gives (event.keep seq name) refl None (kept-resolvers before.end before.counts own.own counted.held own.held apart seq name own.seq_is) a h

    -- an action, whatever its terms represent
    pub action-gives : (context : TermContext) (act : Action) → (answers_handled act ≡ true → HasOwn before seq) → (a : StepAnswer) → EventGives before (event_of context seq act) (counting_of before (event_of context seq act)) a after → StepGives before p (event_of context seq act) a after
    action-gives context (action.Send who number terms) own a h = act-gives (event_of context seq (action.Send who number terms)) refl refl a h
    action-gives context (action.New name who number terms) own a h = act-gives (event_of context seq (action.New name who number terms)) refl refl a h
    action-gives context (action.Let name who) own a h = act-gives (event_of context seq (action.Let name who)) refl refl a h
    action-gives context (action.Resolve terms) own a h = handled-gives (Some (values_of context terms)) (own refl) a h
    action-gives context action.Reject own a h = handled-gives None (own refl) a h
    action-gives context (action.Keep name) own a h = keep-gives name (own refl) a h
    action-gives context (action.ResolveNamed name number terms) own a h = act-gives (event_of context seq (action.ResolveNamed name number terms)) refl refl a h
    action-gives context (action.RejectNamed name number) own a h = act-gives (event_of context seq (action.RejectNamed name number)) refl refl a h
    action-gives context action.Close own a h = act-gives event.close refl refl a h
    action-gives context action.Die own a h = die-gives a h

  -- the step of what is next
  pub owns : (x : Event) → next_of before p ≡ Some x → nat_lt before.counts.events before.limit ≡ true → (a : StepAnswer) → StepGives before p x a after → OwnGives before p a after
  owns x is within answer.Did h = record { event = x; is_next = is; within = within; steps = h }
  owns x is within answer.Nothing h = absurd h
  owns x is within (answer.Spent side) h = absurd h
  owns x is within answer.NoMemory h = h

-- The counts decide what terms represent.

module _ (script : Script) (side : Side) (e : End) where
  pub same-context : (rs : List RunningView) (hs : List HandledRequest) → AreRunning script side rs hs → context_by e rs ≡ context_of e hs
  same-context [] [] all = refl
  same-context (r ∷ rs) (h ∷ hs) all = let given = all.0.given in let made = all.0.made in cc
  same-context [] (h ∷ hs) all = absurd all
  same-context (r ∷ rs) [] all = absurd all

-- The events of the actions that are next.

none-handled : (script : Script) (side : Side) (rs : List RunningView) (hs : List HandledRequest) → rs ≡ [] → AreRunning script side rs hs → hs ≡ []
none-handled script side [] [] none all = refl
none-handled script side [] (h ∷ hs) none all = absurd all
none-handled script side (r ∷ rs) hs none all = cc

module _ (half : HalfView) (p : Progress) (counted : IsCountedBy half p) where
  pub context-is : context_in half ≡ context_of half.end.end p.handled
  context-is = same-context half.script half.end.end.side half.end.end half.counts.running p.handled counted.counts.running

  pub main-event : (act : Action) → IsNext half p (Some next.Main) → half.counts.running ≡ [] → main_action half p ≡ Some act → next_of half p ≡ Some (event_of (context_in half) (acting_seq p.handled) act)
  main-event act is none found =
      let empty : p.handled ≡ [] = none-handled half.script half.end.end.side half.counts.running p.handled none counted.counts.running in
      let same : is.action ≡ act = let e : Some is.action ≡ Some act = sym is.found ∙ found in cc in
      is.is ∙ ap (λ (a : Action). Some (event_of (context_of half.end.end []) no_id a)) same
      ∙ ap (λ (hs : List HandledRequest). Some (event_of (context_of half.end.end hs) (acting_seq hs) act)) (sym empty)
      ∙ ap (λ (context : TermContext). Some (event_of context (acting_seq p.handled) act)) (sym context-is)

  by-handled : (act : Action) (hs : List HandledRequest) → handlers_action half hs ≡ Some act → by_handler half.script half.end.end hs ≡ event_of (context_of half.end.end hs) (acting_seq hs) act
  by-handled act [] found = cc
  by-handled act (h ∷ hs) found = ap (λ (o : Option Action). option_map_or (event_of (context_of half.end.end (h ∷ hs)) h.seq) o (return_of half.script half.end.end.side (context_of half.end.end (h ∷ hs)) h)) found

  pub handler-event : (act : Action) → IsNext half p (Some next.Handler) → handlers_action half p.handled ≡ Some act → next_of half p ≡ Some (event_of (context_in half) (acting_seq p.handled) act)
  handler-event act is found = is.is ∙ ap Some (by-handled act p.handled found ∙ ap (λ (context : TermContext). event_of context (acting_seq p.handled) act) (sym context-is))

  by-return : (rs : List RunningView) (hs : List HandledRequest) → AreRunning half.script half.end.end.side rs hs → handlers_action half hs ≡ None
      → by_handler half.script half.end.end hs ≡ event.return (option_map (values_of (context_by half.end.end rs)) (reply_by half.script rs))
  by-return [] [] all none = refl
  by-return (r ∷ rs) (h ∷ hs) all none =
      ap (λ (o : Option Action). option_map_or (event_of (context_of half.end.end (h ∷ hs)) h.seq) o (return_of half.script half.end.end.side (context_of half.end.end (h ∷ hs)) h)) none
      ∙ ap (λ (b : Option Block). event.return (option_map (values_of (context_of half.end.end (h ∷ hs))) (option_and_then (λ block. block.reply) b))) (sym all.0.block)
      ∙ ap (λ (context : TermContext). event.return (option_map (values_of context) (reply_by half.script (r ∷ rs)))) (sym (same-context half.script half.end.end.side half.end.end (r ∷ rs) (h ∷ hs) all))
  by-return [] (h ∷ hs) all none = absurd all
  by-return (r ∷ rs) [] all none = absurd all

  pub return-event : IsNext half p (Some next.Handler) → handlers_action half p.handled ≡ None → next_of half p ≡ Some (return_in half)
  return-event is none = is.is ∙ ap Some (by-return half.counts.running p.handled counted.counts.running none)

-- the answer of an action that is next
pub action-owns : (before after : HalfView) (p : Progress) → MayGoOn before p → (act : Action) → (answers_handled act ≡ true → HasOwn before (acting_seq p.handled)) → (a : StepAnswer)
    → next_of before p ≡ Some (event_of (context_in before) (acting_seq p.handled) act) → nat_lt before.counts.events before.limit ≡ true
    → EventGives before (event_of (context_in before) (acting_seq p.handled) act) (counting_of before (event_of (context_in before) (acting_seq p.handled) act)) a after → OwnGives before p a after
action-owns before after p may act own a is within h =
    owns before after p may.counted (event_of (context_in before) (acting_seq p.handled) act) is within a
    (action-gives before after p may.counted may.apart (acting_seq p.handled) (context_in before) act own a h)

-- What each kind of step asks of the end.
module _ (half : HalfView) (p : Progress) (may : MayGoOn half p) where
  pub resume-may : IsDue half p next.Resume → answered_wait_on_top half.end.end.stack ≡ None → ⊥
  resume-may due none =
      let a = may.allowed event.resume due.is_next in
      let e : None ≡ Some a.0 = sym none ∙ a.2 in
      cc

  pub flush-may : IsDue half p next.Flush → may_flush half.end.end ≡ true
  flush-may due = may.allowed event.flush due.is_next

  pub die-may : IsDue half p next.Die → may_die half.end.end ≡ true
  die-may due = may.allowed event.die due.is_next
