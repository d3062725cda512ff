-- What a half does next, by its kind; and what its calls do, by its end and its counts.
use Rattle.std.specs.Prelude.{◌≡◌, ◌<◌, ℤ, nat_lt, true, if◌then◌else◌, List, [], ◌∷◌, Option, Some, None, IsSome, option_and_then, option_map}
use Rattle.handler_script.specs.declared.action.Action.{Action}
use Rattle.handler_script.specs.declared.script.Point.TheVariants as point
use Rattle.handler_script.specs.ScriptOf.{action_at, first_of}
use Rattle.handler_script.specs.declared.script.Script.{Script}
use Rattle.handler_script.specs.declared.term.Terms.{Terms}
use Rattle.handler_script.specs.ValueOf.{TermContext, no_id, values_of}
use Rattle.ipdl_base.specs.declared.value.Values.{Values}
use Rattle.ipdl_base.specs.declared.value.Values.TheVariants as values
use Rattle.channel_model.specs.Answers.{handled_resolver}
use Rattle.channel_model.specs.Ends.{End, Resolver}
use Rattle.channel_model.specs.Events.{Event, handled}
use Rattle.channel_model.specs.Events as event
use Rattle.channel_model.specs.Outputs.{is_open}
use Rattle.channel_model.specs.Returns.{dispatch_on_top}
use Rattle.channel_model.specs.Sends.{frames_of}
use Rattle.nesting_core.specs.declared.frame.Head.{Head}
use Rattle.nesting_core.specs.declared.frame.StackTop.TheVariants as top
use Rattle.nesting_core.specs.Top.{top_of}
use Rattle.channel_core.specs.Answers.{refusal_of_answer}
use Rattle.channel_core.specs.Steps.{IsStep}
use Rattle.script_steps.specs.NextEvent.{actor_named, by_handler, by_top, context_of, event_of, handler_action, route_on_top}
use Rattle.script_steps.specs.Progress.{HandledRequest, Progress}
use Rattle.world_core.specs.declared.answers.StepAnswer.{StepAnswer}
use Rattle.world_core.specs.declared.answers.StepAnswer.TheVariants as answer
use Rattle.world_core.specs.declared.half.next.NextStep.{NextStep}
use Rattle.world_core.specs.declared.half.next.NextStep.TheVariants as next
use Rattle.world_core.specs.Counted.{block_at}
use Rattle.world_core.specs.CountsSteps.{with_act, with_answer, with_death}
use Rattle.world_core.specs.CountsView.{CountsView, RunningView}
use Rattle.world_core.specs.HalfSteps.{next_of, with_end_of}
use Rattle.world_core.specs.HalfView.{HalfView}
use Rattle.world_core.specs.Resolvers.{resolver_on_top}

-- the number of the request whose handler is the innermost
abbrev pub acting_seq : List HandledRequest → ℤ
acting_seq [] = no_id
acting_seq (request ∷ below) = request.seq

-- what terms represent, by the requests whose handlers run
abbrev pub context_by : End → List RunningView → TermContext
context_by e [] = record { this = no_id; made = no_id; given = values.Nothing; held = actor_named e }
context_by e (running ∷ below) = record { this = route_on_top e.stack; made = running.made; given = running.given; held = actor_named e }

abbrev pub context_in : HalfView → TermContext
context_in half = context_by half.end.end half.counts.running

-- a handler that runs is that of the dispatch on top
abbrev pub IsOnTop : HalfView → Type 0
IsOnTop half = (running : RunningView) → first_of half.counts.running ≡ Some running → IsSome (dispatch_on_top half.end.end.stack)

-- The innermost handler has its resolver, that of the request of this number.
pub record HasOwn (half : HalfView) (seq : ℤ) : Type 0 where
  pub own : Resolver
  pub held : resolver_on_top half.counts.running ≡ Some own
  pub seq_is : own.seq ≡ seq
  pub found : handled_resolver half.end.end seq ≡ Some own

-- The end of a half has made the step of an event, and its counts have changed so. Nothing else of it changed.
pub record HasStepped (before : HalfView) (happened : Event) (counting : CountsView → CountsView) (after : HalfView) : Type 0 where
  pub is : IsStep before.end happened after.end
  pub same : after ≡ with_end_of before after
  pub counts : after.counts ≡ counting before.counts

-- the step of an event was made and counted, or nothing changed
abbrev pub EventGives : HalfView → Event → (CountsView → CountsView) → StepAnswer → HalfView → Type 0
EventGives before happened counting answer.Did after = HasStepped before happened counting after
EventGives before happened counting answer.Nothing after = ⊥
EventGives before happened counting (answer.Spent side) after = ⊥
EventGives before happened counting answer.NoMemory after = after ≡ before

-- so it is with an answer by the innermost request's resolver, which is used unless the answer is refused
abbrev pub HandledGives : HalfView → ℤ → Option Values → StepAnswer → HalfView → Type 0
HandledGives before seq vs told after = EventGives before (event.answer (handled seq) vs) (with_answer (refusal_of_answer before.end (handled seq) vs)) told after

-- what the event of an action counts as: an act, with which the innermost request's resolver may go, or a death
abbrev pub counting_of : HalfView → Event → CountsView → CountsView
counting_of half event.die = with_death
counting_of half (event.answer (handled seq) vs) = with_answer (refusal_of_answer half.end (handled seq) vs)
counting_of half (event.keep seq name) = with_answer None
counting_of half _ = with_act

-- the terms of the values that the innermost handler returns
abbrev pub reply_by : Script → List RunningView → Option Terms
reply_by script running = option_and_then (λ r. option_and_then (λ b. b.reply) (block_at script r.block)) (first_of running)

-- its return
abbrev pub return_in : HalfView → Event
return_in half = event.return (option_map (values_of (context_in half)) (reply_by half.script half.counts.running))

-- the next action of main, at an open end
abbrev pub main_action : HalfView → Progress → Option Action
main_action half progress = if is_open half.end.end.state then action_at half.script half.end.end.side (point.Main progress.main) else None

-- the next action of the innermost handler
abbrev pub handlers_action : HalfView → List HandledRequest → Option Action
handlers_action half [] = None
handlers_action half (request ∷ below) = handler_action half.script half.end.end.side request

-- The next step is an action of main, where no frame is on top.
pub record IsOfMain (half : HalfView) (progress : Progress) (asked : Option Event) : Type 0 where
  pub on_top : top_of (frames_of half.end.end) ≡ top.Empty
  pub action : Action
  pub found : main_action half progress ≡ Some action
  pub is : asked ≡ Some (event_of (context_of half.end.end []) no_id action)

-- The next step is an action of the innermost handler, or its return, where its dispatch is on top.
pub record IsOfHandler (half : HalfView) (progress : Progress) (asked : Option Event) : Type 0 where
  pub head : Head
  pub on_top : top_of (frames_of half.end.end) ≡ top.Dispatch head
  pub is : asked ≡ Some (by_handler half.script half.end.end progress.handled)

-- the next step is of this kind, or there is no next step
abbrev pub IsAsked : HalfView → Progress → Option Event → Option NextStep → Type 0
IsAsked half progress asked None = asked ≡ None
IsAsked half progress asked (Some next.Die) = asked ≡ Some event.die
IsAsked half progress asked (Some next.Take) = asked ≡ Some event.take
IsAsked half progress asked (Some next.Resume) = asked ≡ Some event.resume
IsAsked half progress asked (Some next.Flush) = asked ≡ Some event.flush
IsAsked half progress asked (Some next.Main) = IsOfMain half progress asked
IsAsked half progress asked (Some next.Handler) = IsOfHandler half progress asked

-- by what the end does next, and by what its top frame requires
abbrev pub IsNext : HalfView → Progress → Option NextStep → Type 0
IsNext half progress step = IsAsked half progress (next_of half progress) step

abbrev pub IsByTop : HalfView → Progress → Option NextStep → Type 0
IsByTop half progress step = IsAsked half progress (by_top half.script half.end.end progress (top_of (frames_of half.end.end))) step

-- What is next is known, there are fewer events than the limit, and one more can be counted.
pub record IsDue (half : HalfView) (progress : Progress) (step : NextStep) : Type 0 where
  pub is_next : IsNext half progress (Some step)
  pub within : nat_lt half.counts.events half.limit ≡ true
  pub room : half.counts.events < 4294967295
