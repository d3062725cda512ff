-- Which event a side does next, case by case.
use Rattle.std.proofs.Common.{◌≡◌, Bool, true, false, if◌then◌else◌, List, [], ◌∷◌, Option, Some, None, is_some, refl, subst}
use Rattle.std.specs.Prelude.{option_map}
use Rattle.std.specs.Option.{option_map_or}
use Rattle.handler_script.specs.declared.action.Action.{Action}
use Rattle.handler_script.specs.declared.script.Point.TheVariants as point
use Rattle.handler_script.specs.declared.script.Script.{Script}
use Rattle.handler_script.specs.ScriptOf.{action_at}
use Rattle.handler_script.specs.ValueOf.{no_id}
use Rattle.nesting_core.specs.declared.frame.Head.{Head}
use Rattle.nesting_core.specs.declared.frame.StackTop.{StackTop}
use Rattle.nesting_core.specs.declared.frame.StackTop.TheVariants as top
use Rattle.nesting_core.specs.Top.{top_of}
use Rattle.channel_model.specs.Ends.{End}
use Rattle.channel_model.specs.Events.{Event}
use Rattle.channel_model.specs.Events as event
use Rattle.channel_model.specs.Outputs.{is_open, is_dead_end}
use Rattle.channel_model.specs.Returns.{may_flush}
use Rattle.channel_model.specs.Sends.{frames_of}
use Rattle.channel_model.specs.Takes.{taken_next}
use Rattle.schedules.specs.declared.stop.Stop.{Stop}
use Rattle.script_steps.specs.NextEvent.{context_of, event_of, handler_action, return_of, by_handler, by_taking, by_main, by_top, by_flushing, or_else, is_stopped, next_event}
use Rattle.script_steps.specs.Progress.{HandledRequest, Progress}

-- Why an event is the next one at an end that has not died.
pub data IsNext (script : Script) (e : End) (progress : Progress) : Event → Type 0 where
  stops : IsNext script e progress event.die
  acts : (head : Head) (request : HandledRequest) (below : List HandledRequest) (a : Action) → top_of (frames_of e) ≡ top.Dispatch head → progress.handled ≡ request ∷ below → handler_action script e.side request ≡ Some a
      → IsNext script e progress (event_of (context_of e (request ∷ below)) request.seq a)
  returns : (head : Head) (request : HandledRequest) (below : List HandledRequest) → top_of (frames_of e) ≡ top.Dispatch head → progress.handled ≡ request ∷ below → IsNext script e progress (return_of script e.side (context_of e (request ∷ below)) request)
  returns_none : (head : Head) → top_of (frames_of e) ≡ top.Dispatch head → IsNext script e progress (event.return None)
  takes : is_some (taken_next e) ≡ true → IsNext script e progress event.take
  acts_in_main : (a : Action) → top_of (frames_of e) ≡ top.Empty → is_open e.state ≡ true → action_at script e.side (point.Main progress.main) ≡ Some a → IsNext script e progress (event_of (context_of e []) no_id a)
  resumes : (head : Head) → top_of (frames_of e) ≡ top.Answered head → IsNext script e progress event.resume
  flushes : may_flush e ≡ true → IsNext script e progress event.flush

module _ (script : Script) (e : End) (progress : Progress) where
  same : (x y : Event) → Some x ≡ Some y → x ≡ y
  same x y h = cc

  taking-next : (b : Bool) → is_some (taken_next e) ≡ b → (x : Event) → (if b then Some event.take else None) ≡ Some x → IsNext script e progress x
  taking-next true is x h = subst (IsNext script e progress) (same event.take x h) (takes is)
  taking-next false is x h = cc

  flushing-next : (b : Bool) → may_flush e ≡ b → (x : Event) → (if b then Some event.flush else None) ≡ Some x → IsNext script e progress x
  flushing-next true is x h = subst (IsNext script e progress) (same event.flush x h) (flushes is)
  flushing-next false is x h = cc

  main-found : top_of (frames_of e) ≡ top.Empty → is_open e.state ≡ true → (found : Option Action) → action_at script e.side (point.Main progress.main) ≡ found → (x : Event) → option_map (event_of (context_of e []) no_id) found ≡ Some x → IsNext script e progress x
  main-found on_top opened None is x h = cc
  main-found on_top opened (Some a) is x h = subst (IsNext script e progress) (same (event_of (context_of e []) no_id a) x h) (acts_in_main a on_top opened is)

  main-next : top_of (frames_of e) ≡ top.Empty → (b : Bool) → is_open e.state ≡ b → (x : Event) → (if b then option_map (event_of (context_of e []) no_id) (action_at script e.side (point.Main progress.main)) else None) ≡ Some x → IsNext script e progress x
  main-next on_top true is x h = main-found on_top is (action_at script e.side (point.Main progress.main)) refl x h
  main-next on_top false is x h = cc

  handler-found : (head : Head) (request : HandledRequest) (below : List HandledRequest) → top_of (frames_of e) ≡ top.Dispatch head → progress.handled ≡ request ∷ below → (found : Option Action) → handler_action script e.side request ≡ found
      → IsNext script e progress (option_map_or (event_of (context_of e (request ∷ below)) request.seq) found (return_of script e.side (context_of e (request ∷ below)) request))
  handler-found head request below on_top is None found = returns head request below on_top is
  handler-found head request below on_top is (Some a) found = acts head request below a on_top is found

  handler-next : (head : Head) → top_of (frames_of e) ≡ top.Dispatch head → (handled : List HandledRequest) → progress.handled ≡ handled → IsNext script e progress (by_handler script e handled)
  handler-next head on_top [] is = returns_none head on_top
  handler-next head on_top (request ∷ below) is = handler-found head request below on_top is (handler_action script e.side request) refl

  or-next : (first second : Option Event) → ((x : Event) → first ≡ Some x → IsNext script e progress x) → ((x : Event) → second ≡ Some x → IsNext script e progress x) → (x : Event) → or_else first second ≡ Some x → IsNext script e progress x
  or-next (Some y) second h k x is = h x is
  or-next None second h k x is = k x is

  top-next : (found : StackTop) → top_of (frames_of e) ≡ found → (x : Event) → by_top script e progress found ≡ Some x → IsNext script e progress x
  top-next top.Empty on_top x h = or-next (by_taking e) (by_main script e progress) (taking-next (is_some (taken_next e)) refl) (main-next on_top (is_open e.state) refl) x h
  top-next (top.Dispatch head) on_top x h = subst (IsNext script e progress) (same (by_handler script e progress.handled) x h) (handler-next head on_top progress.handled refl)
  top-next (top.Unanswered head) on_top x h = taking-next (is_some (taken_next e)) refl x h
  top-next (top.Answered head) on_top x h = subst (IsNext script e progress) (same event.resume x h) (resumes head on_top)

  living-next : (stopped : Bool) → (x : Event) → (if stopped then Some event.die else or_else (by_top script e progress (top_of (frames_of e))) (by_flushing e)) ≡ Some x → IsNext script e progress x
  living-next true x h = subst (IsNext script e progress) (same event.die x h) stops
  living-next false x h = or-next (by_top script e progress (top_of (frames_of e))) (by_flushing e) (top-next (top_of (frames_of e)) refl) (flushing-next (may_flush e) refl) x h

  -- an event that is next at an end: the end has not died, and it is one of these
  next-by : (stop : Option Stop) (dead : Bool) → is_dead_end e.state ≡ dead → (x : Event)
      → (if dead then None else (if is_stopped stop e.side progress then Some event.die else or_else (by_top script e progress (top_of (frames_of e))) (by_flushing e))) ≡ Some x → (is_dead_end e.state ≡ false) × IsNext script e progress x
  next-by stop true is x h = cc
  next-by stop false is x h = (is, living-next (is_stopped stop e.side progress) x h)

pub next-is : (script : Script) (stop : Option Stop) (e : End) (progress : Progress) (x : Event) → next_event script stop e progress ≡ Some x → (is_dead_end e.state ≡ false) × IsNext script e progress x
next-is script stop e progress x h = next-by script e progress stop (is_dead_end e.state) refl x h
