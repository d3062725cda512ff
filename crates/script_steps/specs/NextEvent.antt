-- What an end does next by its script.
use Rattle.std.specs.Prelude.{ℕ, ◌-◌, min, nat_le, ℤ, Bool, false, ◌&&◌, if◌then◌else◌, List, [], ◌∷◌, length, Option, Some, None, is_some, option_map, option_and_then}
use Rattle.std.specs.Option.{option_map_or}
use Rattle.handler_script.specs.declared.action.Action.{Action}
use Rattle.handler_script.specs.declared.action.Action.TheVariants as action
use Rattle.handler_script.specs.declared.script.Point.TheVariants as point
use Rattle.handler_script.specs.declared.script.Script.{Script}
use Rattle.handler_script.specs.ScriptOf.{action_at, reply_at, blocks_for}
use Rattle.handler_script.specs.ValueOf.{TermContext, no_id, id_of, values_of}
use Rattle.ipdl_base.specs.declared.kinds.Side.{Side}
use Rattle.ipdl_base.specs.declared.value.Values.TheVariants as values
use Rattle.ipdl_base.specs.Lines.{same_side}
use Rattle.nesting_core.specs.declared.frame.StackTop.{StackTop}
use Rattle.nesting_core.specs.declared.frame.StackTop.TheVariants as top
use Rattle.nesting_core.specs.Top.{top_of}
use Rattle.channel_model.specs.Ends.{End, NameContent, actor, resolver, StackEntry}
use Rattle.channel_model.specs.Events.{Event, handled, kept}
use Rattle.channel_model.specs.Events as event
use Rattle.channel_model.specs.Names.{held_by_name}
use Rattle.channel_model.specs.Outputs.{is_open, is_dead_end}
use Rattle.channel_model.specs.Returns.{may_flush}
use Rattle.channel_model.specs.Sends.{frames_of}
use Rattle.channel_model.specs.Takes.{taken_next}
use Rattle.schedules.specs.declared.stop.Stop.{Stop}
use Rattle.script_steps.specs.Progress.{HandledRequest, Progress}

-- the actor that a name is bound to
abbrev pub actor_in : NameContent → Option ℤ
actor_in (actor id) = Some id
actor_in (resolver r) = None

abbrev pub actor_named : End → List ℕ → Option ℤ
actor_named e name = option_and_then actor_in (held_by_name name e.names)

-- the actor to which the innermost frame's request goes
abbrev pub route_on_top : List StackEntry → ℤ
route_on_top [] = no_id
route_on_top (entry ∷ below) = entry.route

-- the context of terms in main, or in a handler
abbrev pub context_of : End → List HandledRequest → TermContext
context_of e [] = record { this = no_id; made = no_id; given = values.Nothing; held = actor_named e }
context_of e (request ∷ below) = record { this = route_on_top e.stack; made = request.made; given = request.given; held = actor_named e }

-- the event of an action, in a handler of the request with this number
abbrev pub event_of : TermContext → ℤ → Action → Event
event_of context seq (action.Send who number terms) = event.send (id_of context who) number (values_of context terms) None
event_of context seq (action.New name who number terms) = event.send (id_of context who) number (values_of context terms) (Some name)
event_of context seq (action.Let name who) = event.name name (id_of context who)
event_of context seq (action.Resolve terms) = event.answer (handled seq) (Some (values_of context terms))
event_of context seq action.Reject = event.answer (handled seq) None
event_of context seq (action.Keep name) = event.keep seq name
event_of context seq (action.ResolveNamed name number terms) = event.answer (kept name number) (Some (values_of context terms))
event_of context seq (action.RejectNamed name number) = event.answer (kept name number) None
event_of context seq action.Close = event.close
event_of context seq action.Die = event.die

-- the block that serves a request: each block serves one request, and the last block all further requests
abbrev pub block_for : Script → Side → HandledRequest → ℕ
block_for script side request = min request.block (length (blocks_for script side (Some request.number)) - 1)

-- the next action of a handler, if it has one left
abbrev pub handler_action : Script → Side → HandledRequest → Option Action
handler_action script side request = action_at script side (point.Handler request.number (block_for script side request) request.acts)

-- the return of a handler
abbrev pub return_of : Script → Side → TermContext → HandledRequest → Event
return_of script side context request = event.return (option_map (values_of context) (reply_at script side request.number (block_for script side request)))

-- The innermost handler does its next action, or returns if no action is left. (In a run, a dispatch always has a handler.)
abbrev pub by_handler : Script → End → List HandledRequest → Event
by_handler script e [] = event.return None
by_handler script e (request ∷ below) =
    option_map_or (event_of (context_of e (request ∷ below)) request.seq) (handler_action script e.side request) (return_of script e.side (context_of e (request ∷ below)) request)

-- an end takes, if something may be taken
abbrev pub by_taking : End → Option Event
by_taking e = if is_some (taken_next e) then Some event.take else None

-- main does its next action, at an open end
abbrev pub by_main : Script → End → Progress → Option Event
by_main script e progress = if is_open e.state then option_map (event_of (context_of e []) no_id) (action_at script e.side (point.Main progress.main)) else None

-- the first of two options, or else the second
abbrev pub or_else : {A : Type 0} → Option A → Option A → Option A
or_else (Some first) second = Some first
or_else None second = second

-- what the frame on top requires
abbrev pub by_top : Script → End → Progress → StackTop → Option Event
by_top script e progress top.Empty = or_else (by_taking e) (by_main script e progress)
by_top script e progress (top.Dispatch head) = Some (by_handler script e progress.handled)
by_top script e progress (top.Unanswered head) = by_taking e
by_top script e progress (top.Answered head) = Some event.resume

-- an end that has nothing else to do flushes its outbox
abbrev pub by_flushing : End → Option Event
by_flushing e = if may_flush e then Some event.flush else None

-- whether a stop names the side, and the side has that number of events
abbrev pub is_stopped : Option Stop → Side → Progress → Bool
is_stopped stop side progress = option_map_or (λ s. same_side s.side side && nat_le s.after progress.events) stop false

-- What an end does next, by its state and the progress of its side: nothing if it is dead; a death if it is stopped; else
-- what its top frame requires; or else a flush.
abbrev pub next_event : Script → Option Stop → End → Progress → Option Event
next_event script stop e progress =
    if is_dead_end e.state then None else
    (if is_stopped stop e.side progress then Some event.die else
    or_else (by_top script e progress (top_of (frames_of e))) (by_flushing e))
