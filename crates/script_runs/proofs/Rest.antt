-- A run of a script that is quiet is still.
use Rattle.std.proofs.Common.{◌≡◌, Bool, true, false, not, ◌&&◌, if◌then◌else◌, List, [], ◌∷◌, map, Option, Some, None, is_some, option_and_then, refl, sym, ap, subst}
use Rattle.std.specs.List.{AllByRecursion}
use Rattle.handler_script.specs.declared.script.Script.{Script}
use Rattle.ipdl_base.specs.declared.kinds.EndState.{EndState}
use Rattle.ipdl_base.specs.declared.kinds.EndState.TheVariants.{Open, Draining, Closed, Dead}
use Rattle.ipdl_base.specs.declared.kinds.Side.{Side}
use Rattle.ipdl_base.specs.declared.kinds.Side.TheVariants as sides
use Rattle.ipdl_base.specs.declared.schema.Schema.{Schema}
use Rattle.ipdl_base.specs.Sound.{IsSound}
use Rattle.nesting_core.specs.declared.frame.StackFrame.{StackFrame}
use Rattle.nesting_core.specs.declared.frame.StackFrame.TheVariants.{Dispatch, Wait}
use Rattle.nesting_core.specs.Top.{top_of}
use Rattle.pending_queue.specs.declared.item.Item.{Item}
use Rattle.channel_model.specs.Deliveries as delivery
use Rattle.channel_model.specs.Ends.{End, World, Packet, StackEntry, end_of, link_to}
use Rattle.channel_model.specs.Events.{Event}
use Rattle.channel_model.specs.Events as event
use Rattle.channel_model.specs.Numbers.{request_row}
use Rattle.channel_model.specs.Outputs.{Output, Change, is_open, is_dead_end}
use Rattle.channel_model.specs.Returns as returns
use Rattle.channel_model.specs.Returns.{dispatch_on_top, answered_wait_on_top, may_flush}
use Rattle.channel_model.specs.Runs.{RunState, is_possible, is_still, is_still_at}
use Rattle.channel_model.specs.Sends.{frames_of}
use Rattle.channel_model.specs.States.{IsAnswered}
use Rattle.channel_model.specs.Steps.{provided, first_packet}
use Rattle.channel_model.specs.Takes as takes
use Rattle.channel_model.specs.Takes.{taken_next, takes_in_state, takes_under, first_free}
use Rattle.channel_laws.specs.Laws.{world_of}
use Rattle.channel_laws.proofs.StillWorlds.{still_histories_leave_no_end_waiting}
use Rattle.schedules.specs.declared.stop.Stop.{Stop}
use Rattle.script_steps.specs.Choices.{Setting, own_event, may_deliver}
use Rattle.script_steps.specs.Laws.{IsRunOf}
use Rattle.script_steps.specs.NextEvent.{by_handler, by_taking, by_main, by_top, by_flushing, or_else, is_stopped, next_event}
use Rattle.script_steps.specs.Progress.{Progress, HandledRequest, progress_of}
use Rattle.script_steps.specs.Turns.{is_quiet, is_quiet_at}
use Rattle.script_steps.proofs.Playing.{choices_are_runs}
use Rattle.script_runs.specs.Laws.{IsAtRest, RestOfCasesIsStill}
use Rattle.script_runs.proofs.CaseRuns.{IsCase, IsCaseEnd, case-end}

-- Tests and options

both : (a b : Bool) → (a && b) ≡ true → (a ≡ true) × (b ≡ true)
both true true h = (refl, refl)
both true false h = cc
both false true h = cc
both false false h = cc

not-true : (b : Bool) → not b ≡ true → b ≡ false
not-true true h = cc
not-true false h = refl

none-of : {A : Type 0} (x : Option A) → is_some x ≡ false → x ≡ None
none-of None h = refl
none-of (Some x) h = cc

or_else-none : (x y : Option Event) → or_else x y ≡ None → (x ≡ None) × (y ≡ None)
or_else-none None y h = (refl, h)
or_else-none (Some x) y h = cc

if-none : (b : Bool) (x : Event) → (if b then Some x else None) ≡ None → b ≡ false
if-none true x h = cc
if-none false x h = refl

-- What an end with no step of its own does not have

record HasNoWork (e : End) : Type 0 where
  takes : taken_next e ≡ None
  dispatch : dispatch_on_top e.stack ≡ None
  wait : answered_wait_on_top e.stack ≡ None
  flush : may_flush e ≡ false

record HasNoneOnTop (e : End) (stack : List StackEntry) : Type 0 where
  takes : taken_next e ≡ None
  dispatch : dispatch_on_top stack ≡ None
  wait : answered_wait_on_top stack ≡ None

handler-some : (script : Script) (e : End) (handled : List HandledRequest) → Some (by_handler script e handled) ≡ None → ⊥
handler-some script e handled h = cc

taking-none : (e : End) → by_taking e ≡ None → taken_next e ≡ None
taking-none e h = none-of (taken_next e) (if-none (is_some (taken_next e)) event.take h)

frame-rests : (script : Script) (e : End) (progress : Progress) (entry : StackEntry) (below : List StackEntry) (frame : StackFrame) → entry.frame ≡ frame → by_top script e progress (top_of (frame ∷ map (λ (x : StackEntry). x.frame) below)) ≡ None → HasNoneOnTop e (record entry { frame = frame } ∷ below)
frame-rests script e progress entry below (Dispatch head) is h = absurd (handler-some script e progress.handled h)
frame-rests script e progress entry below (Wait head None) is h = record { takes = taking-none e h; dispatch = refl; wait = refl }
frame-rests script e progress entry below (Wait head (Some a)) is h = cc

stack-rests : (script : Script) (e : End) (progress : Progress) (stack : List StackEntry) → by_top script e progress (top_of (map (λ (x : StackEntry). x.frame) stack)) ≡ None → HasNoneOnTop e stack
stack-rests script e progress [] h = record { takes = taking-none e (or_else-none (by_taking e) (by_main script e progress) h).0; dispatch = refl; wait = refl }
stack-rests script e progress (entry ∷ below) h = frame-rests script e progress entry below entry.frame refl h

living-rests : (script : Script) (e : End) (progress : Progress) → or_else (by_top script e progress (top_of (frames_of e))) (by_flushing e) ≡ None → HasNoWork e
living-rests script e progress h =
    let n : (by_top script e progress (top_of (frames_of e)) ≡ None) × (by_flushing e ≡ None) = or_else-none (by_top script e progress (top_of (frames_of e))) (by_flushing e) h in
    let t : HasNoneOnTop e e.stack = stack-rests script e progress e.stack n.0 in
    record { takes = t.takes; dispatch = t.dispatch; wait = t.wait; flush = if-none (may_flush e) event.flush n.1 }

dead-takes : (state : EndState) (b : Bool) (x : Option Item) → is_dead_end state ≡ true → (if takes_in_state state && b then x else None) ≡ None
dead-takes Open b x h = cc
dead-takes Draining b x h = cc
dead-takes Closed b x h = cc
dead-takes Dead b x h = refl

dead-opens : (state : EndState) (b : Bool) → is_dead_end state ≡ true → (is_open state && b) ≡ false
dead-opens Open b h = cc
dead-opens Draining b h = cc
dead-opens Closed b h = cc
dead-opens Dead b h = refl

dead-rests : (e : End) → is_dead_end e.state ≡ true → e.stack ≡ [] → HasNoWork e
dead-rests e h is = record {
  takes = dead-takes e.state (takes_under (top_of (frames_of e))) (first_free e) h;
  dispatch = ap dispatch_on_top is;
  wait = ap answered_wait_on_top is;
  flush = dead-opens e.state (not (returns.is_empty e.outbox)) h;
}

next-rests : (script : Script) (e : End) (progress : Progress) (dead stopped : Bool) → is_dead_end e.state ≡ dead → (dead ≡ true → e.stack ≡ [])
    → (if dead then None else (if stopped then Some event.die else or_else (by_top script e progress (top_of (frames_of e))) (by_flushing e))) ≡ None → HasNoWork e
next-rests script e progress true stopped is empty h = dead-rests e is (empty refl)
next-rests script e progress false true is empty h = cc
next-rests script e progress false false is empty h = living-rests script e progress h

rests : (script : Script) (stop : Option Stop) (e : End) (progress : Progress) → (is_dead_end e.state ≡ true → e.stack ≡ []) → next_event script stop e progress ≡ None → HasNoWork e
rests script stop e progress empty h = next-rests script e progress (is_dead_end e.state) (is_stopped stop e.side progress) refl empty h

-- So nothing is possible

found-none : {A : Type 0} (f : A → Option Output) (found : Option A) → found ≡ None → not (is_some (option_and_then f found)) ≡ true
found-none f None h = refl
found-none f (Some x) h = cc

provided-none : (b : Bool) (change : Change) (e : End) → b ≡ false → not (is_some (provided b change e)) ≡ true
provided-none true change e h = cc
provided-none false change e h = refl

delivered-none : (b : Bool) (change : Packet → Change) (e : End) (found : Option Packet) → (b && is_some found) ≡ false → not (is_some (option_and_then (λ packet. provided b (change packet) e) found)) ≡ true
delivered-none b change e None h = refl
delivered-none true change e (Some packet) h = cc
delivered-none false change e (Some packet) h = refl

pub and-true : (a b : Bool) → a ≡ true → b ≡ true → (a && b) ≡ true
and-true true true h k = refl
and-true true false h k = cc
and-true false b h k = cc

pub all-true : (a b c d x : Bool) → a ≡ true → b ≡ true → c ≡ true → d ≡ true → x ≡ true → (a && (b && (c && (d && x)))) ≡ true
all-true a b c d x ha hb hc hd hx = and-true a (b && (c && (d && x))) ha (and-true b (c && (d && x)) hb (and-true c (d && x) hc (and-true d x hd hx)))

still-at : (schema : Schema) (world : World) (side : Side) → HasNoWork (end_of side world) → may_deliver side world ≡ false → is_still_at schema world side ≡ true
still-at schema world side r d =
    let e : End = end_of side world in
    all-true (not (is_possible schema world side event.deliver)) (not (is_possible schema world side event.take)) (not (is_possible schema world side (event.return None))) (not (is_possible schema world side event.resume)) (not (is_possible schema world side event.flush))
    (delivered-none (is_open e.state) (delivery.deliver schema) e (first_packet (link_to side world)) d)
    (found-none (λ item. provided true (takes.take schema item) e) (taken_next e) r.takes)
    (found-none (λ entry. option_and_then (λ row. provided (returns.may_return schema row None) (returns.return schema e row entry None) e) (request_row schema entry.number)) (dispatch_on_top e.stack) r.dispatch)
    (found-none (λ wait. option_and_then (λ row. provided true (returns.resume schema e wait row) e) (request_row schema wait.number)) (answered_wait_on_top e.stack) r.wait)
    (provided-none (may_flush e) returns.flush e r.flush)

module _ (setting : Setting) (state : RunState) (sound : IsSound setting.schema) (c : IsCase setting state) where
  quiet-at : (side : Side) → is_quiet_at setting state side ≡ true → is_still_at setting.schema state.world side ≡ true
  quiet-at side h =
      let q : (not (is_some (own_event setting side state)) ≡ true) × (not (may_deliver side state.world) ≡ true) = both (not (is_some (own_event setting side state))) (not (may_deliver side state.world)) h in
      let known : IsCaseEnd setting.schema (end_of side state.world) = case-end setting state side sound c in
      still-at setting.schema state.world side
      (rests setting.script setting.stop (end_of side state.world) (progress_of side state.lines) known.state.stack (none-of (own_event setting side state) (not-true (is_some (own_event setting side state)) q.0)))
      (not-true (may_deliver side state.world) q.1)

  quiet-still : is_quiet setting state ≡ true → is_still setting.schema state.world ≡ true
  quiet-still h =
      let q : (is_quiet_at setting state sides.Parent ≡ true) × (is_quiet_at setting state sides.Child ≡ true) = both (is_quiet_at setting state sides.Parent) (is_quiet_at setting state sides.Child) h in
      and-true (is_still_at setting.schema state.world sides.Parent) (is_still_at setting.schema state.world sides.Child) (quiet-at sides.Parent q.0) (quiet-at sides.Child q.1)

  at-rest : IsRunOf setting state → is_quiet setting state ≡ true → IsAtRest setting state
  at-rest r h =
      let is : world_of setting.schema setting.script.top r.moves ≡ state.world = ap (λ (s : RunState). s.world) r.runs in
      let still : is_still setting.schema state.world ≡ true = quiet-still h in
      record {
        still = still;
        answered = λ side.
            subst (λ (w : World). AllByRecursion IsAnswered (frames_of (end_of side w))) is
            (still_histories_leave_no_end_waiting.answered setting.schema sound setting.script.top r.moves side (subst (λ (w : World). is_still setting.schema w ≡ true) (sym is) still));
      }

pub rest_of_cases_is_still : RestOfCasesIsStill
rest_of_cases_is_still setting choices state sound h quiet = at-rest setting state sound (record { choices = choices; plays = h }) (choices_are_runs setting choices state h) quiet
