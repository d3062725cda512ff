-- The choices of a history can be read from its lines.
use Rattle.std.proofs.Common.{◌≡◌, ℤ, Bool, true, false, if◌then◌else◌, List, [], ◌∷◌, ◌++◌, Option, Some, None, refl, sym, ap, subst, ◌∙◌, append_assoc}
use Rattle.std.specs.Prelude.{is_some, not, ◌&&◌, option_map}
use Rattle.std.specs.Option.{option_map_or}
use Rattle.std.proofs.lemmas.List.{append-nil}
use Rattle.std.proofs.lemmas.List.Elements.{filter_map-append}
use Rattle.handler_script.specs.declared.action.Action.{Action}
use Rattle.handler_script.specs.declared.action.Action.TheVariants as action
use Rattle.handler_script.specs.declared.script.Script.{Script}
use Rattle.handler_script.specs.declared.script.Point.TheVariants as point
use Rattle.handler_script.specs.ScriptOf.{action_at}
use Rattle.handler_script.specs.ValueOf.{TermContext, no_id}
use Rattle.ipdl_base.specs.declared.kinds.Side.{Side}
use Rattle.ipdl_base.specs.declared.kinds.Side.TheVariants as sides
use Rattle.ipdl_base.specs.declared.line.Line.{Line}
use Rattle.ipdl_base.specs.declared.schema.Schema.{Schema}
use Rattle.nesting_core.specs.declared.frame.StackTop.{StackTop}
use Rattle.nesting_core.specs.declared.frame.StackTop.TheVariants as top
use Rattle.nesting_core.specs.Top.{top_of}
use Rattle.channel_model.specs.Ends.{End, World, end_of, link_to}
use Rattle.channel_model.specs.Events.{Event, Move}
use Rattle.channel_model.specs.Events as event
use Rattle.channel_model.specs.Outputs.{Output, is_dead_end, is_open}
use Rattle.channel_model.specs.Returns.{may_flush}
use Rattle.channel_model.specs.Runs.{RunState, is_delivery, output_of, passed_by, world_after}
use Rattle.channel_model.specs.Sends.{frames_of}
use Rattle.channel_model.specs.Takes.{taken_next}
use Rattle.schedules.specs.declared.stop.Stop.{Stop}
use Rattle.script_steps.specs.Choices.{Setting, Choice, beginning_of, own_event, may_deliver, event_by, is_doable, following_event, played, choice_of, choices_of}
use Rattle.script_steps.specs.Laws.{ChoicesAreRead, CaseWorldsAreOne}
use Rattle.script_steps.specs.NextEvent.{event_of, handler_action, return_of, by_handler, by_taking, by_main, by_top, by_flushing, or_else, is_stopped, next_event, context_of}
use Rattle.script_steps.specs.Progress.{Progress, HandledRequest, progress_of}
use Rattle.script_steps.proofs.Playing.{Chooses, chooses, PlaysOn, plays_on}
use Rattle.script_steps.proofs.StepLines.{Prints, step-prints, prints-choice}

-- No step that an end makes on its own is a delivery

abbrev IsOwn : Option Event → Type 0
IsOwn None = Unit {0}
IsOwn (Some event) = is_delivery event ≡ false

action-own : (context : TermContext) (seq : ℤ) (a : Action) → is_delivery (event_of context seq a) ≡ false
action-own context seq (action.Send who number terms) = refl
action-own context seq (action.New name who number terms) = refl
action-own context seq (action.Let name who) = refl
action-own context seq (action.Resolve terms) = refl
action-own context seq action.Reject = refl
action-own context seq (action.Keep name) = refl
action-own context seq (action.ResolveNamed name number terms) = refl
action-own context seq (action.RejectNamed name number) = refl
action-own context seq action.Close = refl
action-own context seq action.Die = refl

found-own : (context : TermContext) (seq : ℤ) (found : Option Action) (otherwise : Event) → is_delivery otherwise ≡ false → is_delivery (option_map_or (event_of context seq) found otherwise) ≡ false
found-own context seq None otherwise h = h
found-own context seq (Some a) otherwise h = action-own context seq a

handler-own : (script : Script) (e : End) (handled : List HandledRequest) → is_delivery (by_handler script e handled) ≡ false
handler-own script e [] = refl
handler-own script e (request ∷ below) =
    found-own (context_of e (request ∷ below)) request.seq (handler_action script e.side request) (return_of script e.side (context_of e (request ∷ below)) request) refl

taking-own : (b : Bool) → IsOwn (if b then Some event.take else None)
taking-own true = refl
taking-own false = tt

flushing-own : (b : Bool) → IsOwn (if b then Some event.flush else None)
flushing-own true = refl
flushing-own false = tt

mapped-own : (context : TermContext) (seq : ℤ) (found : Option Action) → IsOwn (option_map (event_of context seq) found)
mapped-own context seq None = tt
mapped-own context seq (Some a) = action-own context seq a

if-own : (b : Bool) (found : Option Event) → IsOwn found → IsOwn (if b then found else None)
if-own true found h = h
if-own false found h = tt

or-own : (first second : Option Event) → IsOwn first → IsOwn second → IsOwn (or_else first second)
or-own None second h k = k
or-own (Some x) second h k = h

main-own : (script : Script) (e : End) (progress : Progress) → IsOwn (by_main script e progress)
main-own script e progress = if-own (is_open e.state) (option_map (event_of (context_of e []) no_id) (action_at script e.side (point.Main progress.main))) (mapped-own (context_of e []) no_id (action_at script e.side (point.Main progress.main)))

top-own : (script : Script) (e : End) (progress : Progress) (found : StackTop) → IsOwn (by_top script e progress found)
top-own script e progress top.Empty = or-own (by_taking e) (by_main script e progress) (taking-own (is_some (taken_next e))) (main-own script e progress)
top-own script e progress (top.Dispatch head) = handler-own script e progress.handled
top-own script e progress (top.Unanswered head) = taking-own (is_some (taken_next e))
top-own script e progress (top.Answered head) = refl

stopped-own : (b : Bool) (found : Option Event) → IsOwn found → IsOwn (if b then Some event.die else found)
stopped-own true found h = refl
stopped-own false found h = h

dead-own : (b : Bool) (found : Option Event) → IsOwn found → IsOwn (if b then None else found)
dead-own true found h = tt
dead-own false found h = h

next-own : (script : Script) (stop : Option Stop) (e : End) (progress : Progress) → IsOwn (next_event script stop e progress)
next-own script stop e progress =
    dead-own (is_dead_end e.state) (if is_stopped stop e.side progress then Some event.die else or_else (by_top script e progress (top_of (frames_of e))) (by_flushing e))
    (stopped-own (is_stopped stop e.side progress) (or_else (by_top script e progress (top_of (frames_of e))) (by_flushing e))
    (or-own (by_top script e progress (top_of (frames_of e))) (by_flushing e) (top-own script e progress (top_of (frames_of e))) (flushing-own (may_flush e))))

delivered : (b : Bool) (x : Event) → (if b then Some event.deliver else None) ≡ Some x → is_delivery x ≡ true
delivered true x h = ap is_delivery (same x h)
  where
    same : (x : Event) → Some event.deliver ≡ Some x → x ≡ event.deliver
    same x h = cc
delivered false x h = cc

delivers-by : (setting : Setting) (choice : Choice) (state : RunState) (x : Event) (b : Bool) → choice.delivers ≡ b
    → (if b then (if may_deliver choice.side state.world then Some event.deliver else None) else own_event setting choice.side state) ≡ Some x → is_delivery x ≡ choice.delivers
delivers-by setting choice state x true is h = delivered (may_deliver choice.side state.world) x h ∙ sym is
delivers-by setting choice state x false is h = subst IsOwn h (next-own setting.script setting.stop (end_of choice.side state.world) (progress_of choice.side state.lines)) ∙ sym is

-- a choice delivers if its event is a delivery
pub event-delivers : (setting : Setting) (choice : Choice) (state : RunState) (x : Event) → event_by setting choice state ≡ Some x → is_delivery x ≡ choice.delivers
event-delivers setting choice state x h = delivers-by setting choice state x choice.delivers refl h

-- The result of an event that is possible

pub record Happens (setting : Setting) (side : Side) (state : RunState) (event : Event) (next : RunState) : Type 0 where
  pub output : Output
  pub is : output_of setting.schema state.world (record { side = side; event = event }) ≡ Some output
  pub world : next.world ≡ world_after (record { side = side; event = event }) output state.world
  pub lines : next.lines ≡ state.lines ++ output.lines

happens-by : (setting : Setting) (side : Side) (state : RunState) (event : Event) (next : RunState) (found : Option Output) → output_of setting.schema state.world (record { side = side; event = event }) ≡ found → is_some found ≡ true
    → next ≡ (let made : RunState = passed_by found (record { side = side; event = event }) state.world in record { world = made.world; lines = state.lines ++ made.lines }) → Happens setting side state event next
happens-by setting side state event next None is some h = cc
happens-by setting side state event next (Some output) is some h = record { output = output; is = is; world = ap (λ (s : RunState). s.world) h; lines = ap (λ (s : RunState). s.lines) h }

pub choice-happens : (setting : Setting) (choice : Choice) (state next : RunState) (c : Chooses setting choice state next) → Happens setting choice.side state c.event next
choice-happens setting choice state next c =
    happens-by setting choice.side state c.event next (output_of setting.schema state.world (record { side = choice.side; event = c.event })) refl c.doable c.is

-- Both ends have their sides
pub record HaveSides (world : World) : Type 0 where
  pub parent : world.parent.side ≡ sides.Parent
  pub child : world.child.side ≡ sides.Child

pub side-of : (world : World) (side : Side) → HaveSides world → (end_of side world).side ≡ side
side-of world sides.Parent h = h.parent
side-of world sides.Child h = h.child

sides-after : (side : Side) (event : Event) (output : Output) (world : World) → output.end.side ≡ side → HaveSides world → HaveSides (world_after (record { side = side; event = event }) output world)
sides-after sides.Parent event output world is h = record { parent = is; child = h.child }
sides-after sides.Child event output world is h = record { parent = h.parent; child = is }

-- What is known when choices have been played: what they did was printed after what was there before.
pub record HasPlayed (choice : Choice) (state next : RunState) : Type 0 where
  pub sides : HaveSides next.world
  pub choices : choices_of next.lines ≡ choices_of state.lines ++ choice ∷ []

pub plays-one : (setting : Setting) (choice : Choice) (state next : RunState) → Chooses setting choice state next → HaveSides state.world → HasPlayed choice state next
plays-one setting choice state next c sided =
    let h = choice-happens setting choice state next c in
    let e : End = end_of choice.side state.world in
    let p : Prints e c.event h.output = step-prints setting.schema e (link_to choice.side state.world) c.event h.output h.is in
    let own : e.side ≡ choice.side = side-of state.world choice.side sided in
    record {
      sides = subst HaveSides (sym h.world) (sides-after choice.side c.event h.output state.world (p.side ∙ own) sided);
      choices =
          ap choices_of h.lines ∙ filter_map-append choice_of state.lines h.output.lines
          ∙ ap (λ cs. choices_of state.lines ++ cs)
          (prints-choice e c.event h.output p
          ∙ ap (λ (s : Side). (record { side = s; delivers = is_delivery c.event }) ∷ []) own
          ∙ ap (λ (b : Bool). (record { side = choice.side; delivers = b }) ∷ []) (event-delivers setting choice state c.event c.has));
    }

pub plays-all : (setting : Setting) (choices : List Choice) (from last : RunState) → played setting choices from ≡ Some last → HaveSides from.world → choices_of last.lines ≡ choices_of from.lines ++ choices
plays-all setting [] from last h sided =
    let same : from ≡ last = cc in
    ap (λ (s : RunState). choices_of s.lines) (sym same) ∙ sym (append-nil (choices_of from.lines))
plays-all setting (choice ∷ more) from last h sided =
    let p : PlaysOn setting choice more from last = plays_on setting choice more from last h in
    let one : HasPlayed choice from p.next = plays-one setting choice from p.next (chooses setting choice from p.next p.first) sided in
    plays-all setting more p.next last p.rest one.sides ∙ ap (λ cs. cs ++ more) one.choices ∙ append_assoc (choices_of from.lines) (choice ∷ []) more

pub begin-sides : (setting : Setting) → HaveSides (beginning_of setting).world
begin-sides setting = record { parent = refl; child = refl }

pub choices_are_read : ChoicesAreRead
choices_are_read setting choices state h = plays-all setting choices (beginning_of setting) state h (begin-sides setting)

pub case_worlds_are_one : CaseWorldsAreOne
case_worlds_are_one setting one other state next h k same =
    let as_one : one ≡ other = sym (choices_are_read setting one state h) ∙ ap choices_of same ∙ choices_are_read setting other next k in
    let both : Some state ≡ Some next = sym h ∙ ap (λ cs. played setting cs (beginning_of setting)) as_one ∙ k in
    (as_one, cc)
