-- What every run of a script keeps.
use Rattle.std.specs.Prelude.{◌≡◌, ◌+◌, ◌*◌, ◌<◌, ◌≤◌, true, false, List, [], ◌∷◌, length, Some, None}
use Rattle.std.specs.List.{AllByRecursion, AllZip}
use Rattle.handler_script.specs.declared.action.Action.{Action}
use Rattle.handler_script.specs.declared.script.Script.{Script}
use Rattle.handler_script.specs.declared.term.Terms.{Terms}
use Rattle.handler_script.specs.Blocks.{BlockContext}
use Rattle.handler_script.specs.Valid.{EachTermFits, IsValid, answers_handled}
use Rattle.handler_script.specs.ValueOf.{TermContext, values_of}
use Rattle.ipdl_base.specs.declared.kinds.Side.{Side}
use Rattle.ipdl_base.specs.declared.line.Line.{Line}
use Rattle.ipdl_base.specs.declared.schema.ParamRow.{ParamRow}
use Rattle.ipdl_base.specs.declared.schema.Schema.{Schema}
use Rattle.ipdl_base.specs.Sound.{IsSound}
use Rattle.value_types.specs.HasType.{HaveTypes}
use Rattle.history.specs.Text.{line_text}
use Rattle.history_reading.specs.declared.law.Law.{Law}
use Rattle.history_reading.specs.Holds.{Holds, IsReadable}
use Rattle.nesting_core.specs.Frames.{head_of}
use Rattle.channel_model.specs.Bounds.{unsettled}
use Rattle.channel_model.specs.Answers.{released}
use Rattle.channel_model.specs.Ends.{End, Packet, StackEntry, end_of, link_to}
use Rattle.channel_model.specs.Events.{Event}
use Rattle.channel_model.specs.Events as event
use Rattle.channel_model.specs.Fitting.{IsFitting, FitsPacket}
use Rattle.ipdl_base.specs.Sides.{other}
use Rattle.channel_model.specs.Outputs.{Output, is_open, is_dead_end}
use Rattle.channel_model.specs.Refusals.{packet_refusal}
use Rattle.channel_model.specs.Runs.{RunState, is_still}
use Rattle.channel_model.specs.Sends.{frames_of}
use Rattle.channel_model.specs.States.{IsAnswered}
use Rattle.channel_model.specs.Steps.{step}
use Rattle.channel_laws.specs.BoundedRuns.{delivered_at, waiting_of}
use Rattle.schedules.specs.declared.turn.Turn.{Turn}
use Rattle.script_steps.specs.Choices.{Setting, Choice, beginning_of, choice_of, own_event, may_deliver, is_within, is_doable, chosen, played, IsCaseHistory}
use Rattle.script_steps.specs.NextEvent.{handler_action}
use Rattle.script_steps.specs.Progress.{HandledRequest, progress_of, lines_of}
use Rattle.script_steps.specs.Turns.{turn_choice, led_to, is_quiet}
use Rattle.script_runs.specs.Allowed.{IsAllowed}
use Rattle.script_runs.specs.Contexts.{FitsContext}
use Rattle.script_runs.specs.Dispatches.{dispatches, dispatches_after}
use Rattle.script_runs.specs.Handlers.{IsDispatchOf, has_answered, IsHandlerOf}
use Rattle.script_runs.specs.Told.{choice_told}

-- Terms that fit a block represent values of the types, if their context fits the block.
abbrev pub TermsStandForValues : Type 0
TermsStandForValues =
    (schema : Schema) (block : BlockContext) (context : TermContext) (types : List ParamRow) (terms : Terms) → FitsContext schema block context → EachTermFits schema block types terms → HaveTypes schema types (values_of context terms)

-- In a valid script, no action before one that answers its request, or keeps its resolver, does so too.
abbrev pub AnswersComeOnce : Type 0
AnswersComeOnce =
    (schema : Schema) (script : Script) (side : Side) (request : HandledRequest) (action : Action)
    → IsValid schema script → handler_action script side request ≡ Some action → answers_handled action ≡ true → has_answered script side request ≡ false

-- The requests whose handlers run, by the lines of a side, are the dispatches of its end's stack, by number and message, in
-- order. A dead end has no such request.
pub record AreDispatched (setting : Setting) (state : RunState) (side : Side) : Type 0 where
  pub handled : AllZip IsDispatchOf (dispatches (end_of side state.world).stack) (progress_of side state.lines).handled
  pub dead : is_dead_end (end_of side state.world).state ≡ true → (progress_of side state.lines).handled ≡ []

abbrev pub HandledAreDispatched : Type 0
HandledAreDispatched =
    (setting : Setting) (choices : List Choice) (state : RunState) → IsSound setting.schema → played setting choices (beginning_of setting) ≡ Some state → (side : Side) → AreDispatched setting state side

-- no side may have 2^28 events
abbrev pub HasLimit : Setting → Type 0
HasLimit setting = setting.limit < 268435456

-- If the script is valid, each of them is kept as it was taken, with its resolver as long as its handler has not answered.
abbrev pub HandlersStand : Type 0
HandlersStand =
    (setting : Setting) (choices : List Choice) (state : RunState) → IsSound setting.schema → IsValid setting.schema setting.script → HasLimit setting → played setting choices (beginning_of setting) ≡ Some state
    → (side : Side) → AllZip (IsHandlerOf setting.schema setting.script side (end_of side state.world)) (dispatches (end_of side state.world).stack) (progress_of side state.lines).handled

-- The dispatches of an end after a step are those after its event.
abbrev pub StepsChangeDispatches : Type 0
StepsChangeDispatches = (schema : Schema) (e : End) (link : List Packet) (event : Event) (output : Output) → step schema e link event ≡ Some output → dispatches output.end.stack ≡ dispatches_after schema e event

-- In a run no two dispatches have the resolver of one request: if the innermost resolver is used or kept, the other
-- dispatches do not change.
abbrev pub ResolversAreApart : Type 0
ResolversAreApart =
    (setting : Setting) (choices : List Choice) (state : RunState) → IsSound setting.schema → played setting choices (beginning_of setting) ≡ Some state
    → (side : Side) (top : StackEntry) (below : List StackEntry) → dispatches (end_of side state.world).stack ≡ top ∷ below → top.resolves ≡ true → released (head_of top.frame).seq (top ∷ below) ≡ record top { resolves = false } ∷ below

-- What ends keep and send in a run of a script fits the schema, and an open end does not refuse the packet that comes next.
pub record FitsCase (setting : Setting) (state : RunState) (side : Side) : Type 0 where
  pub end : IsFitting setting.schema (end_of side state.world)
  pub link : AllByRecursion (FitsPacket setting.schema) (link_to side state.world)
  pub accepted : (packet : Packet) (rest : List Packet) → is_open (end_of side state.world).state ≡ true → link_to side state.world ≡ packet ∷ rest → packet_refusal setting.schema (end_of side state.world) packet ≡ None

abbrev pub CaseWorldsFit : Type 0
CaseWorldsFit =
    (setting : Setting) (choices : List Choice) (state : RunState) → IsSound setting.schema → HasLimit setting → played setting choices (beginning_of setting) ≡ Some state → (side : Side) → FitsCase setting state side

-- In a run of a valid script, what a side does next may be tried at its end and is possible, and so is each delivery. So a
-- turn whose side is within the limit leads to where its choice leads.
pub record EventsArePossible (setting : Setting) (state : RunState) : Type 0 where
  pub allowed : (side : Side) (next : Event) → own_event setting side state ≡ Some next → IsAllowed setting.schema (end_of side state.world) next
  pub own : (side : Side) (next : Event) → own_event setting side state ≡ Some next → is_doable setting side state next ≡ true
  pub delivery : (side : Side) → may_deliver side state.world ≡ true → is_doable setting side state event.deliver ≡ true
  pub turn : (turn : Turn) (choice : Choice) → turn_choice setting turn state ≡ Some choice → is_within setting turn.side state ≡ true → chosen setting choice state ≡ Some (led_to setting choice state)

abbrev pub ScriptEventsArePossible : Type 0
ScriptEventsArePossible =
    (setting : Setting) (choices : List Choice) (state : RunState) → IsSound setting.schema → IsValid setting.schema setting.script → HasLimit setting → played setting choices (beginning_of setting) ≡ Some state → EventsArePossible setting state

-- If a run of a script is quiet, nothing but acts can happen, and no end waits.
pub record IsAtRest (setting : Setting) (state : RunState) : Type 0 where
  pub still : is_still setting.schema state.world ≡ true
  pub answered : (side : Side) → AllByRecursion IsAnswered (frames_of (end_of side state.world))

abbrev pub RestOfCasesIsStill : Type 0
RestOfCasesIsStill =
    (setting : Setting) (choices : List Choice) (state : RunState) → IsSound setting.schema → played setting choices (beginning_of setting) ≡ Some state → is_quiet setting state ≡ true → IsAtRest setting state

-- Lines can be read, and every law of histories holds of them.
pub record ObeysAllLaws (schema : Schema) (lines : List Line) : Type 0 where
  pub readable : IsReadable schema lines
  pub laws : (law : Law) → Holds law schema lines

-- The histories of a script obey all laws.
abbrev pub CaseHistoriesObeyAllLaws : Type 0
CaseHistoriesObeyAllLaws = (setting : Setting) (lines : List Line) → IsSound setting.schema → IsCaseHistory setting lines → ObeysAllLaws setting.schema lines

-- How many lines and packets a side has for its events. It has no more events than the limit, and has sent and been
-- delivered no more requests than it has events. Its lines, with what it has still to settle, are at most five for each
-- event and one more. What was delivered of it, with what waits on the link and in its outbox, is at most two packets for
-- each event.
pub record HasRoom (setting : Setting) (state : RunState) (side : Side) : Type 0 where
  pub events : (progress_of side state.lines).events ≤ setting.limit
  pub sent : (end_of side state.world).sent ≤ (progress_of side state.lines).events
  pub delivered : (end_of side state.world).delivered ≤ (progress_of side state.lines).events
  pub lines : length (lines_of side state.lines) + unsettled (end_of side state.world) ≤ 5 * (progress_of side state.lines).events + 1
  pub packets : length (delivered_at (other side) state.lines) + waiting_of side state.world ≤ 2 * (progress_of side state.lines).events

abbrev pub CasesHaveRoom : Type 0
CasesHaveRoom = (setting : Setting) (choices : List Choice) (state : RunState) → IsSound setting.schema → played setting choices (beginning_of setting) ≡ Some state → (side : Side) → HasRoom setting state side

-- The text of a line shows the choice that the line records: which side made a step, and whether by a delivery.
abbrev pub LineTextsTellChoices : Type 0
LineTextsTellChoices = (schema : Schema) (before : List Line) (line : Line) → choice_told (line_text schema before line) ≡ choice_of line
