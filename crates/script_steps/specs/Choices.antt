-- The histories of a script: each side does what its script says. Only two things are free: which side makes a step, and
-- whether this is its own step or a delivery.
use Rattle.std.specs.Prelude.{◌≡◌, ℕ, nat_lt, Bool, true, false, ◌&&◌, if◌then◌else◌, List, [], ◌∷◌, ◌++◌, filter_map, Option, Some, None, is_some, option_and_then}
use Rattle.handler_script.specs.declared.script.Script.{Script}
use Rattle.ipdl_base.specs.declared.kinds.Side.{Side}
use Rattle.ipdl_base.specs.declared.line.Line.{Line}
use Rattle.ipdl_base.specs.declared.line.What.{What}
use Rattle.ipdl_base.specs.declared.line.What.TheVariants as what
use Rattle.ipdl_base.specs.declared.schema.Schema.{Schema}
use Rattle.ipdl_base.specs.Lines.{is_effect}
use Rattle.channel_model.specs.Ends.{World, end_of, link_to, opening}
use Rattle.channel_model.specs.Events.{Event, Move}
use Rattle.channel_model.specs.Events as event
use Rattle.channel_model.specs.Outputs.{is_open}
use Rattle.channel_model.specs.Runs.{RunState, output_of, happens}
use Rattle.channel_model.specs.Steps.{first_packet}
use Rattle.schedules.specs.declared.stop.Stop.{Stop}
use Rattle.script_steps.specs.NextEvent.{next_event}
use Rattle.script_steps.specs.Progress.{progress_of}

-- What a run is given: a schema, a script, a stop if there is one, and the greatest number of events that a side may have.
pub record Setting : Type 0 where
  pub schema : Schema
  pub script : Script
  pub stop : Option Stop
  pub limit : ℕ

-- both ends at the start, with no line
abbrev pub beginning_of : Setting → RunState
beginning_of setting = record { world = opening setting.script.top; lines = [] }

-- the next step that a side makes on its own
abbrev pub own_event : Setting → Side → RunState → Option Event
own_event setting side state = next_event setting.script setting.stop (end_of side state.world) (progress_of side state.lines)

-- whether a side may have a packet delivered: its end is open, and one is on the link to it
abbrev pub may_deliver : Side → World → Bool
may_deliver side world = is_open (end_of side world).state && is_some (first_packet (link_to side world))

-- whether a side has fewer events than the limit
abbrev pub is_within : Setting → Side → RunState → Bool
is_within setting side state = nat_lt (progress_of side state.lines).events setting.limit

-- A side makes a step of its own, or has a packet delivered.
pub record Choice : Type 0 where
  pub side : Side
  pub delivers : Bool

-- the event of a choice, if there is one
abbrev pub event_by : Setting → Choice → RunState → Option Event
event_by setting choice state =
    if choice.delivers then (if may_deliver choice.side state.world then Some event.deliver else None) else own_event setting choice.side state

-- the run after an event of a side: an impossible event changes nothing
abbrev pub following_event : Setting → Side → RunState → Event → RunState
following_event setting side state event =
    let next : RunState = happens setting.schema state.world (record { side = side; event = event }) in
    record { world = next.world; lines = state.lines ++ next.lines }

-- whether an event of a side is possible
abbrev pub is_doable : Setting → Side → RunState → Event → Bool
is_doable setting side state event = is_some (output_of setting.schema state.world (record { side = side; event = event }))

-- the run after a choice: the side has fewer events than the limit, and the choice has an event, which is possible
abbrev pub chosen : Setting → Choice → RunState → Option RunState
chosen setting choice state =
    if is_within setting choice.side state then option_and_then (λ event. if is_doable setting choice.side state event then Some (following_event setting choice.side state event) else None) (event_by setting choice state) else None

-- the run after choices, one after another
abbrev pub played : Setting → List Choice → RunState → Option RunState
played setting [] state = Some state
played setting (choice ∷ more) state = option_and_then (played setting more) (chosen setting choice state)

-- Lines are a history of the script if some choices from the start make them.
pub record IsCaseHistory (setting : Setting) (lines : List Line) : Type 0 where
  pub choices : List Choice
  pub state : RunState
  pub plays : played setting choices (beginning_of setting) ≡ Some state
  pub made : state.lines ≡ lines

-- whether a line is that of a delivery
abbrev pub is_delivery_line : What → Bool
is_delivery_line (what.DeliverRequest seq) = true
is_delivery_line (what.DeliverReply seq) = true
is_delivery_line what.DeliverGoodbye = true
is_delivery_line what.DeliverBroken = true
is_delivery_line _ = false

-- the choice that a line records: the line of an event has one, the line of an effect does not
abbrev pub choice_of : Line → Option Choice
choice_of line = if is_effect line.what then None else Some (record { side = line.side; delivers = is_delivery_line line.what })

-- the choices that lines record
abbrev pub choices_of : List Line → List Choice
choices_of lines = filter_map choice_of lines
