-- What moves do to a world, one after another, and the histories that they make.
use Rattle.std.specs.Prelude.{◌≡◌, ℕ, ◌==◌, Bool, true, false, not, ◌&&◌, ◌||◌, List, [], ◌∷◌, ◌++◌, drop, length, slice_get, Option, Some, None, is_some}
use Rattle.std.specs.Option.{option_map_or}
use Rattle.ipdl_base.specs.declared.line.Line.{Line}
use Rattle.ipdl_base.specs.Lines.{is_effect}
use Rattle.ipdl_base.specs.declared.kinds.Side.{Side}
use Rattle.ipdl_base.specs.declared.kinds.Side.TheVariants as sides
use Rattle.ipdl_base.specs.declared.schema.Schema.{Schema}
use Rattle.channel_model.specs.Ends.{World, Packet, end_of, link_to, opening}
use Rattle.channel_model.specs.Events.{Event, Move}
use Rattle.channel_model.specs.Events as event
use Rattle.channel_model.specs.Outputs.{Output}
use Rattle.channel_model.specs.Steps.{step}

-- A world and the lines that led to it.
pub record RunState : Type 0 where
  pub world : World
  pub lines : List Line

abbrev pub is_delivery : Event → Bool
is_delivery event.deliver = true
is_delivery _ = false

-- a link toward an end after an event there: a delivery removes its first packet
abbrev pub after_event : Event → List Packet → List Packet
after_event event.deliver link = drop 1 link
after_event _ link = link

-- the world after a step: the end is the new one, and its packets are last on the link away from it
abbrev pub world_after : Move → Output → World → World
world_after move output world = elim move.side [
  | sides.Parent ↦ record { parent = output.end; child = world.child; to_parent = after_event move.event world.to_parent; to_child = world.to_child ++ output.packets }
  | sides.Child ↦ record { parent = world.parent; child = output.end; to_parent = world.to_parent ++ output.packets; to_child = after_event move.event world.to_child }
]

-- the output of a move in a world, or `None` where the move is not possible
abbrev pub output_of : Schema → World → Move → Option Output
output_of schema world move = step schema (end_of move.side world) (link_to move.side world) move.event

abbrev pub passed_by : Option Output → Move → World → RunState
passed_by None move world = record { world = world; lines = [] }
passed_by (Some output) move world = record { world = world_after move output world; lines = output.lines }

-- The result of a move. A move that is not possible changes nothing and prints no line.
abbrev pub happens : Schema → World → Move → RunState
happens schema world move = passed_by (output_of schema world move) move world

-- the result of moves, one after another
abbrev pub run : Schema → List Move → World → RunState
run schema [] world = record { world = world; lines = [] }
run schema (move ∷ moves) world =
    let first : RunState = happens schema world move in
    let rest : RunState = run schema moves first.world in
    record { world = rest.world; lines = first.lines ++ rest.lines }

-- the history that moves make from the opening world of a top protocol
abbrev pub history_of : Schema → ℕ → List Move → List Line
history_of schema top moves = (run schema moves (opening top)).lines

-- lines are a legal history under a schema and a top protocol: some moves make them
abbrev pub IsLegalHistory : Schema → ℕ → List Line → Type 0
IsLegalHistory schema top lines = (moves : List Move) × (history_of schema top moves ≡ lines)

-- a moment of a history: a place before an event, or the end
abbrev pub is_moment : List Line → ℕ → Bool
is_moment lines k = (k == length lines) || option_map_or (λ line. not (is_effect line.what)) (slice_get lines k) false

-- whether an event is possible at a side
abbrev pub is_possible : Schema → World → Side → Event → Bool
is_possible schema world side event = is_some (output_of schema world (record { side = side; event = event }))

-- whether a side has nothing to deliver, take, return, resume or flush
abbrev pub is_still_at : Schema → World → Side → Bool
is_still_at schema world side =
    not (is_possible schema world side event.deliver)
    && (not (is_possible schema world side event.take)
    && (not (is_possible schema world side (event.return None))
    && (not (is_possible schema world side event.resume)
    && not (is_possible schema world side event.flush))))

-- whether nothing can happen by itself: only acts are left
abbrev pub is_still : Schema → World → Bool
is_still schema world = is_still_at schema world sides.Parent && is_still_at schema world sides.Child
