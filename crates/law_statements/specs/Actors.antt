-- The actors of an end, by its lines.
use Rattle.std.specs.Prelude.{◌==◌, ℤ, pos, Bool, ◌&&◌, not, if◌then◌else◌, List, [], ◌∷◌, filter_map, Option, Some, None, option_and_then}
use Rattle.std.specs.Option.{option_map_or}
use Rattle.ipdl_base.specs.declared.kinds.Side.{Side}
use Rattle.ipdl_base.specs.declared.line.Line.{Line}
use Rattle.ipdl_base.specs.declared.line.What.{What}
use Rattle.ipdl_base.specs.declared.line.What.TheVariants as what
use Rattle.ipdl_base.specs.declared.schema.Schema.{Schema}
use Rattle.history_reading.specs.declared.parts.BuiltActor.{BuiltActor}
use Rattle.history_reading.specs.EndReading.{was_built}
use Rattle.history_reading.specs.Numbers.{has, id_of}
use Rattle.history_reading.specs.SentPacket.{Request, request_of}
use Rattle.ipdl_base.specs.Sides.{other, top_id}
use Rattle.law_statements.specs.Said.{said_by, made_of, last_event}
use Rattle.law_statements.specs.Packets.{sent}

-- the actor of an event: the one that its request goes to, or 0
abbrev pub event_actor : What → ℤ
event_actor (what.Send n route number values) = route
event_actor (what.Call n transaction route number values) = route
event_actor (what.Take n route number values) = route
event_actor _ = pos 0

abbrev pub last_actor : List What → ℤ
last_actor own = option_map_or event_actor (last_event own) (pos 0)

-- the actors that were built, each under the actor of its event; the top actor is the first
abbrev pub built_at : List What → What → Option BuiltActor
built_at before (what.Built id protocol) = Some (record { id = id; manager = last_actor before })
built_at before _ = None

abbrev pub built : List What → List BuiltActor
built own = record { id = top_id; manager = pos 0 } ∷ made_of built_at [] own

-- the ids of the actors that fell
abbrev pub id_fallen : What → Option ℤ
id_fallen (what.Fall id why) = Some id
id_fallen _ = None

abbrev pub fallen : List What → List ℤ
fallen own = filter_map id_fallen own

-- an actor lives if it was built and has not fallen
abbrev pub lives : List What → ℤ → Bool
lives own id = was_built (built own) id && not (has (fallen own) id)

-- the actor that a request makes: the k-th of its sender
abbrev pub made_id : Side → Request → Option ℤ
made_id sender r = if r.made == 0 then None else Some (id_of sender r.made)

abbrev pub made_by : Schema → Side → List Line → ℤ → Option ℤ
made_by schema sender before n = option_and_then (made_id sender) (request_of (sent schema (said_by sender before)) n)

-- the actor that an event of an end makes: that of its own request that is sent, or of the other end's request that
-- is taken
abbrev pub made_in : Schema → Side → List Line → What → Option ℤ
made_in schema end before (what.Send n route number values) = made_by schema end before n
made_in schema end before (what.Call n transaction route number values) = made_by schema end before n
made_in schema end before (what.Take n route number values) = made_by schema (other end) before n
made_in schema end before _ = None
