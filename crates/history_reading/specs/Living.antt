-- The law Living: what is sent, taken and dropped is so by the actors that live, and none is built twice.
use Rattle.std.specs.Prelude.{ℕ, ℤ, pos, Bool, true, false, not, ◌&&◌, ◌==◌, if◌then◌else◌, List}
use Rattle.std.specs.Option.{option_map_or}
use Rattle.std.specs.Ordering.{int_eq}
use Rattle.ipdl_base.specs.declared.kinds.Side.{Side}
use Rattle.ipdl_base.specs.declared.schema.Schema.{Schema}
use Rattle.ipdl_base.specs.declared.schema.ParamRow.{ParamRow}
use Rattle.ipdl_base.specs.declared.value.Values.{Values}
use Rattle.ipdl_base.specs.declared.line.What.{What}
use Rattle.ipdl_base.specs.declared.line.What.TheVariants as what
use Rattle.history_reading.specs.declared.parts.EventKind.{EventKind}
use Rattle.history_reading.specs.declared.parts.EventKind.TheVariants as event
use Rattle.history_reading.specs.EndReading.{EndReading, lives, own_request, was_built}
use Rattle.history_reading.specs.Nulled.{all_live, missing}
use Rattle.history_reading.specs.Numbers.{id_of}
use Rattle.ipdl_base.specs.Sides.{other as other_side}
use Rattle.ipdl_base.specs.Signatures.{params_of}
use Rattle.history_reading.specs.SentPacket.{Request}

-- the actor that a request makes, 0 where it makes none
abbrev pub made_id : Side → Request → ℤ
made_id sender r = if r.made == 0 then pos 0 else id_of sender r.made

-- the actor that the request of a number of an end makes
abbrev pub request_makes : Side → EndReading → ℤ → ℤ
request_makes sender own n = option_map_or (made_id sender) (own_request own n) (pos 0)

-- the actor that is made in an event: by the request that is sent, or by the other end's that is taken
abbrev pub event_makes : Side → EndReading → EndReading → EventKind → ℤ
event_makes end own other (event.Sends n route) = request_makes end own n
event_makes end own other (event.Takes n route) = request_makes (other_side end) other n
event_makes end own other event.Ends = pos 0
event_makes end own other event.Closes = pos 0
event_makes end own other event.Other = pos 0

abbrev pub is_made : Side → EndReading → EndReading → ℤ → Bool
is_made end own other id = not (int_eq id (pos 0)) && int_eq (event_makes end own other own.event) id

-- an id is that of the first missing actor in values
abbrev pub is_missing_in : Schema → EndReading → List ParamRow → Values → ℤ → Bool
is_missing_in schema own params vs id = option_map_or (λ first. int_eq first id) (missing schema (lives own) params vs) false

-- and in those of the other end's request of a number
abbrev pub is_first_missing : Schema → EndReading → EndReading → ℤ → ℤ → Bool
is_first_missing schema own other n id = option_map_or (λ r. is_missing_in schema own (params_of schema r.number) r.values id) (own_request other n) false

-- the actor for which a request is dropped does not live: it is the request's own, or that lives, and it is the first missing one in the values
abbrev pub is_dropped_for : Schema → EndReading → EndReading → ℤ → ℤ → ℤ → Bool
is_dropped_for schema own other n route id =
    if lives own id then false else (if int_eq id route then true else lives own route && is_first_missing schema own other n id)

-- a request is taken by an actor that lives, and each actor in its values is null or lives
abbrev pub is_taken_alive : Schema → EndReading → ℤ → ℕ → Values → Bool
is_taken_alive schema own route number values = lives own route && all_live schema (lives own) (params_of schema number) values

-- an actor is built for the first time, and is what the event makes
abbrev pub is_built_right : Side → EndReading → EndReading → ℤ → Bool
is_built_right end own other id = not (was_built own.built id) && is_made end own other id

-- a line of an end, after what is read of that end and of the other, obeys the law
abbrev pub living_line : Schema → Side → EndReading → EndReading → What → Bool
living_line schema end own other (what.Send n route number values) = lives own route
living_line schema end own other (what.Call n transaction route number values) = lives own route
living_line schema end own other (what.Take n route number values) = is_taken_alive schema own route number values
living_line schema end own other (what.Drop n route number id) = is_dropped_for schema own other n route id
living_line schema end own other (what.Built id protocol) = is_built_right end own other id
living_line schema end own other _ = true
