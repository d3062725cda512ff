-- What has arrived at an end and not left, and the state of an end, by its lines.
use Rattle.std.specs.Prelude.{◌≡◌, ◌<◌, Bool, true, false, if◌then◌else◌, List, [], ◌++◌, reverse, count_by, filter_map, Option, Some, None, unwrap_or}
use Rattle.std.specs.List.{list_any, slice_get}
use Rattle.ipdl_base.specs.declared.kinds.EndState.{EndState}
use Rattle.ipdl_base.specs.declared.kinds.EndState.TheVariants as state
use Rattle.ipdl_base.specs.declared.line.What.{What}
use Rattle.ipdl_base.specs.declared.line.What.TheVariants as what
use Rattle.ipdl_base.specs.declared.schema.Schema.{Schema}
use Rattle.history_reading.specs.declared.parts.PacketKind.{PacketKind}
use Rattle.history_reading.specs.declared.parts.PacketKind.TheVariants as seen
use Rattle.history_reading.specs.Numbers.{same_packet}
use Rattle.law_statements.specs.Said.{made_of}
use Rattle.law_statements.specs.Stack.{is_sync_of}

-- a packet arrives, or leaves, or the end gives up all that has arrived
pub data Passing : Type 0 where
  arrives : PacketKind → Passing
  leaves : PacketKind → Passing
  gives_up : Passing

-- a reply arrives unless its request is sync
abbrev pub passing : Schema → List What → What → Option Passing
passing schema before (what.DeliverRequest n) = Some (arrives (seen.Request n))
passing schema before (what.DeliverReply n) = if is_sync_of schema before n then None else Some (arrives (seen.Reply n))
passing schema before what.DeliverGoodbye = Some (arrives seen.Goodbye)
passing schema before what.DeliverBroken = Some (arrives seen.Broken)
passing schema before (what.Take n route number values) = Some (leaves (seen.Request n))
passing schema before (what.Drop n route number id) = Some (leaves (seen.Request n))
passing schema before (what.Replaced n) = Some (leaves (seen.Request n))
passing schema before (what.TakeReply n) = Some (leaves (seen.Reply n))
passing schema before what.Close = Some gives_up
passing schema before what.ShutNormal = Some gives_up
passing schema before what.ShutAbnormal = Some gives_up
passing schema before what.Die = Some gives_up
passing schema before _ = None

abbrev pub passings : Schema → List What → List Passing
passings schema own = made_of (passing schema) [] own

abbrev pub is_arrival : PacketKind → Passing → Bool
is_arrival packet (arrives p) = same_packet p packet
is_arrival packet (leaves p) = false
is_arrival packet gives_up = false

abbrev pub is_leaving : PacketKind → Passing → Bool
is_leaving packet (arrives p) = false
is_leaving packet (leaves p) = same_packet p packet
is_leaving packet gives_up = false

abbrev pub is_giving_up : Passing → Bool
is_giving_up (arrives p) = false
is_giving_up (leaves p) = false
is_giving_up gives_up = true

-- a packet has arrived and not left: from some place on, after which nothing is given up, it arrives more often than
-- it leaves
pub record IsArrived (schema : Schema) (own : List What) (packet : PacketKind) : Type 0 where
  pub before : List Passing
  pub following : List Passing
  pub split : passings schema own ≡ before ++ following
  pub kept : list_any is_giving_up following ≡ false
  pub more : count_by (is_leaving packet) following < count_by (is_arrival packet) following

-- the state of an end after a line, and after all its lines
abbrev pub state_after : What → Option EndState
state_after what.DeliverGoodbye = Some state.Draining
state_after what.DeliverBroken = Some state.Draining
state_after what.Close = Some state.Closed
state_after what.ShutNormal = Some state.Closed
state_after what.ShutAbnormal = Some state.Closed
state_after what.Die = Some state.Dead
state_after _ = None

abbrev pub state_of : List What → EndState
state_of own = unwrap_or (slice_get (filter_map state_after (reverse own)) 0) state.Open
